use Rattle.std.proofs.Common.{◌≡◌, ℕ, Bool, true, false, cond, drop, ◌∙◌, inl, inr, ne_eqb}
use mir.Val.{bool_byte}
use Rattle.schema.specs.Table.{field_at}
use Rattle.fields.proofs.Laws.{named-last, named-type, named-optional}
use Rattle.fields.proofs.has_signature.Goals as goal
use Rattle.fields.proofs.has_signature.Goals.{then-number, else-number}

byte : (r : ℕ) (b d : Bool) → r ≡ bool_byte b → b ≡ d → r ≡ cond d 1 0
byte r true d e f = rw (← f) e
byte r false d e f = rw (← f) e

pub returns-then-optional : goal.returns-then-optional
unfolding field_at
returns-then-optional c = λ es. let h = c.if-optional.true in
    named-last (field_at es (drop c.args.row c.args.table.now)) c.args.signature.now c.args.at _ _ _ c.field_type.ensures (byte _ _ _ c.from.ensures (c.is_optional.ensures es)) (byte _ _ _ c.from-2.ensures (c.is_sequence.ensures es)) h.0 h.1

pub returns-else-optional : goal.returns-else-optional
unfolding field_at
returns-else-optional c = λ es. let f = field_at es (drop c.args.row c.args.table.now) in let x = c.args.signature.now in
    let o = byte _ _ _ c.from.ensures (c.is_optional.ensures es) in let s = byte _ _ _ c.from-2.ensures (c.is_sequence.ensures es) in
    elim c.if-number.branch [
      | then-number w ↦ elim c.if-optional.either [
        | inl h ↦ w.t-16-is ∙ ne_eqb _ _ h.1 ∙ named-optional f x c.args.at _ _ _ c.field_type.ensures o s h.0 h.1
        | inr h ↦ absurd (h w.if-number.true)
      ]
      | else-number w ↦ let h = w.if-number.false in w.t-16-is ∙ ne_eqb _ _ h ∙ named-type f x c.args.at _ _ _ c.field_type.ensures o s h
    ]
