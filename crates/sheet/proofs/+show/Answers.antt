use Prim.Native.Nat.{◌+◌, ◌-◌, ◌*◌, ◌<◌, ◌≤◌}
use native.Mathlib.Omega.{arith}
use native.Mathlib.Nat.{add-sub_cancel_left}
use mathlib.Core.Path.{◌≡◌, sym, ◌∙◌, refl, ap}
use mathlib.Core.Bool.{true, false}
use mathlib.Core.Logic.{◌⊎◌, inl, inr}
use mathlib.Core.List.{List, [], ◌∷◌, ◌++◌}
use lib.ListN.{length, drop}
use lib.Dec.{leb}
use Rattle.schema.specs.FieldKinds.{kind_from, plain_width}
use Rattle.schema.specs.declared.FieldKind.{FieldKind}
use Rattle.schema.specs.declared.Scope.{Scope}
use Rattle.schema.specs.Layout.{Layout}
use Rattle.message.specs.Scopes.{Lies}
use Rattle.wire.specs.Bytes.{part, splice}
use Rattle.schema.specs.Schema.{field_width, kind_width, value_width, shallow}
use Rattle.schema.specs.Table.{field_at, enums, schema}
use Rattle.schema.proofs.Types.{plain-is, width-sequence, width_one, width-optional, width-required}
use Rattle.schema.proofs.Groups.{static-inside, placed-inside}
use Rattle.schema.proofs.Depth.{and_both, shallow-some, wide-kind, wide-field}
use Rattle.message.specs.Sheet.{mark_bytes, VA, ST, SG, SQ, GB, XT, XU, NO, GE}
use Rattle.schema.specs.declared.FieldKind.TheVariants.{Plain}
use Rattle.settings.specs.Store.{lax}
use Rattle.message.specs.Walk.{byte, word, items_r}
use Rattle.message.specs.Check.{inner_of, width_of, static_of}
use Rattle.message.proofs.CheckFields.{plain-wide, wide-number, wide-inline, wide-indirect, wide-static, wide-dynamic, kind-static}
use Rattle.sheet.specs.Show.{just, Fits, id_of, number_of, passage, then, item_of, value_of, field_of, group_of, takes, end_of}
use Rattle.sheet.proofs.ShowLaws.{Opens, Left, begun, opened, first_fits, called, fits-opens, shown-opens, shown-none, shown-just, shown-mark, shown-bytes, mark-room, bytes-room, just-room, shown-then}
use Rattle.sheet.proofs.ShowReaders.{is-VA, is-ST, is-SG, is-SQ, is-GB, is-XT, is-XU, marked-inline, inline-count, inline-length, marked-inner, field_plain, field-absent, field-present, field-always, value-item, sequence-inside, sequence-opens, wide-plain, item-plain, item-number, item-inline, item-static, item-text, text-inside, item-group, group-inside, items-plain, extension-none, extension-inside, extension-empty, extension-some, extending-inside, extending-known, extending-kept, end_whole, end-fields, head-whole, group-parts, Readable, group-readable}
use Prim.Native.Nat.{ℕ}
use borrow.Author.Rules.{rules}
use Rattle.sheet.proofs.Loops.{items-start, item-inside, item-fits, items-next, items-done, FieldsLeft, fields-start, field-listed, field-inside, field-flat, field_fits, fields-next, fields-done}
use Rattle.sheet.proofs.+show.Goals.{show_field-then-is_optional+else-bytes-at-ne1, show_field-else-is_optional, show_fields-then-plain-ne0, show_fields-else-plain-ne0, show_value-then-is_sequence, show_value-else-is_sequence}
use Rattle.sheet.proofs.+show.Goals as goal

-- where a field's value stands: an optional one's behind the byte that says that it is there
field-value : (t b : List ℕ) (l d field at place : ℕ) → at + field_width (width_of t d) (field_at (enums t) (drop field t)) ≤ length b
    → (((field_at (enums t) (drop field t)).optional ≡ true) × (byte at b ≡ 1) × (place ≡ at + 1)) ⊎ (((field_at (enums t) (drop field t)).optional ≡ false) × (place ≡ at))
    → (place + value_width (width_of t d) (field_at (enums t) (drop field t)) ≤ length b) × Opens (passage (field_of t l d field) b at) (passage (value_of t l d field) b place)
field-value t b l d field at place h (inl w) = rw w.2 (omega (arith, width-optional (width_of t d) (field_at (enums t) (drop field t)) w.0, h), field-present (inner_of lax t l) (width_of t d) (static_of lax t l d) _ b at w.0 w.1)
field-value t b l d field at place h (inr w) = rw w.1 (omega (arith, width-required (width_of t d) (field_at (enums t) (drop field t)) w.0, h), field-always (inner_of lax t l) (width_of t d) (static_of lax t l d) _ b at w.0)

-- a required value without a test is shown as its bytes, which the message has and there is room for
module _ {t b : List ℕ} {l d g at pos : ℕ} {out₀ : List ℕ} {n i field place next : ℕ} {out : List ℕ} (L : FieldsLeft t b l d g at pos out₀ n i field place next out) where
  plain-left : i < n → {w : ℕ} → w ≡ plain_width (field_at (enums t) (drop field t)) → (w ≡ 0 → ⊥) → (place + w ≤ length b) × Fits (just (mark_bytes VA ++ part w place b)) next out
  plain-left h q z =
      let e = plain-is _ _ _ q z in
      (omega (arith, plain-wide (width_of t (d - 1)) _ _ _ e, field-inside L h), fits-opens _ _ _ _ (field_plain (inner_of lax t l) (width_of t (d - 1)) (static_of lax t l (d - 1)) _ b place _ _ e) (field_fits L h))

-- what is left of a value: so many items from where they start, and where the sheet goes on, which is behind the count of a sequence
value-items : (t b : List ℕ) (l d field at : ℕ) (kind : FieldKind) (width pos : ℕ) (j : ℕ × ℕ × ℕ) (out mid : List ℕ)
    → kind_from (enums t) kind ≡ (field_at (enums t) (drop field t)).kind → width ≡ kind_width (width_of t d) (kind_from (enums t) kind)
    → at + value_width (width_of t d) (field_at (enums t) (drop field t)) ≤ length b → Fits (passage (value_of t l d field) b at) pos out
    → (((field_at (enums t) (drop field t)).sequence ≡ true) × (p : ℕ) × (n : ℕ) × (next : ℕ) × (p ≡ at + word at b) × (n ≡ word p b) × (mid ≡ splice 6 pos ((83 ∷ (81 ∷ [])) ++ part 4 p b) out) × (next ≡ pos + 6) × (j ≡ (n, p + 4, next)))
    ⊎ (((field_at (enums t) (drop field t)).sequence ≡ false) × (mid ≡ out) × (j ≡ (1, at, pos)))
    → (j.1 + j.0 * width ≤ length b) × Left (passage (value_of t l d field) b at) pos out (passage (items_r width (item_of t l d kind) j.0) b j.1) j.2 mid
value-items t b l d field at kind width pos j out mid k iw h f (inl w) = let I = inner_of lax t l in let sw = width_of t d in let S = static_of lax t l d in
    let q = sequence-inside I sw S _ b at _ k w.0 _ iw w.1 w.2 w.4 w.5 _ f.reads in let o = opened _ _ _ _ _ _ _ (sequence-opens I sw S _ b at _ k w.0 _ iw w.1 w.2 w.4 w.5) (begun _ _ _ f) in
    rw w.8 (omega (arith, q), called _ _ _ _ _ _ _ o _ _ (shown-bytes SQ _ is-SQ _ _ _ _ 4 w.1 b (omega (arith, q)) w.6 w.7))
value-items t b l d field at kind width pos j out mid k iw h f (inr w) =
    rw (w.2, w.1) (omega (arith, width_one (width_of t d) (field_at (enums t) (drop field t)) w.0, ap (kind_width (width_of t d)) k, iw, h), opened _ _ _ _ _ _ _ (value-item (inner_of lax t l) (width_of t d) (static_of lax t l d) _ b at _ k w.0 _) (begun _ _ _ f))

-- what is left of a group behind its head, and what is asked for its fields
group-opened : (t k b : List ℕ) (l d at pos g n p : ℕ) (scope : Scope) (out mid : List ℕ) → Layout t k → Lies t d scope b at → Fits (group_of t l d scope b at) pos out
    → (g ≡ number_of t scope b) × (n ≡ l - takes scope) × (mid ≡ splice (length (id_of scope b)) pos (id_of scope b) out) × (p ≡ pos + length (id_of scope b))
    → Left (group_of t l d scope b at) pos out (then (passage (static_of lax t n d g) b at) (end_of t n scope b)) p mid × Readable t l d b at scope g
group-opened t k b l d at pos g n p scope out mid P h f o = (
  called _ _ _ _ _ _ _ (opened _ _ _ _ _ _ _ (group-parts t l d b at scope h _ _ o.0 o.1) (begun _ _ _ f)) _ _ (shown-just _ _ _ _ _ _ o.2 refl o.3),
  group-readable t l d b at _ P scope h _ o.0 _ f.reads,
)

pub close_group-show_extension-extension-requires : goal.close_group-show_extension-extension-requires
close_group-show_extension-extension-requires t c = let a = c.args in let R = c.requires in let L = opened _ _ _ _ _ _ _ (end_whole a.table.now a.levels a.bytes.now a.scope _ c.in-Whole.is) (begun _ _ _ R.3) in
    (search rules, (R.0, R.1, omega (arith, head-whole _ _ c.in-Whole.is, R.2), first_fits _ _ _ _ _ _ _ L))

pub close_group-show_mark-requires : goal.close_group-show_mark-requires
close_group-show_mark-requires t c = let a = c.args in let R = c.requires in let L = opened _ _ _ _ _ _ _ (end_whole a.table.now a.levels a.bytes.now a.scope _ c.in-Whole.is) (begun _ _ _ R.3) in
    just-room GE _ _ (called _ _ _ _ _ _ _ L _ _ c.show_extension-extension.ensures).fits

pub close_group-returns-in-Whole : goal.close_group-returns-in-Whole
close_group-returns-in-Whole t c = let a = c.args in let R = c.requires in let L = opened _ _ _ _ _ _ _ (end_whole a.table.now a.levels a.bytes.now a.scope _ c.in-Whole.is) (begun _ _ _ R.3) in
    (called _ _ _ _ _ _ _ L _ _ c.show_extension-extension.ensures).whole _ _ (shown-just GE 2 _ _ _ _ c.show_mark.ensures.0 refl c.show_mark.ensures.1)

pub close_group-returns-in-Fields : goal.close_group-returns-in-Fields
close_group-returns-in-Fields t c = let a = c.args in
    shown-opens _ _ _ _ _ _ (end-fields a.table.now a.levels a.bytes.now a.scope _ c.in-Fields.is) (shown-none _ _)

pub show_extending-read_u64-requires : goal.show_extending-read_u64-requires
show_extending-read_u64-requires t c = let a = c.args in let R = c.requires in let t = a.table.now in let b = a.bytes.now in let I = inner_of lax t a.levels in let ip = ap (λ (n : ℕ). a.at + n) c.read_u32.ensures.0 in
    let q = extending-inside (schema t) I b a.at _ _ ip refl _ R.3.reads in omega (arith, q.0, q.1)

pub show_extending-show_nested-requires : goal.show_extending-show_nested-requires
show_extending-show_nested-requires t c = let a = c.args in let R = c.requires in let t = a.table.now in let b = a.bytes.now in let I = inner_of lax t a.levels in let ip = ap (λ (n : ℕ). a.at + n) c.read_u32.ensures.0 in
    let q = extending-inside (schema t) I b a.at _ _ ip refl _ R.3.reads in
    let k = rw c.read_u64.ensures at (sym c.is_known.ensures) ∙ c.if-is_known.true in
    (search rules, (R.0, R.1, q.1, fits-opens _ _ _ _ (extending-known (schema t) I b a.at _ _ ip refl k) R.3))

pub show_extending-returns-then-is_known : goal.show_extending-returns-then-is_known
show_extending-returns-then-is_known t c = let a = c.args in let t = a.table.now in let b = a.bytes.now in let I = inner_of lax t a.levels in let ip = ap (λ (n : ℕ). a.at + n) c.read_u32.ensures.0 in
    let k = rw c.read_u64.ensures at (sym c.is_known.ensures) ∙ c.if-is_known.true in
    shown-opens _ _ _ _ _ _ (extending-known (schema t) I b a.at _ _ ip refl k) c.show_nested.ensures

pub show_extending-read_u32-count-requires : goal.show_extending-read_u32-count-requires
show_extending-read_u32-count-requires t c = let a = c.args in let R = c.requires in let t = a.table.now in let b = a.bytes.now in let I = inner_of lax t a.levels in let ip = ap (λ (n : ℕ). a.at + n) c.read_u32.ensures.0 in
    let q = extending-inside (schema t) I b a.at _ _ ip refl _ R.3.reads in omega (arith, q.1)

pub show_extending-show_bytes-requires : goal.show_extending-show_bytes-requires
show_extending-show_bytes-requires t c = let a = c.args in let R = c.requires in let t = a.table.now in let b = a.bytes.now in let I = inner_of lax t a.levels in let ip = ap (λ (n : ℕ). a.at + n) c.read_u32.ensures.0 in
    let n = c.read_u32-count.ensures.0 in
    let q = extending-inside (schema t) I b a.at _ _ ip n _ R.3.reads in
    let k = rw c.read_u64.ensures at (sym c.is_known.ensures) ∙ c.if-is_known.false in
    let r = bytes-room XU _ _ _ _ b q.1 (fits-opens _ _ _ _ (extending-kept (schema t) I b a.at _ _ ip n k) R.3) in
    (omega (arith, q.1), omega (arith, r))

pub show_extending-returns : goal.show_extending-returns
show_extending-returns t c = let a = c.args in let R = c.requires in let t = a.table.now in let b = a.bytes.now in let I = inner_of lax t a.levels in let ip = ap (λ (n : ℕ). a.at + n) c.read_u32.ensures.0 in
    let n = c.read_u32-count.ensures.0 in
    let q = extending-inside (schema t) I b a.at _ _ ip n _ R.3.reads in
    let k = rw c.read_u64.ensures at (sym c.is_known.ensures) ∙ c.if-is_known.false in
    shown-opens _ _ _ _ _ _ (extending-kept (schema t) I b a.at _ _ ip n k) (shown-bytes XU _ is-XU _ _ _ _ _ _ b q.1 c.show_bytes.ensures.0 c.show_bytes.ensures.1)

pub show_extension-returns-then-offset-eq0 : goal.show_extension-returns-then-offset-eq0
show_extension-returns-then-offset-eq0 t c = let a = c.args in let t = a.table.now in let b = a.bytes.now in let I = inner_of lax t a.levels in shown-opens _ _ _ _ _ _ (extension-none (schema t) I b (sym c.read_u32-offset.ensures.0 ∙ c.if-offset-eq0.true)) (shown-none _ _)

pub show_extension-read_u32-count-requires : goal.show_extension-read_u32-count-requires
show_extension-read_u32-count-requires t c = let a = c.args in let R = c.requires in let t = a.table.now in let b = a.bytes.now in let I = inner_of lax t a.levels in let ip = ap (λ (n : ℕ). 12 + n) c.read_u32-offset.ensures.0 in let z : word 12 b ≡ 0 → ⊥ = λ e. c.if-offset-eq0.false (c.read_u32-offset.ensures.0 ∙ e) in
    let q = extension-inside (schema t) I b z _ _ ip refl _ R.3.reads in omega (arith, q)

pub show_extension-returns-then-count-eq0 : goal.show_extension-returns-then-count-eq0
show_extension-returns-then-count-eq0 t c = let a = c.args in let t = a.table.now in let b = a.bytes.now in let I = inner_of lax t a.levels in let ip = ap (λ (n : ℕ). 12 + n) c.read_u32-offset.ensures.0 in let z : word 12 b ≡ 0 → ⊥ = λ e. c.if-offset-eq0.false (c.read_u32-offset.ensures.0 ∙ e) in
    shown-opens _ _ _ _ _ _ (extension-empty (schema t) I b z _ _ ip c.read_u32-count.ensures.0 c.if-count-eq0.true) (shown-none _ _)

pub show_extension-show_bytes-next-requires : goal.show_extension-show_bytes-next-requires
show_extension-show_bytes-next-requires t c = let a = c.args in let R = c.requires in let t = a.table.now in let b = a.bytes.now in let I = inner_of lax t a.levels in let ip = ap (λ (n : ℕ). 12 + n) c.read_u32-offset.ensures.0 in let z : word 12 b ≡ 0 → ⊥ = λ e. c.if-offset-eq0.false (c.read_u32-offset.ensures.0 ∙ e) in let n = c.read_u32-count.ensures.0 in
    let q = extension-inside (schema t) I b z _ _ ip n _ R.3.reads in let h : 12 + c.read_u32-offset.result + 4 ≤ length b = omega (arith, q) in let L = opened _ _ _ _ _ _ _ (extension-some (schema t) I b z _ _ ip n c.if-count-eq0.false) (begun _ _ _ R.3) in
    (h, bytes-room XT _ _ 4 _ b h (first_fits _ _ _ _ _ _ _ L))

pub show_extension-show_groups-requires : goal.show_extension-show_groups-requires
show_extension-show_groups-requires t c = let a = c.args in let R = c.requires in let t = a.table.now in let b = a.bytes.now in let I = inner_of lax t a.levels in let ip = ap (λ (n : ℕ). 12 + n) c.read_u32-offset.ensures.0 in let z : word 12 b ≡ 0 → ⊥ = λ e. c.if-offset-eq0.false (c.read_u32-offset.ensures.0 ∙ e) in let n = c.read_u32-count.ensures.0 in
    let q = extension-inside (schema t) I b z _ _ ip n _ R.3.reads in let h : 12 + c.read_u32-offset.result + 4 ≤ length b = omega (arith, q) in let L = opened _ _ _ _ _ _ _ (extension-some (schema t) I b z _ _ ip n c.if-count-eq0.false) (begun _ _ _ R.3) in
    (search rules, (R.0, R.1, omega (arith, q), (called _ _ _ _ _ _ _ L _ _ (shown-bytes XT _ is-XT _ _ _ _ 4 _ b h c.show_bytes-next.ensures.0 c.show_bytes-next.ensures.1)).fits))

pub show_extension-returns : goal.show_extension-returns
show_extension-returns t c = let a = c.args in let R = c.requires in let t = a.table.now in let b = a.bytes.now in let I = inner_of lax t a.levels in let ip = ap (λ (n : ℕ). 12 + n) c.read_u32-offset.ensures.0 in let z : word 12 b ≡ 0 → ⊥ = λ e. c.if-offset-eq0.false (c.read_u32-offset.ensures.0 ∙ e) in let n = c.read_u32-count.ensures.0 in
    let q = extension-inside (schema t) I b z _ _ ip n _ R.3.reads in let h : 12 + c.read_u32-offset.result + 4 ≤ length b = omega (arith, q) in let L = opened _ _ _ _ _ _ _ (extension-some (schema t) I b z _ _ ip n c.if-count-eq0.false) (begun _ _ _ R.3) in
    (called _ _ _ _ _ _ _ L _ _ (shown-bytes XT _ is-XT _ _ _ _ 4 _ b h c.show_bytes-next.ensures.0 c.show_bytes-next.ensures.1)).whole _ _ c.show_groups.ensures

pub show_field-bounds-bytes-at : goal.show_field-bounds-bytes-at
show_field-bounds-bytes-at t c = let a = c.args in let t = a.table.now in let es = enums t in
    omega (arith, width-optional (width_of t a.depth) (field_at es (drop a.field t)) (sym (c.is_optional.ensures es) ∙ c.if-is_optional.true), c.requires.3)

pub show_field-show_mark-requires : goal.show_field-show_mark-requires
show_field-show_mark-requires t c = let a = c.args in let t = a.table.now in let es = enums t in
    just-room NO _ _ (fits-opens _ _ _ _ (field-absent (inner_of lax t a.levels) (width_of t a.depth) (static_of lax t a.levels a.depth) (field_at es (drop a.field t)) a.bytes.now a.at (sym (c.is_optional.ensures es) ∙ c.if-is_optional.true) c.if-bytes-at-ne1.true) c.requires.5)

pub show_field-returns-then-bytes-at-ne1 : goal.show_field-returns-then-bytes-at-ne1
show_field-returns-then-bytes-at-ne1 t c = let a = c.args in let t = a.table.now in let es = enums t in
    shown-opens _ _ _ _ _ _ (field-absent (inner_of lax t a.levels) (width_of t a.depth) (static_of lax t a.levels a.depth) (field_at es (drop a.field t)) a.bytes.now a.at (sym (c.is_optional.ensures es) ∙ c.if-is_optional.true) c.if-bytes-at-ne1.true) (shown-just NO 2 _ _ _ _ c.show_mark.ensures.0 refl c.show_mark.ensures.1)

pub show_field-show_value-requires : goal.show_field-show_value-requires
show_field-show_value-requires t c = let a = c.args in let R = c.requires in let es = enums a.table.now in let o = sym (c.is_optional.ensures es) in
    let v = field-value a.table.now a.bytes.now a.levels a.depth a.field a.at c.if-is_optional.place R.3 (elim c.if-is_optional.branch [
      | show_field-then-is_optional+else-bytes-at-ne1 w ↦ inl (o ∙ w.if-is_optional.true, w.if-bytes-at-ne1.false, w.place-is)
      | show_field-else-is_optional w ↦ inr (o ∙ w.if-is_optional.false, w.place-is)
    ]) in
    (search rules, (R.0, R.1, R.2, v.0, R.4, fits-opens _ _ _ _ v.1 R.5))

pub show_field-returns : goal.show_field-returns
show_field-returns t c = let a = c.args in let R = c.requires in let es = enums a.table.now in let o = sym (c.is_optional.ensures es) in
    let v = field-value a.table.now a.bytes.now a.levels a.depth a.field a.at c.if-is_optional.place R.3 (elim c.if-is_optional.branch [
      | show_field-then-is_optional+else-bytes-at-ne1 w ↦ inl (o ∙ w.if-is_optional.true, w.if-bytes-at-ne1.false, w.place-is)
      | show_field-else-is_optional w ↦ inr (o ∙ w.if-is_optional.false, w.place-is)
    ]) in
    shown-opens _ _ _ _ _ _ v.1 c.show_value.ensures

pub show_group-open_group-open-requires : goal.show_group-open_group-open-requires
show_group-open_group-open-requires t c = let a = c.args in let R = c.requires in let t = a.table.now in let b = a.bytes.now in let S = group-readable t a.levels a.depth b a.at _ R.0 a.scope R.2 _ refl _ R.3.reads in
    (R.0, S.some, S.long, just-room _ _ _ (first_fits _ _ _ _ _ _ _ (opened _ _ _ _ _ _ _ (group-parts t a.levels a.depth b a.at a.scope R.2 _ _ refl refl) (begun _ _ _ R.3))))

pub show_group-show_fields-fields-requires : goal.show_group-show_fields-fields-requires
show_group-show_fields-fields-requires t c = let a = c.args in let R = c.requires in let o = group-opened a.table.now a.index.now a.bytes.now a.levels a.depth a.at a.pos _ _ _ a.scope a.out.now _ R.0 R.2 R.3 c.open_group-open.ensures in let S = o.1 in
    (omega (arith, S.some), (R.0, R.1, S.wide, S.inside, S.flat, first_fits _ _ _ _ _ _ _ o.0))

pub show_group-close_group-requires : goal.show_group-close_group-requires
show_group-close_group-requires t c = let a = c.args in let R = c.requires in let o = group-opened a.table.now a.index.now a.bytes.now a.levels a.depth a.at a.pos _ _ _ a.scope a.out.now _ R.0 R.2 R.3 c.open_group-open.ensures in let S = o.1 in
    (omega (arith, S.some, shallow-some (schema a.table.now) _ _ S.flat), (R.0, R.1, S.long, (called _ _ _ _ _ _ _ o.0 _ _ c.show_fields-fields.ensures).fits))

pub show_group-returns : goal.show_group-returns
show_group-returns t c = let a = c.args in let R = c.requires in let o = group-opened a.table.now a.index.now a.bytes.now a.levels a.depth a.at a.pos _ _ _ a.scope a.out.now _ R.0 R.2 R.3 c.open_group-open.ensures in
    (called _ _ _ _ _ _ _ o.0 _ _ c.show_fields-fields.ensures).whole _ _ c.close_group.ensures

pub show_item-show_bytes-requires : goal.show_item-show_bytes-requires
show_item-show_bytes-requires t c = let a = c.args in let R = c.requires in let t = a.table.now in let b = a.bytes.now in let I = inner_of lax t a.levels in let es = enums t in let sw = width_of t a.depth in let S = static_of lax t a.levels a.depth in let e = c.in-Plain.is ∙ ap Plain (sym c.from.ensures) in let h : a.at + c.from.result ≤ length b = omega (arith, wide-plain sw es a.kind _ e, R.2) in
    (h, bytes-room VA _ _ _ _ b h (fits-opens _ _ _ _ (item-plain I S es b a.at a.kind _ e) R.4))

pub show_item-show_bytes-requires-in-Number : goal.show_item-show_bytes-requires-in-Number
show_item-show_bytes-requires-in-Number t c = let a = c.args in let R = c.requires in let t = a.table.now in let b = a.bytes.now in let I = inner_of lax t a.levels in let es = enums t in let sw = width_of t a.depth in let S = static_of lax t a.levels a.depth in let e = c.in-Number.is in let iw = c.from-width.ensures ∙ c.tested_width.ensures es sw in let h : a.at + c.from-width.result ≤ length b = omega (arith, wide-number sw es a.kind _ e, iw, R.2) in
    (h, bytes-room VA _ _ _ _ b h (fits-opens _ _ _ _ (item-number I S es b a.at a.kind sw _ _ e iw) R.4))

pub show_item-show_inline-requires : goal.show_item-show_inline-requires
show_item-show_inline-requires t c = let a = c.args in let R = c.requires in let t = a.table.now in let b = a.bytes.now in let I = inner_of lax t a.levels in let es = enums t in let sw = width_of t a.depth in let S = static_of lax t a.levels a.depth in let e = c.in-Inline.is in let o = item-inline I S es b a.at a.kind _ _ e in
    let h : a.at + 1 + byte a.at b ≤ length b = omega (arith, wide-inline sw es a.kind _ _ e, inline-count ST b a.at _ _ _ (o _ R.4.reads), R.2) in
    (h, rw (inline-length (byte a.at b) a.at b h) at (just-room _ _ _ (fits-opens _ _ _ _ (λ s r. marked-inline ST b a.at _ _ s (o s r)) R.4)))

pub show_item-read_u32-requires : goal.show_item-read_u32-requires
show_item-read_u32-requires t c = let a = c.args in let R = c.requires in let t = a.table.now in let es = enums t in let sw = width_of t a.depth in omega (arith, wide-indirect sw es a.kind _ c.in-Indirect.is, R.2)

pub show_item-read_u32-count-requires : goal.show_item-read_u32-count-requires
show_item-read_u32-count-requires t c = let a = c.args in let R = c.requires in let t = a.table.now in let b = a.bytes.now in let I = inner_of lax t a.levels in let es = enums t in let S = static_of lax t a.levels a.depth in let e = c.in-Indirect.is in let ip = ap (λ (n : ℕ). a.at + n) c.read_u32.ensures.0 in
    omega (arith, text-inside I S es b a.at a.kind _ _ ip refl _ e _ R.4.reads)

pub show_item-show_bytes-requires-in-Indirect : goal.show_item-show_bytes-requires-in-Indirect
show_item-show_bytes-requires-in-Indirect t c = let a = c.args in let R = c.requires in let t = a.table.now in let b = a.bytes.now in let I = inner_of lax t a.levels in let es = enums t in let S = static_of lax t a.levels a.depth in let e = c.in-Indirect.is in let ip = ap (λ (n : ℕ). a.at + n) c.read_u32.ensures.0 in
    let n = c.read_u32-count.ensures.0 in let h = text-inside I S es b a.at a.kind _ _ ip n _ e _ R.4.reads in
    (h, bytes-room ST _ _ _ _ b h (fits-opens _ _ _ _ (item-text I S es b a.at a.kind _ _ ip n _ e) R.4))

pub show_item-show_mark-next-requires : goal.show_item-show_mark-next-requires
show_item-show_mark-next-requires t c = let a = c.args in let R = c.requires in let t = a.table.now in let b = a.bytes.now in let I = inner_of lax t a.levels in let es = enums t in let S = static_of lax t a.levels a.depth in let e = c.in-Static.is in let L = opened _ _ _ _ _ _ _ (item-static I S es b a.at a.kind _ e) (begun _ _ _ R.4) in mark-room SG _ _ (first_fits _ _ _ _ _ _ _ L)

pub show_item-show_group-requires : goal.show_item-show_group-requires
unfolding group_of takes
show_item-show_group-requires t c = let a = c.args in let R = c.requires in let t = a.table.now in let b = a.bytes.now in let I = inner_of lax t a.levels in let es = enums t in let sw = width_of t a.depth in let S = static_of lax t a.levels a.depth in let e = c.in-Static.is in let L = opened _ _ _ _ _ _ _ (item-static I S es b a.at a.kind _ e) (begun _ _ _ R.4) in
    let w = wide-static sw es a.kind _ e in
    let q = and_both (leb 1 (sw _)) (shallow (schema t) a.depth _) (sym (kind-static sw es a.kind (shallow (schema t) a.depth) _ e) ∙ R.3) in
    (search rules, (R.0, R.1, (omega (arith, w, R.2), static-inside (schema t) a.depth _ q.0, q.1), (called _ _ _ _ _ _ _ L _ _ (shown-mark SG _ is-SG _ _ _ _ c.show_mark-next.ensures.0 c.show_mark-next.ensures.1)).fits))

pub show_item-read_u32-requires-in-Dynamic : goal.show_item-read_u32-requires-in-Dynamic
show_item-read_u32-requires-in-Dynamic t c = let a = c.args in let R = c.requires in let t = a.table.now in let es = enums t in let sw = width_of t a.depth in omega (arith, wide-dynamic sw es a.kind _ c.in-Dynamic.is, R.2)

pub show_item-show_nested-requires : goal.show_item-show_nested-requires
show_item-show_nested-requires t c = let a = c.args in let R = c.requires in let t = a.table.now in let b = a.bytes.now in let I = inner_of lax t a.levels in let es = enums t in let S = static_of lax t a.levels a.depth in let e = c.in-Dynamic.is in let ip = ap (λ (n : ℕ). a.at + n) c.read_u32-in-Dynamic.ensures.0 in
    (search rules, (R.0, R.1, group-inside I S es b a.at a.kind _ _ ip refl _ e _ R.4.reads, fits-opens _ _ _ _ (item-group I S es b a.at a.kind _ _ ip refl _ e) R.4))

pub show_item-returns-in-Plain : goal.show_item-returns-in-Plain
show_item-returns-in-Plain t c = let a = c.args in let R = c.requires in let t = a.table.now in let b = a.bytes.now in let I = inner_of lax t a.levels in let es = enums t in let sw = width_of t a.depth in let S = static_of lax t a.levels a.depth in let e = c.in-Plain.is ∙ ap Plain (sym c.from.ensures) in let h : a.at + c.from.result ≤ length b = omega (arith, wide-plain sw es a.kind _ e, R.2) in
    shown-opens _ _ _ _ _ _ (item-plain I S es b a.at a.kind _ e) (shown-bytes VA _ is-VA _ _ _ _ _ _ b h c.show_bytes.ensures.0 c.show_bytes.ensures.1)

pub show_item-returns-in-Number : goal.show_item-returns-in-Number
show_item-returns-in-Number t c = let a = c.args in let R = c.requires in let t = a.table.now in let b = a.bytes.now in let I = inner_of lax t a.levels in let es = enums t in let sw = width_of t a.depth in let S = static_of lax t a.levels a.depth in let e = c.in-Number.is in let iw = c.from-width.ensures ∙ c.tested_width.ensures es sw in let h : a.at + c.from-width.result ≤ length b = omega (arith, wide-number sw es a.kind _ e, iw, R.2) in
    shown-opens _ _ _ _ _ _ (item-number I S es b a.at a.kind sw _ _ e iw) (shown-bytes VA _ is-VA _ _ _ _ _ _ b h c.show_bytes-in-Number.ensures.0 c.show_bytes-in-Number.ensures.1)

pub show_item-returns-in-Inline : goal.show_item-returns-in-Inline
show_item-returns-in-Inline t c = let a = c.args in let R = c.requires in let t = a.table.now in let b = a.bytes.now in let I = inner_of lax t a.levels in let es = enums t in let sw = width_of t a.depth in let S = static_of lax t a.levels a.depth in let e = c.in-Inline.is in let o = item-inline I S es b a.at a.kind _ _ e in
    let h : a.at + 1 + byte a.at b ≤ length b = omega (arith, wide-inline sw es a.kind _ _ e, inline-count ST b a.at _ _ _ (o _ R.4.reads), R.2) in
    shown-opens _ _ _ _ _ _ (λ s r. marked-inline ST b a.at _ _ s (o s r)) (shown-just _ _ _ _ _ _ c.show_inline.ensures.0 (inline-length (byte a.at b) a.at b h) c.show_inline.ensures.1)

pub show_item-returns-in-Indirect : goal.show_item-returns-in-Indirect
show_item-returns-in-Indirect t c = let a = c.args in let R = c.requires in let t = a.table.now in let b = a.bytes.now in let I = inner_of lax t a.levels in let es = enums t in let S = static_of lax t a.levels a.depth in let e = c.in-Indirect.is in let ip = ap (λ (n : ℕ). a.at + n) c.read_u32.ensures.0 in
    let n = c.read_u32-count.ensures.0 in let h = text-inside I S es b a.at a.kind _ _ ip n _ e _ R.4.reads in
    shown-opens _ _ _ _ _ _ (item-text I S es b a.at a.kind _ _ ip n _ e) (shown-bytes ST _ is-ST _ _ _ _ _ _ b h c.show_bytes-in-Indirect.ensures.0 c.show_bytes-in-Indirect.ensures.1)

pub show_item-returns-in-Static : goal.show_item-returns-in-Static
unfolding group_of
show_item-returns-in-Static t c = let a = c.args in let R = c.requires in let t = a.table.now in let b = a.bytes.now in let I = inner_of lax t a.levels in let es = enums t in let S = static_of lax t a.levels a.depth in let e = c.in-Static.is in let L = opened _ _ _ _ _ _ _ (item-static I S es b a.at a.kind _ e) (begun _ _ _ R.4) in (called _ _ _ _ _ _ _ L _ _ (shown-mark SG _ is-SG _ _ _ _ c.show_mark-next.ensures.0 c.show_mark-next.ensures.1)).whole _ _ c.show_group.ensures

pub show_item-returns-in-Dynamic : goal.show_item-returns-in-Dynamic
show_item-returns-in-Dynamic t c = let a = c.args in let t = a.table.now in let b = a.bytes.now in let I = inner_of lax t a.levels in let es = enums t in let S = static_of lax t a.levels a.depth in let e = c.in-Dynamic.is in let ip = ap (λ (n : ℕ). a.at + n) c.read_u32-in-Dynamic.ensures.0 in
    shown-opens _ _ _ _ _ _ (item-group I S es b a.at a.kind _ _ ip refl _ e) c.show_nested.ensures

pub show_items-show_plain-requires : goal.show_items-show_plain-requires
show_items-show_plain-requires t c = let a = c.args in let R = c.requires in let t = a.table.now in let b = a.bytes.now in let I = inner_of lax t a.levels in let es = enums t in let sw = width_of t a.depth in let S = static_of lax t a.levels a.depth in let e = c.in-Plain.is ∙ ap Plain (sym c.from.ensures) in let w = R.3 ∙ wide-plain sw es a.kind _ e in
    (rw w at R.2, fits-opens _ _ _ _ (items-plain I S es b a.at a.kind sw _ _ _ e R.3) R.5)

pub show_items-returns-in-Plain : goal.show_items-returns-in-Plain
show_items-returns-in-Plain t c = let a = c.args in let R = c.requires in let t = a.table.now in let b = a.bytes.now in let I = inner_of lax t a.levels in let es = enums t in let sw = width_of t a.depth in let S = static_of lax t a.levels a.depth in let e = c.in-Plain.is ∙ ap Plain (sym c.from.ensures) in
    shown-opens _ _ _ _ _ _ (items-plain I S es b a.at a.kind sw _ _ _ e R.3) c.show_plain.ensures

pub show_items-show_numbers-requires : goal.show_items-show_numbers-requires
unfolding kind_from
show_items-show_numbers-requires t c = let R = c.requires in let e = c.in-Number.is in (R.2, rw e at R.3, rw e at R.5)

pub show_items-returns-in-Number : goal.show_items-returns-in-Number
show_items-returns-in-Number t c = rw c.in-Number.is c.show_numbers.ensures

pub show_nested-show_mark-next-requires : goal.show_nested-show_mark-next-requires
show_nested-show_mark-next-requires t c = let a = c.args in let R = c.requires in let t = a.table.now in let b = a.bytes.now in let L = opened _ _ _ _ _ _ _ (marked-inner GB b a.place t a.levels a.allowed _) (begun _ _ _ R.3) in mark-room GB _ _ (first_fits _ _ _ _ _ _ _ L)

pub show_nested-show_group-requires : goal.show_nested-show_group-requires
unfolding group_of takes
show_nested-show_group-requires t c = let a = c.args in let R = c.requires in let t = a.table.now in let b = a.bytes.now in let L = opened _ _ _ _ _ _ _ (marked-inner GB b a.place t a.levels a.allowed _) (begun _ _ _ R.3) in let m : a.place + (4 + c.read_u32.result) - a.place ≡ 4 + word a.place b = add-sub_cancel_left a.place _ ∙ ap (λ (n : ℕ). 4 + n) c.read_u32.ensures.0 in
    (search rules, (R.0, search rules, (refl, refl), rw m (called _ _ _ _ _ _ _ L _ _ (shown-mark GB _ is-GB _ _ _ _ c.show_mark-next.ensures.0 c.show_mark-next.ensures.1)).fits))

pub show_nested-returns : goal.show_nested-returns
unfolding group_of
show_nested-returns t c = let a = c.args in let t = a.table.now in let b = a.bytes.now in let m : a.place + (4 + c.read_u32.result) - a.place ≡ 4 + word a.place b = add-sub_cancel_left a.place _ ∙ ap (λ (n : ℕ). 4 + n) c.read_u32.ensures.0 in
    shown-opens _ _ _ _ _ _ (marked-inner GB b a.place t a.levels a.allowed _) (shown-then _ _ _ _ _ _ _ _ (shown-mark GB _ is-GB _ _ _ _ c.show_mark-next.ensures.0 c.show_mark-next.ensures.1) (rw m at c.show_group.ensures))

pub show_fields-field_count-total-requires : goal.show_fields-field_count-total-requires
show_fields-field_count-total-requires t c = let R = c.requires in omega (arith, placed-inside _ _ _ R.0.placed _ R.3, c.group_place-start.ensures.0)

pub show_fields-overflow_sub-deeper : goal.show_fields-overflow_sub-deeper
show_fields-overflow_sub-deeper t c = omega (arith, shallow-some (schema c.args.table.now) _ _ c.requires.4)

pub show_fields-loop-init : goal.show_fields-loop-init
show_fields-loop-init t c = let R = c.requires in fields-start _ R.0 R.3 _ c.group_place-start.ensures.0 c.field_count-total.ensures.0 R.4 R.2 R.5

pub show_fields-show_bytes-next-requires : goal.show_fields-show_bytes-next-requires
show_fields-show_bytes-next-requires t c = let a = c.args in let L = c.loop.invariant in let l = c.loop-test.true in
    let p = plain-left L l (c.plain_width-plain.ensures.0 (enums a.table.now)) c.if-plain-ne0.true in (p.0, bytes-room VA _ _ _ _ _ p.0 p.1)

pub show_fields-show_field-next-requires : goal.show_fields-show_field-next-requires
show_fields-show_field-next-requires t c = let R = c.requires in let L = c.loop.invariant in let l = c.loop-test.true in
    (omega (arith, shallow-some (schema c.args.table.now) _ _ R.4), (R.0, R.1, field-listed L l, field-inside L l, field-flat L l, field_fits L l))

pub show_fields-loop-preserved : goal.show_fields-loop-preserved
show_fields-loop-preserved t c = let a = c.args in let L = c.loop.invariant in let l = c.loop-test.true in let es = enums a.table.now in let sw = width_of a.table.now (a.depth - 1) in elim c.if-plain-ne0.branch [
  | show_fields-then-plain-ne0 w ↦
      let q = c.plain_width-plain.ensures.0 es in let z = w.if-plain-ne0.true in let e = plain-is es _ _ q z in let v = w.show_bytes-next.ensures in
      rw (w.place-is, w.next-is, w.out-is) (fields-next L l (sym (plain-wide sw _ _ _ e))
      (shown-opens _ _ _ _ _ _ (field_plain (inner_of lax a.table.now a.levels) sw (static_of lax a.table.now a.levels (a.depth - 1)) _ a.bytes.now c.loop.place _ _ e) (shown-bytes VA _ is-VA _ _ _ _ _ _ _ (plain-left L l q z).0 v.0 v.1)))
  | show_fields-else-plain-ne0 w ↦
      rw (w.place-is, w.next-is, w.out-is) (fields-next L l (w.field_width-width.ensures.0 es ∙ wide-field a.table.now a.index.now c.requires.0 (a.depth - 1) _ (field-flat L l)) w.show_field-next.ensures)
]

pub show_fields-returns : goal.show_fields-returns
show_fields-returns t c = fields-done c.loop.invariant c.loop-test.false

pub show_groups-loop-init : goal.show_groups-loop-init
show_groups-loop-init t c = items-start c.requires.2 c.requires.3

pub show_groups-show_extending-next-requires : goal.show_groups-show_extending-next-requires
show_groups-show_extending-next-requires t c = let R = c.requires in let L = c.loop.invariant in let l = c.loop-test.true in
    (search rules, (R.0, R.1, item-inside L l, item-fits L l))

pub show_groups-loop-preserved : goal.show_groups-loop-preserved
show_groups-loop-preserved t c = items-next c.loop.invariant c.loop-test.true c.show_extending-next.ensures

pub show_groups-returns : goal.show_groups-returns
show_groups-returns t c = items-done c.loop.invariant c.loop-test.false

pub show_items-loop-init : goal.show_items-loop-init
show_items-loop-init t c = items-start c.requires.2 c.requires.5

pub show_items-show_item-next-requires : goal.show_items-show_item-next-requires
show_items-show_item-next-requires t c = let R = c.requires in let L = c.loop.invariant in let l = c.loop-test.true in
    (search rules, (R.0, R.1, omega (arith, item-inside L l, R.3), R.4, item-fits L l))

pub show_items-overflow_add-place : goal.show_items-overflow_add-place
show_items-overflow_add-place t c = omega (arith, item-inside c.loop.invariant c.loop-test.true)

pub show_items-loop-preserved : goal.show_items-loop-preserved
show_items-loop-preserved t c = items-next c.loop.invariant c.loop-test.true c.show_item-next.ensures

pub show_items-returns : goal.show_items-returns
show_items-returns t c = items-done c.loop.invariant c.loop-test.false

pub show_value-read_u32-requires : goal.show_value-read_u32-requires
show_value-read_u32-requires t c = let a = c.args in let t = a.table.now in let es = enums t in
    omega (arith, width-sequence (width_of t a.depth) (field_at es (drop a.field t)) (sym (c.is_sequence.ensures es) ∙ c.if-is_sequence.true), c.requires.3)

pub show_value-read_u32-total-requires : goal.show_value-read_u32-total-requires
show_value-read_u32-total-requires t c = let a = c.args in let R = c.requires in let t = a.table.now in let b = a.bytes.now in let I = inner_of lax t a.levels in let es = enums t in let sw = width_of t a.depth in let S = static_of lax t a.levels a.depth in let f = field_at es (drop a.field t) in let k = c.kind_at-kind.ensures es in let o = sym (c.is_sequence.ensures es) ∙ c.if-is_sequence.true in
    let iw = c.kind_width-width.ensures.0 es ∙ wide-kind t a.index.now R.0 a.depth _ (rw (sym k) at R.4) in let ip = ap (λ (n : ℕ). a.at + n) c.read_u32.ensures.0 in
    omega (arith, sequence-inside I sw S f b a.at _ k o _ iw _ _ ip refl _ R.5.reads)

pub show_value-show_bytes-next-requires : goal.show_value-show_bytes-next-requires
show_value-show_bytes-next-requires t c = let a = c.args in let R = c.requires in let t = a.table.now in let b = a.bytes.now in let I = inner_of lax t a.levels in let es = enums t in let sw = width_of t a.depth in let S = static_of lax t a.levels a.depth in let f = field_at es (drop a.field t) in let k = c.kind_at-kind.ensures es in let o = sym (c.is_sequence.ensures es) ∙ c.if-is_sequence.true in
    let iw = c.kind_width-width.ensures.0 es ∙ wide-kind t a.index.now R.0 a.depth _ (rw (sym k) at R.4) in let ip = ap (λ (n : ℕ). a.at + n) c.read_u32.ensures.0 in let n = c.read_u32-total.ensures.0 in
    let h : a.at + c.read_u32.result + 4 ≤ length b = omega (arith, sequence-inside I sw S f b a.at _ k o _ iw _ _ ip n _ R.5.reads) in
    (omega (arith, h), bytes-room SQ _ _ 4 _ b h (first_fits _ _ _ _ _ _ _ (opened _ _ _ _ _ _ _ (sequence-opens I sw S f b a.at _ k o _ iw _ _ ip n) (begun _ _ _ R.5))))

pub show_value-show_items-requires : goal.show_value-show_items-requires
show_value-show_items-requires t c = let a = c.args in let R = c.requires in let t = a.table.now in let es = enums t in let k = c.kind_at-kind.ensures es in let d = rw (sym k) at R.4 in let iw = c.kind_width-width.ensures.0 es ∙ wide-kind t a.index.now R.0 a.depth _ d in let o = sym (c.is_sequence.ensures es) in
    let v = value-items t a.bytes.now a.levels a.depth a.field a.at c.kind_at-kind.result c.kind_width-width.result a.pos c.if-is_sequence.total a.out.now c.if-is_sequence.out k iw R.3 R.5 (elim c.if-is_sequence.branch [
      | show_value-then-is_sequence w ↦ inl (o ∙ w.if-is_sequence.true, _, _, _, ap (λ (n : ℕ). a.at + n) w.read_u32.ensures.0, w.read_u32-total.ensures.0, w.out-is ∙ w.show_bytes-next.ensures.0, w.show_bytes-next.ensures.1, w.total-is)
      | show_value-else-is_sequence w ↦ inr (o ∙ w.if-is_sequence.false, w.out-is, w.total-is)
    ]) in
    (search rules, (R.0, R.1, v.0, iw, d, v.1.fits))

pub show_value-returns : goal.show_value-returns
show_value-returns t c = let a = c.args in let R = c.requires in let t = a.table.now in let es = enums t in let k = c.kind_at-kind.ensures es in let d = rw (sym k) at R.4 in let iw = c.kind_width-width.ensures.0 es ∙ wide-kind t a.index.now R.0 a.depth _ d in let o = sym (c.is_sequence.ensures es) in
    let v = value-items t a.bytes.now a.levels a.depth a.field a.at c.kind_at-kind.result c.kind_width-width.result a.pos c.if-is_sequence.total a.out.now c.if-is_sequence.out k iw R.3 R.5 (elim c.if-is_sequence.branch [
      | show_value-then-is_sequence w ↦ inl (o ∙ w.if-is_sequence.true, _, _, _, ap (λ (n : ℕ). a.at + n) w.read_u32.ensures.0, w.read_u32-total.ensures.0, w.out-is ∙ w.show_bytes-next.ensures.0, w.show_bytes-next.ensures.1, w.total-is)
      | show_value-else-is_sequence w ↦ inr (o ∙ w.if-is_sequence.false, w.out-is, w.total-is)
    ]) in
    v.1.whole _ _ c.show_items.ensures
