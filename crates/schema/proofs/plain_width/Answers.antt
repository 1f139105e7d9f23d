use Rattle.std.proofs.Common.{drop, sym, ◌∙◌, rules}
use Rattle.schema.proofs.Types.{plain-optional, plain-sequence, plain-flag, plain-high, plain-scalar}
use Rattle.schema.proofs.plain_width.Goals as goal
use Rattle.schema.proofs.plain_width.Goals.{then-is_optional-via-then-is_optional, then-is_optional-via-else-is_optional+then-is_sequence, then-is_optional-via-else-is_optional+else-is_sequence+then-number-eq11, then-is_optional-via-else-is_optional+else-is_sequence+else-number-eq11+then-number-ge15}

pub returns-then-is_optional : goal.returns-then-is_optional
returns-then-is_optional c = let s = drop c.args.at c.args.table.now in let o = c.is_optional.ensures in let n = c.field_type-number.ensures in elim c.then-is_optional.branch [
  | then-is_optional-via-then-is_optional w ↦ (λ es. plain-optional es s (sym (o es) ∙ w.if-is_optional.true), search rules)
  | then-is_optional-via-else-is_optional+then-is_sequence w ↦ (λ es. plain-sequence es s (sym (o es) ∙ w.if-is_optional.false) (sym (w.is_sequence.ensures es) ∙ w.if-is_sequence.true), search rules)
  | then-is_optional-via-else-is_optional+else-is_sequence+then-number-eq11 w ↦ (λ es. plain-flag es s (sym (o es) ∙ w.if-is_optional.false) _ n (sym (w.is_sequence.ensures es) ∙ w.if-is_sequence.false) w.if-number-eq11.true, search rules)
  | then-is_optional-via-else-is_optional+else-is_sequence+else-number-eq11+then-number-ge15 w ↦ (λ es. plain-high es s (sym (o es) ∙ w.if-is_optional.false) _ n (sym (w.is_sequence.ensures es) ∙ w.if-is_sequence.false) w.if-number-eq11.false w.if-number-ge15.true, search rules)
]

pub returns : goal.returns
returns c = (λ es. plain-scalar es (drop c.args.at c.args.table.now) (sym (c.is_optional.ensures es) ∙ c.if-is_optional.false) _ c.field_type-number.ensures (sym (c.is_sequence.ensures es) ∙ c.if-is_sequence.false) _ (c.from.ensures ∙ c.scalar_width.ensures) c.if-number-eq11.false c.if-number-ge15.false, search rules)
