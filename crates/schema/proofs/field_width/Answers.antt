use Rattle.std.proofs.Common.{sym, ◌∙◌, arith}
use Rattle.schema.proofs.Types.{width-optional, width-required}
use Rattle.schema.proofs.field_width.Goals as goal

pub returns-then-is_optional : goal.returns-then-is_optional
returns-then-is_optional c = (λ es. rw (c.value_width-width.ensures.0 es) (width-optional _ _ (sym (c.is_optional.ensures es) ∙ c.if-is_optional.true)), omega (arith, c.value_width-width.ensures.1))

pub returns-else-is_optional : goal.returns-else-is_optional
returns-else-is_optional c = (λ es. c.value_width-width.ensures.0 es ∙ width-required _ _ (sym (c.is_optional.ensures es) ∙ c.if-is_optional.false), omega (arith, c.value_width-width.ensures.1))
