use Rattle.std.proofs.Common.{sym, ap, ◌∙◌, arith}
use Rattle.schema.specs.Schema.{kind_width}
use Rattle.schema.specs.Layout.{width_in}
use Rattle.schema.proofs.Types.{width-sequence, width_one}
use Rattle.schema.proofs.value_width.Goals as goal

pub returns-then-is_sequence : goal.returns-then-is_sequence
returns-then-is_sequence c = (λ es. width-sequence _ _ (sym (c.is_sequence.ensures es) ∙ c.if-is_sequence.true), omega arith)

pub returns-else-is_sequence : goal.returns-else-is_sequence
returns-else-is_sequence c = (λ es. c.kind_width.ensures.0 es ∙ ap (kind_width (width_in c.args.index.now)) (c.kind_at.ensures es) ∙ width_one (width_in c.args.index.now) _ (sym (c.is_sequence.ensures es) ∙ c.if-is_sequence.false), omega (arith, c.kind_width.ensures.1))
