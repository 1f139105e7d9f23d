use Rattle.std.proofs.Common.{sym, ◌∙◌, drop, arith}
use Rattle.schema.specs.Schema.{value_width}
use Rattle.schema.specs.Table.{field_at, field_type, field_size, reference}
use Rattle.table.proofs.Laws.{cond_yes, cond_no}
use Rattle.table.proofs.Widths.{static-is}
use Rattle.table.proofs.value_width.Goals as goal

pub returns-then-is_sequence : goal.returns-then-is_sequence
unfolding value_width
returns-then-is_sequence c = (λ es. sym (cond_yes _ _ _ (sym (c.is_sequence.ensures es) ∙ c.if-is_sequence.true)), omega arith)

pub returns-else-is_sequence : goal.returns-else-is_sequence
unfolding value_width field_at
returns-else-is_sequence c =
    let f = drop c.args.p c.args.table.now in
    (λ es. sym (cond_no _ _ _ (sym (c.is_sequence.ensures es) ∙ c.if-is_sequence.false) ∙ static-is es (field_type f) (field_size f) (reference f) (λ _. c.args.inner) c.requires.1), c.requires.2)
