use Rattle.std.proofs.Common.{◌∙◌, arith}
use Rattle.schema.specs.Table.{field_at}
use Rattle.fields.proofs.Laws.{size-some, size_none}
use Rattle.fields.proofs.size_at.Goals as goal

pub returns-in-17 : goal.returns-in-17
unfolding field_at
returns-in-17 c = λ es. c.field_size.ensures ∙ size-some es _ _ _ (omega (arith, c.field_type.ensures)) (omega (arith, c.field_type.ensures))

pub returns-in_default : goal.returns-in_default
unfolding field_at
returns-in_default c = λ es. let f = c.field_type.ensures in size_none es _ _ _ (λ e. omega (arith, e, f)) (λ e. omega (arith, e, f)) (λ e. omega (arith, e, f))

pub returns-in_default-2 : goal.returns-in_default-2
unfolding field_at
returns-in_default-2 c = λ es. let f = c.field_type.ensures in size_none es _ _ _ (λ e. omega (arith, e, f)) (λ e. omega (arith, e, f)) (λ e. omega (arith, e, f))
