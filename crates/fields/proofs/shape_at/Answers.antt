use Rattle.std.proofs.Common.{Ok}
use Rattle.schema.specs.Table.{field_at}
use Rattle.fields.proofs.shape_at.Goals as goal

pub returns : goal.returns
unfolding field_at
returns c = λ es i. Ok (record { number = c.field_type.ensures i; optional = c.is_optional.ensures es i; sequence = c.is_sequence.ensures es i; size = c.size_at.ensures es i })
