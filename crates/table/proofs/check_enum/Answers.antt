use Rattle.schema.specs.Table.{enum_verdict}
use Rattle.table.proofs.check_enum.Goals as goal

pub returns : goal.returns
unfolding enum_verdict
returns c = rw c.enum_zeros.ensures at c.ensure.ensures
