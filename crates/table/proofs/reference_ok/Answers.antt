use Rattle.std.proofs.Common.{arith}
use Rattle.std.proofs.lemmas.Bool.Decides.{nat_tests}
use Rattle.schema.specs.Table.{reference_ok}
use Rattle.table.proofs.reference_ok.Goals as goal

pub returns-in-20 : goal.returns-in-20
unfolding reference_ok
returns-in-20 c = rw (c.in-20.is, reference_ok)

pub returns-in-21 : goal.returns-in-21
unfolding reference_ok
returns-in-21 c = rw (c.in-21.is, reference_ok)

pub returns-in-22 : goal.returns-in-22
unfolding reference_ok
returns-in-22 c = rw (c.in-22.is, reference_ok)

pub returns-in_default : goal.returns-in_default
unfolding reference_ok
returns-in_default c = grind (arith, nat_tests)
