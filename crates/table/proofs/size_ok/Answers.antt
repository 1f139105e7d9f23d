use Rattle.std.proofs.lemmas.Bool.Decides.{nat_tests}
use mathlib.Core.Path.{sym}
use mathlib.Core.Bool.{and-true}
use native.Mathlib.Omega.{arith}
use borrow.Author.Tests.{le-leb}
use Rattle.schema.specs.Table.{size_ok}
use Rattle.table.proofs.size_ok.Goals as goal

pub returns-in-17 : goal.returns-in-17
unfolding size_ok
returns-in-17 c = grind (arith, nat_tests)

pub returns-in-19 : goal.returns-in-19
unfolding size_ok
returns-in-19 c = rw (c.in-19.is, le-leb c.args.size 255 (omega arith), size_ok) (sym (and-true _))

pub returns-in_default : goal.returns-in_default
unfolding size_ok
returns-in_default c = grind (arith, nat_tests)
