use borrow.Author.Tests.{le-leb, lt-leb}
use lib.Seq.{take-length}
use Rattle.wire_bench.proofs.wire_copy.Goals as goal

pub returns-then-s-out : goal.returns-then-s-out
returns-then-s-out c = rw (le-leb _ _ c.if-s-out.true) (rw (take-length c.args.s.now) at c.copy.ensures)

pub returns-else-s-out : goal.returns-else-s-out
returns-else-s-out c = rw (lt-leb _ _ c.if-s-out.false)
