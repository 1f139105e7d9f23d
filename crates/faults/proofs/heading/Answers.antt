use borrow.Author.Tests.{lt-ltb, le-ltb}
use Rattle.faults.specs.Words.{heading}
use Rattle.faults.proofs.heading.Goals as goal

pub returns-then-number-lt10 : goal.returns-then-number-lt10
unfolding heading
returns-then-number-lt10 c = rw (lt-ltb _ _ c.if-number-lt10.true)

pub returns : goal.returns
unfolding heading
returns c = rw (le-ltb _ _ c.if-number-lt10.false)
