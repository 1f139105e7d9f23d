use Rattle.sheet.specs.Writers.{plain_of}
use Rattle.parsing.proofs.Loops.{ItemsLeft}
use Rattle.parsing.proofs.check_plains.Given as goal

abbrev pub invariant-loop : goal.invariant-loop
invariant-loop l = ItemsLeft l.sheet l.width (plain_of l.width) l.total l.place l.before l.counter (record { next = l.next; length = l.before })
