use Rattle.sheet.specs.Show.{plain_of}
use Rattle.sheet.proofs.Loops.{ItemsLeft}
use Rattle.sheet.proofs.show_plain.Given as goal

abbrev pub invariant-loop : goal.invariant-loop
invariant-loop l = ItemsLeft l.bytes l.width (plain_of l.width) l.total l.at l.pos l.initial.out l.counter l.place l.next l.out
