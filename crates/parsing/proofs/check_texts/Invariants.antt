use Rattle.sheet.specs.Writers.{text_of}
use Rattle.parsing.proofs.Loops.{ItemsLeft}
use Rattle.parsing.proofs.check_texts.Given as goal

abbrev pub invariant-loop : goal.invariant-loop
invariant-loop l = ItemsLeft l.sheet 4 (text_of l.utf8) l.total l.place l.before l.counter l.step
