use Prim.Native.Nat.{ℕ}
use lib.ListN.{drop}
use Rattle.sheet.specs.Written.{items_w}
use Rattle.sheet.specs.Writers.{plain_of}
use Rattle.writing.specs.Write.{Fits}
use Rattle.writing.proofs.Loops.{ItemsLeft}
use Rattle.writing.proofs.write_plain.Given as goal

abbrev pub invariant-loop : goal.invariant-loop
invariant-loop l = (free : ℕ) → Fits (items_w l.width (plain_of l.width) l.total l.at free (drop l.pos l.sheet)) l.at free l.initial.out
    → ItemsLeft l.sheet l.width (plain_of l.width) l.total l.at free l.pos l.initial.out l.counter l.place free l.next l.out
