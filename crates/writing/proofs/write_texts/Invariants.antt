use mathlib.Core.Bool.{Bool}
use lib.ListN.{drop}
use Rattle.sheet.specs.Written.{items_w}
use Rattle.sheet.specs.Writers.{text_of}
use Rattle.writing.specs.Write.{Fits}
use Rattle.writing.proofs.Loops.{ItemsLeft}
use Rattle.writing.proofs.write_texts.Given as goal

abbrev pub invariant-loop : goal.invariant-loop
invariant-loop l = (u : Bool) → Fits (items_w 4 (text_of u) l.total l.at l.fn.ends.free (drop l.fn.ends.pos l.sheet)) l.at l.fn.ends.free l.initial.out
    → ItemsLeft l.sheet 4 (text_of u) l.total l.at l.fn.ends.free l.fn.ends.pos l.initial.out l.counter l.place l.ends.free l.ends.pos l.out
