use mathlib.Core.Path.{◌≡◌}
use lib.ListN.{drop}
use Rattle.faults.specs.Words.{heading, behind, words_of}
use Rattle.faults.proofs.find_words.Given as goal

abbrev pub invariant-loop-i : goal.invariant-loop-i
invariant-loop-i l = words_of l.number l.text ≡ behind (heading l.number) l.first (drop l.i l.text)
