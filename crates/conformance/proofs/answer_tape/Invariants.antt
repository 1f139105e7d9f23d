use Prim.Native.Nat.{◌-◌}
use lib.ListN.{length}
use Rattle.conformance.proofs.answer_tape.Given as goal

abbrev pub decreases-loop-at : goal.decreases-loop-at
decreases-loop-at l = length l.tape - l.at
