use mathlib.Core.Path.{◌≡◌}
use Prim.Native.Nat.{◌-◌, ◌≤◌}
use lib.ListN.{length}
use Rattle.opening.specs.Opening.{under}
use Rattle.tape.specs.Tape.{tape_answers}
use Rattle.tapes.specs.Outcomes.{tape_outcome}
use Rattle.tapes.proofs.Laws.{outcome_from}
use Rattle.tapes.proofs.check_under.Given as goal

abbrev pub invariant-loop-at : goal.invariant-loop-at
invariant-loop-at l = record {
  room : length l.scratch ≡ length l.initial.scratch;
  inside : l.at ≤ length l.tape;
  so_far : tape_outcome (tape_answers l.table l.tape (under l.store l.customer (length l.initial.scratch))) ≡ outcome_from l.table l.tape (under l.store l.customer (length l.initial.scratch)) l.worst l.at;
}

abbrev pub decreases-loop-at : goal.decreases-loop-at
decreases-loop-at l = length l.tape - l.at
