use Prim.Native.Nat.{◌-◌}
use mathlib.Core.Path.{◌≡◌}
use lib.ListN.{length}
use Rattle.opening.specs.Opening.{under}
use Rattle.tape_bench.proofs.Laws.{Counted}
use Rattle.tape_bench.proofs.count_under.Given as goal

abbrev pub invariant-loop-at : goal.invariant-loop-at
invariant-loop-at l =
    (length l.scratch ≡ length l.initial.scratch) × Counted l.table l.tape (under l.store l.customer (length l.initial.scratch)) l.at l.accepted

abbrev pub decreases-loop-at : goal.decreases-loop-at
decreases-loop-at l = length l.tape - l.at
