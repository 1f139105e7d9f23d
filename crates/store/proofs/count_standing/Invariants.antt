use Rattle.std.proofs.Common.{◌≡◌, ◌-◌, length}
use Rattle.settings.specs.Store.{run}
use Rattle.store.specs.Check.{standing}
use Rattle.store.proofs.count_standing.Given as goal

abbrev pub invariant-loop-n : goal.invariant-loop-n
invariant-loop-n l = run (standing l.store) (length l.store) 0 ≡ run (standing l.store) (length l.store - l.n) l.n
