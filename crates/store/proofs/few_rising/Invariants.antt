use Rattle.std.proofs.Common.{◌≡◌, ◌-◌}
use Rattle.settings.specs.Store.{run}
use Rattle.store.specs.Check.{rising}
use Rattle.store.proofs.few_rising.Given as goal

abbrev pub invariant-loop-k : goal.invariant-loop-k
invariant-loop-k l = run (rising l.store) l.n 0 ≡ run (rising l.store) (l.n - l.k) l.k
