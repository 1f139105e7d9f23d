use Rattle.std.proofs.Common.{◌≡◌}
use Rattle.settings.specs.Store.{newest}
use Rattle.store.proofs.newest.Given as goal

abbrev pub invariant-loop-k : goal.invariant-loop-k
invariant-loop-k l = newest l.store l.customer l.n ≡ newest l.store l.customer l.k
