use Rattle.std.proofs.Common.{◌≡◌}
use Rattle.settings.specs.Store.{versioned}
use Rattle.store.proofs.versioned.Given as goal

abbrev pub invariant-loop-k : goal.invariant-loop-k
invariant-loop-k l = versioned l.store l.customer l.version l.n ≡ versioned l.store l.customer l.version l.k
