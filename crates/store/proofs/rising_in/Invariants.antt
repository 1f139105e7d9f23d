use Rattle.std.proofs.Common.{◌≡◌, ◌-◌, length}
use Rattle.settings.specs.Store.{run}
use Rattle.store.specs.Check.{rising}
use Rattle.store.proofs.Laws.{Seen}
use Rattle.store.proofs.rising_in.Given as goal

abbrev pub invariant-loop-k : goal.invariant-loop-k
invariant-loop-k l = (length l.slots ≡ length l.initial.slots) × (run (rising l.store) l.n 0 ≡ run (rising l.store) (l.n - l.k) l.k) × Seen l.store l.slots l.k
