use Rattle.std.proofs.Common.{◌≡◌, ℕ, Bool, List, ◌&&◌, ◌/◌, eqb, length}
use Rattle.settings.specs.Store.{customer_of, stands, last_of}
use Rattle.printing.proofs.store.newest.Given as goal

abbrev is_of : List ℕ → ℕ → ℕ → Bool
is_of store customer n = stands store n && eqb (customer_of store n) customer

abbrev pub invariant-loop-n : goal.invariant-loop-n
invariant-loop-n l = last_of (is_of l.store l.customer) (length l.store / 9) ≡ last_of (is_of l.store l.customer) l.n
