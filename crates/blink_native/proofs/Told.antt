-- No fault's number is above a byte.
use Prim.Native.Nat.{ℕ, ◌≤◌}
use mathlib.Core.Path.{◌≡◌}
use mathlib.Core.List.{List, []}
use lib.ListN.{length}
use lib.Seq.{take-nil}
use borrow.Author.Tests.{le-ltb}
use Rattle.faults.specs.Words.{fitted}
use Rattle.blink_native.specs.Boundary.{fault_words}

pub no_words : (n : ℕ) → 256 ≤ n → fault_words n ≡ []
unfolding fault_words
no_words n h = rw (le-ltb n 256 h)

pub none-fitted : (room : List ℕ) → room ≡ fitted [] room
none-fitted room = rw (take-nil {A = ℕ} (length room))
