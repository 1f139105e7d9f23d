-- Text that is put into a room, piece by piece.
use Rattle.std.specs.Prelude.{◌≡◌, cond, List, ℕ, zero, suc, ◌+◌, ◌^◌, length, ltb}
use Rattle.wire.specs.Bytes.{splice}

-- The k bytes ys were put into s at `at`, which is s' then, and the next goes to r.
pub record Wrote (s s' : List ℕ) (at k : ℕ) (ys : List ℕ) (r : ℕ) : Type 0 where
  pub next : r ≡ at + k
  pub size : length ys ≡ k
  pub kept : length s' ≡ length s
  pub wrote : s' ≡ splice k at ys s

-- How many decimal digits n has, or `least` where that is more; 20 are enough for a number below 2 ^ 64.
unfoldable pub places_from : ℕ → ℕ → ℕ → ℕ
places_from zero k n = k
places_from (suc more) k n = cond (ltb n (10 ^ k)) k (places_from more (suc k) n)

unfoldable pub places : ℕ → ℕ → ℕ
places least n = places_from 20 least n
