-- Numbers as text.
use Rattle.std.specs.Prelude.{Bool, true, cond, ◌&&◌, List, [], ◌∷◌, ℕ, ◌+◌, ◌-◌, ◌*◌, length, leb, ltb, Option, Some, None}

-- 48 is the digit 0, and 57 the digit 9.
unfoldable pub all_digits : List ℕ → Bool
all_digits [] = true
all_digits (d ∷ ds) = leb 48 d && leb d 57 && all_digits ds

-- The number of decimal digits that follow those of n.
unfoldable pub value_from : ℕ → List ℕ → ℕ
value_from n [] = n
value_from n (d ∷ ds) = value_from (10 * n + (d - 48)) ds

-- A number is digits, at least one, and below 2 ^ 64.
unfoldable pub decimal_of : List ℕ → Option ℕ
decimal_of s = cond (ltb 0 (length s) && (all_digits s && ltb (value_from 0 s) 18446744073709551616)) (Some (value_from 0 s)) None

unfoldable pub short_of : Option ℕ → Option ℕ
short_of (Some n) = cond (leb n 65535) (Some n) None
short_of None = None
