-- Large numbers as lists of 32-bit limbs.
use Rattle.std.specs.Prelude.{Bool, cond, List, [], ◌∷◌, ℕ, ◌+◌, ◌*◌, ltb, leb}

-- The number that limbs stand for, the least first.
unfoldable pub value : List ℕ → ℕ
value [] = 0
value (x ∷ xs) = x + 4294967296 * value xs

-- Whether x is below a limit, which counts as below itself where the end is closed.
abbrev pub up_to : Bool → ℕ → ℕ → Bool
up_to closed x y = cond closed (leb x y) (ltb x y)
