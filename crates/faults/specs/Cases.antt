-- The list, computed: which numbers have words, and the last of them.
use Rattle.std.specs.Prelude.{◌≡◌, refl, cond, List, [], ◌∷◌, ◌++◌, ℕ, zero, suc, length, eqb}
use Rattle.wire.specs.Bytes.{same}
use Rattle.faults.specs.Words.{heading, line, behind, words_of, bytes, faults}

-- The numbers below n that have words, the greatest first.
unfoldable pub told : ℕ → List ℕ
told zero = []
told (suc n) = cond (eqb (length (words_of n faults)) 0) (told n) (n ∷ told n)

pub numbers : told 256 ≡ 59 ∷ 51 ∷ 50 ∷ 48 ∷ 47 ∷ 46 ∷ 45 ∷ 44 ∷ 43 ∷ 42 ∷ 41 ∷ 40 ∷ 37 ∷ 36 ∷ 35 ∷ 34 ∷ 33 ∷ 32 ∷ 31 ∷ 30 ∷ 29 ∷ 28 ∷ 27 ∷ 26 ∷ 25 ∷ 24 ∷ 23 ∷ 22 ∷ 21 ∷ 20 ∷ 14 ∷ 13 ∷ 12 ∷ 11 ∷ 10 ∷ 9 ∷ 8 ∷ 7 ∷ 6 ∷ 5 ∷ 4 ∷ 3 ∷ 2 ∷ 1 ∷ []
unfolding told same heading line behind bytes faults
numbers = refl

pub last : words_of 59 faults ++ (10 ∷ []) ≡ bytes "the customer has no settings of that version"
unfolding same heading line behind bytes faults
last = refl
