-- Bytes as lists of numbers: parts of a list, little-endian numbers, two's complement, marks and zeros.
use Rattle.std.specs.Prelude.{Bool, true, false, cond, ◌&&◌, List, [], ◌∷◌, ◌++◌, ℕ, zero, suc, ◌+◌, ◌-◌, ◌*◌, ◌/◌, ◌%◌, ◌^◌, ℤ, pos, negsuc, take, drop, ltb, eqb}

-- The n bytes from `at` on.
-- It is spelled as the checker spells a slice's part that is lent, `&s[at..at + n]`, so that nothing has to be rewritten there.
abbrev pub part : ℕ → ℕ → List ℕ → List ℕ
part n at s = take n (drop at s)

-- s with ys for its n bytes from `at` on, spelled as the checker spells what a lent `&mut` part leaves.
abbrev pub splice : ℕ → ℕ → List ℕ → List ℕ → List ℕ
splice n at ys s = take at s ++ (ys ++ drop n (drop at s))

-- The number of little-endian bytes.
-- Document 004, 3.1: "bytes with lower order bits precede bytes with higher order bits".
unfoldable pub le : List ℕ → ℕ
le [] = 0
le (b ∷ bs) = b + 256 * le bs

-- The n bytes of a number, least first: what is above them is cut off.
unfoldable pub bytes_of : ℕ → ℕ → List ℕ
bytes_of zero x = []
bytes_of (suc n) x = x % 256 ∷ bytes_of n (x / 256)

-- The signed number of a pattern of k + 1 bits.
-- Document 004, 3.1: "a two's complement representation where the most significant bit is the sign bit".
abbrev pub signed : ℕ → ℕ → ℤ
signed k n = cond (ltb n (2 ^ k)) (pos n) (negsuc (2 ^ (k + 1) - 1 - n))

-- And back: the pattern of a signed number, of k + 1 bits.
unfoldable pub pattern : ℕ → ℤ → ℕ
pattern k (pos n) = n
pattern k (negsuc n) = 2 ^ (k + 1) - 1 - n

-- Whether two lists are the same, as the records' marks are tested.
-- Document 01: "a two-byte mark before each record's contents".
unfoldable pub same : List ℕ → List ℕ → Bool
same [] [] = true
same [] (y ∷ ys) = false
same (x ∷ xs) [] = false
same (x ∷ xs) (y ∷ ys) = eqb x y && same xs ys

-- Whether every byte is zero.
-- Document 01, 4, 6 and 8: "absent field, pad or unused inline byte not zero".
unfoldable pub all_zero : List ℕ → Bool
all_zero [] = true
all_zero (x ∷ xs) = eqb x 0 && all_zero xs

-- How many zeros stand first, so where the first byte stands that is not zero.
-- Document 01: "Of several wrong bytes the first counts."
unfoldable pub zeros : List ℕ → ℕ
zeros [] = 0
zeros (zero ∷ bs) = suc (zeros bs)
zeros (suc b ∷ bs) = 0
