-- Lent buffers: what they are filled with, and their checksum.
use Rattle.std.specs.Prelude.{List, [], ◌∷◌, ℕ, zero, suc, ◌+◌, ◌*◌, ◌%◌}

-- "byte i of every lent buffer is 2 + i % 251": n bytes, from byte i on.
unfoldable pub filled : ℕ → ℕ → List ℕ
filled i zero = []
filled i (suc n) = (2 + i % 251) ∷ filled (i + 1) n

-- RFC 1950, 2.2: "s1 is the sum of all bytes, s2 is the sum of all s1 values. Both sums are done modulo 65521." These are the two behind a and b.
unfoldable pub adler_from : ℕ → ℕ → List ℕ → ℕ
adler_from a b [] = 65536 * b + a
adler_from a b (x ∷ xs) = adler_from ((a + x) % 65521) ((b + (a + x) % 65521) % 65521) xs

-- "s1 is initialized to 1, s2 to zero. The Adler-32 checksum is stored as s2*65536 + s1".
abbrev pub adler : List ℕ → ℕ
adler s = adler_from 1 0 s
