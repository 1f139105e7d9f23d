-- What stands in a text, character by character.
use Rattle.std.specs.Prelude.{Bool, true, false, cond, ◌&&◌, ◌||◌, List, [], ◌∷◌, ℕ, zero, suc, ◌+◌, ◌*◌, ◌%◌, ◌≤◌, min, max, length, get_or, leb, ltb, eqb}
use Rattle.values.specs.declared.characters.Piece.{Piece}
use Rattle.values.specs.declared.characters.Kind.{Kind}
use Rattle.values.specs.declared.characters.Kind.TheVariants.{Plain, Quoted, Numbered, Broken}

-- A code point, or all from one to another.
pub data Range : Type 0 where
  one : ℕ → Range
  to : ℕ → ℕ → Range

unfoldable pub has : Range → ℕ → Bool
has (one a) n = eqb n a
has (to a b) n = leb a n && leb n b

unfoldable pub is_in : List Range → ℕ → Bool
is_in [] n = false
is_in (r ∷ rs) n = has r n || is_in rs n

-- The characters that are shown as their numbers: controls, those that can not be seen or turn the direction of others, and halves of pairs.
unfoldable pub shown : List Range
shown =
    to 0x0 0x1F
    ∷ to 0x7F 0x9F
    ∷ one 0xAD
    ∷ one 0x61C
    ∷ one 0x180E
    ∷ to 0x200B 0x200F
    ∷ to 0x2028 0x202E
    ∷ to 0x2060 0x206F
    ∷ to 0xD800 0xDFFF
    ∷ one 0xFEFF
    ∷ to 0xFFF9 0xFFFB
    ∷ to 0xE0000 0xE007F
    ∷ []

unfoldable pub is_shown : ℕ → Bool
is_shown n = is_in shown n

-- How a character is printed. 34 is `"`, and 92 `\`.
unfoldable pub kind_of : ℕ → Kind
kind_of n = cond (eqb n 34 || eqb n 92) Quoted (cond (is_shown n) Numbered Plain)

-- Whether a byte goes on with a character.
unfoldable pub follows : ℕ → Bool
follows c = leb 0x80 c && ltb c 0xC0

-- The codes of two, three and four bytes: the low bits of the first, and six of each that follows.
unfoldable pub two : ℕ → ℕ → ℕ
two b c = 64 * (b % 32) + c % 64

unfoldable pub three : ℕ → ℕ → ℕ → ℕ
three b c d = 4096 * (b % 16) + 64 * (c % 64) + d % 64

unfoldable pub four : ℕ → ℕ → ℕ → ℕ → ℕ
four b c d e = 262144 * (b % 8) + 4096 * (c % 64) + 64 * (d % 64) + e % 64

-- Whether they are a character: one with a code that fewer bytes have is none.
unfoldable pub is_two : ℕ → ℕ → Bool
is_two b c = leb 0xC2 b && ltb b 0xE0 && follows c

unfoldable pub is_three : ℕ → ℕ → ℕ → Bool
is_three b c d = leb 0xE0 b && ltb b 0xF0 && follows c && follows d && leb 0x800 (three b c d)

unfoldable pub is_four : ℕ → ℕ → ℕ → ℕ → Bool
is_four b c d e =
    leb 0xF0 b && ltb b 0xF8 && follows c && follows d && follows e && leb 0x10000 (four b c d e) && leb (four b c d e) 0x10FFFF

unfoldable pub whole : ℕ → ℕ → Piece
whole k n = record { length = k; code = n; kind = kind_of n }

-- What begins with the byte b, with the three that follow it.
unfoldable pub piece_of : ℕ → ℕ → ℕ → ℕ → Piece
piece_of b c d e =
    cond (ltb b 0x80) (whole 1 b)
    (cond (is_two b c) (whole 2 (two b c))
    (cond (is_three b c d) (whole 3 (three b c d))
    (cond (is_four b c d e) (whole 4 (four b c d e)) (record { length = 1; code = b; kind = Broken }))))

-- What stands in a text at `at`. Behind its end a text is read as zeros, which go on with nothing.
unfoldable pub piece_at : List ℕ → ℕ → Piece
piece_at s at =
    cond (ltb at (length s))
    (piece_of (get_or s at 0) (get_or s (at + 1) 0) (get_or s (at + 2) 0) (get_or s (at + 3) 0))
    (record { length = 0; code = 0; kind = Broken })

-- A piece of a text stays inside it, and is not empty where the text goes on.
pub record Stays (s : List ℕ) (at k : ℕ) : Type 0 where
  pub inside : at + k ≤ max at (length s)
  pub some : min (at + 1) (length s) ≤ at + k

unfoldable pub is_plain : Kind → Bool
is_plain Plain = true
is_plain Quoted = false
is_plain Numbered = false
is_plain Broken = false

-- How many bytes of a text from `at` on are characters that are printed as they are; there are at most as many characters as bytes.
unfoldable pub plain_from : ℕ → List ℕ → ℕ → ℕ
plain_from zero s at = 0
plain_from (suc k) s at = cond (is_plain (piece_at s at).kind) ((piece_at s at).length + plain_from k s (at + (piece_at s at).length)) 0

unfoldable pub plain_run : List ℕ → ℕ → ℕ
plain_run s at = plain_from (length s) s at
