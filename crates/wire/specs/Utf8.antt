-- UTF-8 by document 01's table of forms (cont = 80..BF):
--   00..7F; C2..DF cont; E0, A0..BF, cont; E1..EF, cont, cont; F0, 90..BF, cont, cont; F1..F3, three cont; F4, 80..8F, cont, cont.
use Rattle.std.specs.Prelude.{Bool, true, false, cond, ◌&&◌, ◌||◌, List, [], ◌∷◌, ℕ, zero, suc, leb, ltb, eqb}

-- What a text is: valid, or broken after so many bytes.
pub data Text : Type 0 where
  valid : Text
  broken : ℕ → Text

-- The same of a text with one good byte more in front.
unfoldable pub after : Text → Text
after valid = valid
after (broken n) = broken (suc n)

-- Whether a byte begins a form, how many bytes follow it, and the bounds of the next one: the table's rows.
unfoldable pub begins : ℕ → Bool
begins b = ltb b 0x80 || leb 0xC2 b && leb b 0xF4

unfoldable pub follow : ℕ → ℕ
follow b = cond (ltb b 0x80) 0 (cond (ltb b 0xE0) 1 (cond (ltb b 0xF0) 2 3))

unfoldable pub lowest : ℕ → ℕ
lowest b = cond (eqb b 0xE0) 0xA0 (cond (eqb b 0xF0) 0x90 0x80)

unfoldable pub highest : ℕ → ℕ
highest b = cond (eqb b 0xF4) 0x8F 0xBF

-- "The test stops at the first byte that breaks a form." k bytes of a form are due, the next of them in low..high.
-- A text that ends inside a form is broken at its end.
unfoldable pub text_from : ℕ → ℕ → ℕ → List ℕ → Text
text_from zero low high [] = valid
text_from (suc k) low high [] = broken 0
text_from zero low high (b ∷ bs) = cond (begins b) (after (text_from (follow b) (lowest b) (highest b) bs)) (broken 0)
text_from (suc k) low high (b ∷ bs) = cond (leb low b && leb b high) (after (text_from k 0x80 0xBF bs)) (broken 0)

abbrev pub text : List ℕ → Text
text s = text_from 0 0 0 s

unfoldable pub is_valid : Text → Bool
is_valid valid = true
is_valid (broken n) = false

-- Whether a text is UTF-8.
unfoldable pub utf8 : List ℕ → Bool
utf8 s = is_valid (text s)
