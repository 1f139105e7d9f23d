-- How the scan of a text goes on, form by form.
use Rattle.std.specs.Prelude.{◌≡◌, Bool, true, ◌&&◌, List, [], ◌∷◌, ℕ, ◌+◌, ◌<◌, ◌≤◌, length, get_or, drop, leb, ltb}
use Rattle.wire.specs.Utf8.{utf8}

-- Whether every byte is ASCII.
unfoldable pub all_ascii : List ℕ → Bool
all_ascii [] = true
all_ascii (b ∷ bs) = ltb b 0x80 && all_ascii bs

-- Whether a byte stands at `at`, and between two bounds.
abbrev pub next : List ℕ → ℕ → ℕ → ℕ → Bool
next s at low high = ltb at (length s) && (leb low (get_or s at 0) && leb (get_or s at 0) high)

-- What a form of n bytes at `at` tells: the text is as good as what follows the form.
pub record Form (s : List ℕ) (at n : ℕ) : Type 0 where
  pub some : 0 < n
  pub inside : at + n ≤ length s
  pub passes : utf8 (drop at s) ≡ utf8 (drop (at + n) s)
