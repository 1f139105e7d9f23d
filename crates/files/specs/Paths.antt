-- Names of files, as bytes. 45 is the dash, and 47 the slash.
use Rattle.std.specs.List.{list_any}
use Rattle.std.specs.Prelude.{◌≡◌, Bool, false, cond, not, ◌&&◌, List, [], ◌∷◌, ◌++◌, ℕ, zero, suc, ◌-◌, length, take, get_or, replicate, slice_index_or, eqb, ltb, leb}

abbrev pub is_dash : List ℕ → Bool
is_dash s = eqb (length s) 1 && eqb (get_or s 0 0) 45

abbrev pub has_zero : List ℕ → Bool
has_zero s = list_any (λ b. eqb b 0) s

-- C is handed at most 4095 bytes, and reads up to a 0.
abbrev pub is_path : List ℕ → Bool
is_path s = ltb (length s) 4096 && not (has_zero s)

-- The last of a path's 4096 bytes is 0.
abbrev pub Ended : List ℕ → Type 0
Ended bytes = slice_index_or bytes 4095 1 ≡ 0

abbrev pub ended_of : List ℕ → List ℕ
ended_of s = take 4095 s ++ replicate (4096 - length (take 4095 s)) 0

-- How many of the first n bytes stand before the end of their last slash.
unfoldable pub directory_in : List ℕ → ℕ → ℕ
directory_in s zero = 0
directory_in s (suc n) = cond (eqb (get_or s n 0) 47) (suc n) (directory_in s n)

abbrev pub is_rooted : List ℕ → Bool
is_rooted [] = false
is_rooted (b ∷ bs) = eqb b 47

abbrev pub start_of : List ℕ → List ℕ → ℕ
start_of name target = cond (is_rooted target) 0 (directory_in name (length name))

-- What a target names that is seen from the file of a name: from the root on, or from that file's directory on.
abbrev pub joined : List ℕ → List ℕ → List ℕ
joined name target = take (start_of name target) name ++ target

-- A name in a room: where it does not fit, the whole room.
abbrev pub fitting : List ℕ → List ℕ → List ℕ
fitting name room = cond (leb (length name) (length room)) name room

-- `.blink-`, the digits, the letter and `.new`; nothing where a number has not so many digits.
unfoldable pub short_name : List ℕ → ℕ → List ℕ
short_name digits letter = cond (leb (length digits) 20) ((46 ∷ (98 ∷ (108 ∷ (105 ∷ (110 ∷ (107 ∷ (45 ∷ []))))))) ++ (digits ++ (letter ∷ (46 ∷ (110 ∷ (101 ∷ (119 ∷ []))))))) []
