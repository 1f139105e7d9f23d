-- UTF-8 by its forms, a line for each row of document 01's table.
use Rattle.std.specs.Prelude.{◌≡◌, List, [], ◌∷◌, ℕ, ◌≤◌}

pub record In (lowest highest c : ℕ) : Type 0 where
  pub low : lowest ≤ c
  pub high : c ≤ highest

-- "cont = 80..BF"
abbrev pub Cont : ℕ → Type 0
Cont c = In 0x80 0xBF c

-- "00..7F; C2..DF cont; E0, A0..BF, cont; E1..EF, cont, cont; F0, 90..BF, cont, cont; F1..F3, three cont; F4, 80..8F, cont, cont"
pub data Utf8 : List ℕ → Type 0 where
  empty : Utf8 []
  x00-7f : {b : ℕ} {s : List ℕ} → In 0x00 0x7F b → Utf8 s → Utf8 (b ∷ s)
  xc2-df : {b c : ℕ} {s : List ℕ} → In 0xC2 0xDF b → Cont c → Utf8 s → Utf8 (b ∷ (c ∷ s))
  xe0 : {b c d : ℕ} {s : List ℕ} → b ≡ 0xE0 → In 0xA0 0xBF c → Cont d → Utf8 s → Utf8 (b ∷ (c ∷ (d ∷ s)))
  xe1-ef : {b c d : ℕ} {s : List ℕ} → In 0xE1 0xEF b → Cont c → Cont d → Utf8 s → Utf8 (b ∷ (c ∷ (d ∷ s)))
  xf0 : {b c d e : ℕ} {s : List ℕ} → b ≡ 0xF0 → In 0x90 0xBF c → Cont d → Cont e → Utf8 s → Utf8 (b ∷ (c ∷ (d ∷ (e ∷ s))))
  xf1-f3 : {b c d e : ℕ} {s : List ℕ} → In 0xF1 0xF3 b → Cont c → Cont d → Cont e → Utf8 s → Utf8 (b ∷ (c ∷ (d ∷ (e ∷ s))))
  xf4 : {b c d e : ℕ} {s : List ℕ} → b ≡ 0xF4 → In 0x80 0x8F c → Cont d → Cont e → Utf8 s → Utf8 (b ∷ (c ∷ (d ∷ (e ∷ s))))
