-- Laws of names of files.
use Prim.Native.Nat.{ℕ, zero, suc, min, ◌+◌, ◌-◌, ◌<◌, ◌≤◌}
use mathlib.Core.Path.{◌≡◌, refl, sym, ap, ◌∙◌}
use mathlib.Core.List.{List, [], ◌∷◌, ◌++◌, append_assoc}
use native.Mathlib.Omega.{arith}
use lib.ListN.{length, get_or, get_or-replicate, take, drop, replicate}
use borrow.Author.Tests.{eq-eqb, ne_eqb, le-leb, lt-leb}
use Rattle.std.proofs.Common.{inl, inr}
use Rattle.std.proofs.lemmas.Bool.Decides.{eqb_tells}
use Rattle.std.proofs.lemmas.List.{drop-replicate, get_or-append_right, length-append, length-take, take_min}
use Rattle.files.specs.Paths.{Ended, ended_of, directory_in, fitting, short_name}

-- THE DIRECTORY

pub no-slash : (s : List ℕ) (n : ℕ) → n ≤ length s → ((k : ℕ) → k < length s → get_or s k 0 ≡ 47 → ⊥) → directory_in s n ≡ 0
unfolding directory_in
no-slash s zero h f = refl
no-slash s (suc n) h f = rw (ne_eqb (get_or s n 0) 47 (f n (omega arith))) (no-slash s n (omega arith) f)

pub last-slash : (s : List ℕ) (i n : ℕ) → i < n → n ≤ length s → get_or s i 0 ≡ 47 → ((k : ℕ) → i < k → k < length s → get_or s k 0 ≡ 47 → ⊥)
    → directory_in s n ≡ i + 1
unfolding directory_in
last-slash s i zero l h e f = absurd (omega arith)
last-slash s i (suc n) l h e f =
    elim (eqb_tells i n) [
      | inl p ↦ rw (eq-eqb (get_or s n 0) 47 (ap (λ (k : ℕ). get_or s k 0) (sym p.1) ∙ e)) (omega (arith, p.1))
      | inr p ↦ rw (ne_eqb (get_or s n 0) 47 (f n (omega (arith, p.1)) (omega arith))) (last-slash s i n (omega (arith, p.1)) (omega arith) e f)
    ]

-- A NAME AND ZEROS

module _ (k m n : ℕ) (name text : List ℕ) (e : n ≡ min (length name) k) (t : text ≡ take n name) where
  held : length (take k name) ≡ n
  held = omega (arith, length-take k name)

  cut : take n name ≡ take k name
  cut = let j : n ≡ min k (length name) = omega arith in rw (j, take_min)

  filled : text ++ drop n (replicate m 0) ≡ take k name ++ replicate (m - length (take k name)) 0
  filled =
      let w : text ≡ take k name = t ∙ cut in
      let z : drop {A = ℕ} n (replicate m 0) ≡ replicate (m - length (take k name)) 0 = rw (drop-replicate, held) in
      rw (w, z)

  filled-last : k < m → get_or (text ++ drop n (replicate m 0)) k 1 ≡ 0
  filled-last h =
      let l : length text ≡ n = omega (arith, ap length t, length-take n name) in
      get_or-append_right text (drop n (replicate m 0)) n k 1 l (omega arith)
      ∙ ap (λ (xs : List ℕ). get_or xs (k - n) 1) (drop-replicate n m 0) ∙ get_or-replicate (m - n) (k - n) 0 1 (omega arith)

module _ (n : ℕ) (name text : List ℕ) (e : n ≡ min (length name) 4095) (t : text ≡ take n name) where
  pub ended-value : text ++ drop n (replicate 4096 0) ≡ ended_of name
  ended-value = filled 4095 4096 n name text e t

  pub ended-last : Ended (text ++ drop n (replicate 4096 0))
  ended-last = filled-last 4095 4096 n name text e t (omega arith)

-- A NEW FILE'S NAME

pub short-is : (digits start named full : List ℕ) (letter : ℕ) → length digits ≤ 20 → start ≡ 46 ∷ (98 ∷ (108 ∷ (105 ∷ (110 ∷ (107 ∷ (45 ∷ digits))))))
    → named ≡ start ++ (letter ∷ []) → full ≡ named ++ (46 ∷ (110 ∷ (101 ∷ (119 ∷ [])))) → full ≡ short_name digits letter
unfolding short_name
short-is digits start named full letter l a b c = rw (le-leb (length digits) 20 l, c, b, a, append_assoc)

-- THE SAME IN A LENT ROOM

pub short-none : (digits : List ℕ) (letter : ℕ) → 20 < length digits → [] ≡ short_name digits letter
unfolding short_name
short-none digits letter h = rw (lt-leb (length digits) 20 h)

fits : (start text room held full : List ℕ) → length start + length text ≤ length room → held ≡ start → full ≡ fitting (held ++ text) room → full ≡ start ++ text
fits start text room held full h e f = rw (f, e, le-leb (length (start ++ text)) (length room) (omega (arith, h, length-append start text)))

module _ (room₀ room₁ room₂ digits xs ys zs : List ℕ) (letter : ℕ) where
  abbrev head : List ℕ
  head = 46 ∷ (98 ∷ (108 ∷ (105 ∷ (110 ∷ (107 ∷ (45 ∷ []))))))

  abbrev tail : List ℕ
  tail = letter ∷ (46 ∷ (110 ∷ (101 ∷ (119 ∷ []))))

  pub short-lent : length room₀ ≡ 64 → length room₁ ≡ length room₀ → length room₂ ≡ length room₁ → length digits ≤ 20
      → xs ≡ fitting head room₀ → ys ≡ fitting (xs ++ digits) room₁ → zs ≡ fitting (ys ++ tail) room₂ → zs ≡ short_name digits letter
  unfolding short_name
  short-lent l₀ l₁ l₂ l a b c =
      let start = fits head digits room₁ xs ys (omega arith) (fits [] head room₀ [] xs (omega arith) refl a) b in
      rw (le-leb (length digits) 20 l) (fits (head ++ digits) tail room₂ ys zs (omega arith) start c)
