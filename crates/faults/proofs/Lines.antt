-- Lines, one byte after the other, and what a room holds after words were written.
use Prim.Native.Nat.{ℕ, ◌+◌, ◌-◌, ◌<◌, ◌≤◌}
use mathlib.Core.Path.{◌≡◌, refl, sym, ap, ◌∙◌}
use mathlib.Core.Bool.{Bool, true, false, ◌&&◌, and-eq-true_iff}
use mathlib.Core.List.{List, [], ◌∷◌, ◌++◌, append_assoc, append-nil}
use native.Mathlib.Omega.{arith}
use lib.ListN.{length, get_or, take, drop, drop_of_length-le, length-take, length-drop}
use lib.Seq.{drop-drop, take-take, take_all}
use lib.Dec.{eqb}
use borrow.Author.Tests.{eq-eqb, ne_eqb}
use Rattle.wire.specs.Bytes.{part, splice, same}
use Rattle.wire.proofs.Laws.{drop_more, part-add, length_part, same-eq}
use Rattle.faults.specs.Words.{heading, line, behind, fitted}

-- lists of different lengths are not the same
pub other_length : (x y : List ℕ) → (length x ≡ length y → ⊥) → same x y ≡ false
other_length x y h = go (same x y) refl
  where
    go : (b : Bool) → same x y ≡ b → same x y ≡ false
    go true e = absurd (h (ap length (same-eq x y e)))
    go false e = e

pub short-part : (s h : List ℕ) (i : ℕ) → i ≤ length s → length s - i < 3 → length h ≡ 3 → same (part 3 i s) h ≡ false
short-part s h i l k e =
    let n : length (part 3 i s) ≡ length s - i = simp (length-take, length-drop) (omega arith) in
    other_length _ h (λ q. omega (arith, n, q))

pub length-heading : (n : ℕ) → length (heading n) ≡ 3
unfolding heading
length-heading n = refl

pub no-heading : (s : List ℕ) (i n : ℕ) → i ≤ length s → length s - i < 3 → same (part 3 i s) (heading n) ≡ false
no-heading s i n l k = short-part s (heading n) i l k (length-heading n)

-- a heading that stands there has room
pub heading-fits : (s : List ℕ) (i n : ℕ) (first r : Bool) → i < length s → r ≡ same (part 3 i s) (heading n) → (first && r) ≡ true → i + 3 ≤ length s
heading-fits s i n first r l e t =
    let q = same-eq (part 3 i s) (heading n) (sym e ∙ ((and-eq-true_iff first r).0 t).1) in
    let k : length (part 3 i s) ≡ 3 = ap length q ∙ length-heading n in
    let m = simp (length-take, length-drop) at k in
    omega (arith, m)

module _ (s : List ℕ) (i : ℕ) where
  pub line-stop : i < length s → get_or s i 0 ≡ 10 → line (drop i s) ≡ []
  unfolding line
  line-stop h e = rw (drop_more s i h, eq-eqb _ _ e)

  pub line-more : i < length s → (get_or s i 0 ≡ 10 → ⊥) → line (drop i s) ≡ get_or s i 0 ∷ line (drop (i + 1) s)
  unfolding line
  line-more h e = rw (drop_more s i h, ne_eqb _ _ e)

  pub line-end : length s ≤ i → line (drop i s) ≡ []
  unfolding line
  line-end h = rw (drop_of_length-le s h)

  module _ (h : List ℕ) (first : Bool) where
    pub behind-here : i < length s → (r : Bool) → r ≡ same (part 3 i s) h → (first && r) ≡ true → behind h first (drop i s) ≡ line (drop (i + 3) s)
    unfolding behind
    behind-here l r q e =
        let d = drop_more s i l in
        let t : (first && same (take 3 (get_or s i 0 ∷ drop (i + 1) s)) h) ≡ true = ap (λ (x : List ℕ). first && same (take 3 x) h) (sym d) ∙ ap (λ (x : Bool). first && x) (sym q) ∙ e in
        let k : i + 1 + 2 ≡ i + 3 = omega arith in
        rw (d, t, drop-drop 2 (i + 1) s, k)

    pub behind-on : i < length s → (r : Bool) → r ≡ same (part 3 i s) h → (first && r) ≡ false → behind h first (drop i s) ≡ behind h (eqb (get_or s i 0) 10) (drop (i + 1) s)
    unfolding behind
    behind-on l r q e =
        let d = drop_more s i l in
        let t : (first && same (take 3 (get_or s i 0 ∷ drop (i + 1) s)) h) ≡ false = ap (λ (x : List ℕ). first && same (take 3 x) h) (sym d) ∙ ap (λ (x : Bool). first && x) (sym q) ∙ e in
        rw (d, t)

    pub behind-end : length s ≤ i → behind h first (drop i s) ≡ []
    unfolding behind
    behind-end l = rw (drop_of_length-le s l)

-- a line's first bytes and its rest
pub line-none : (s : List ℕ) (at : ℕ) → line (drop at s) ≡ part 0 at s ++ line (drop (at + 0) s)
line-none s at = let k : at + 0 ≡ at = omega arith in rw k

pub grown-end : (s : List ℕ) (at n : ℕ) → length s ≤ at + n → line (drop at s) ≡ part n at s ++ line (drop (at + n) s) → line (drop at s) ≡ part n at s
grown-end s at n h g = g ∙ rw (line-end s (at + n) h) (append-nil (part n at s))

module _ (s : List ℕ) (at n : ℕ) (h : at + n < length s) where
  pub grown-stop : get_or s (at + n) 0 ≡ 10 → line (drop at s) ≡ part n at s ++ line (drop (at + n) s) → line (drop at s) ≡ part n at s
  grown-stop e g = g ∙ rw (line-stop s (at + n) h e) (append-nil (part n at s))

  pub grown-more : (get_or s (at + n) 0 ≡ 10 → ⊥) → line (drop at s) ≡ part n at s ++ line (drop (at + n) s)
      → line (drop at s) ≡ part (n + 1) at s ++ line (drop (at + (n + 1)) s)
  grown-more e g =
      let k : at + (n + 1) ≡ at + n + 1 = omega arith in
      let one : part 1 (at + n) s ≡ get_or s (at + n) 0 ∷ [] = rw (drop_more s (at + n) h) in
      g ∙ rw (line-more s (at + n) h e, part-add n 1 at s, one, k) (sym (append_assoc (part n at s) _ _))

-- what a copy leaves in a room that has place for all, and in one that has not
module _ (words room text : List ℕ) (at n : ℕ) (e : words ≡ part n at text) (h : at + n ≤ length text) where
  pub all_fit : n ≤ length room → splice n 0 (part n at text) room ≡ fitted words room
  all_fit l =
      let k : length words ≡ n = ap length e ∙ length_part n at text h in
      rw (take_all (length room) words (omega arith), k, e)

  pub some_fit : length room ≤ n → splice (length room) 0 (part (length room) at text) room ≡ fitted words room
  some_fit l =
      let k : length words ≡ n = ap length e ∙ length_part n at text h in
      let z : length room ≤ length room = omega arith in
      rw (drop_of_length-le room z, k, drop_of_length-le room l, e, take-take (length room) n (drop at text) l)
