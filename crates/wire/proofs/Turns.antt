-- Tests of bytes as equations: a turn of the loops without early exit, the first byte that is not zero, and sameness by `==`.
use Prim.Native.Nat.{ℕ, zero, suc, ◌+◌, ◌<◌, ◌≤◌}
use mathlib.Core.Path.{◌≡◌, refl, sym, ap, ◌∙◌}
use mathlib.Core.Bool.{Bool, true, ◌&&◌, and-true, and_assoc}
use mathlib.Core.List.{List, [], ◌∷◌}
use lib.ListN.{length, get_or, drop, drop_of_length-le}
use lib.Dec.{eqb}
use lib.Pointwise.{pointwise}
use native.Mathlib.Omega.{arith}
use Rattle.wire.specs.Bytes.{part, same, zeros}
use Rattle.wire.proofs.Laws.{drop_more, two, two-of}

-- f tests every byte by p, as `all_zero` and `all_ascii` do; z is what the loop found of the first i
module _ (f : List ℕ → Bool) (p : ℕ → Bool) (none : f [] ≡ true) (more : (x : ℕ) (xs : List ℕ) → f (x ∷ xs) ≡ p x && f xs) (s : List ℕ) (i : ℕ) (z : Bool) where
  pub test-turn : i < length s → z && f (drop i s) ≡ z && p (get_or s i 0) && f (drop (i + 1) s)
  test-turn h = rw (drop_more s i h, more) (sym (and_assoc z _ _))

  pub test-end : length s ≤ i → z && f (drop i s) ≡ z
  test-end h = rw (drop_of_length-le s h, none) (and-true z)

pub zeros-hit : (x : ℕ) (xs : List ℕ) → (x ≡ 0 → ⊥) → zeros (x ∷ xs) ≡ 0
unfolding zeros
zeros-hit zero xs h = absurd (h refl)
zeros-hit (suc x) xs h = refl

pub zeros-miss : (x : ℕ) (xs : List ℕ) → x ≡ 0 → zeros (x ∷ xs) ≡ zeros xs + 1
unfolding zeros
zeros-miss x xs h = rw h (omega arith)

pub zeros-le : (xs : List ℕ) → zeros xs ≤ length xs
unfolding zeros
zeros-le [] = omega arith
zeros-le (zero ∷ xs) = omega (arith, zeros-le xs)
zeros-le (suc x ∷ xs) = omega arith

-- `==` on slices and arrays
pub pointwise-same : (xs ys : List ℕ) → pointwise eqb xs ys ≡ same xs ys
unfolding same
pointwise-same [] [] = refl
pointwise-same [] (y ∷ ys) = refl
pointwise-same (x ∷ xs) [] = refl
pointwise-same (x ∷ xs) (y ∷ ys) = ap (λ (b : Bool). eqb x y && b) (pointwise-same xs ys)

-- two bytes, one by one
pub same-two : (at : ℕ) (s m : List ℕ) → at + 2 ≤ length s → length m ≡ 2 → same (part 2 at s) m ≡ eqb (get_or s at 0) (get_or m 0 0) && eqb (get_or s (at + 1) 0) (get_or m 1 0)
unfolding same
same-two at s m h e = ap (same (part 2 at s)) (two-of m e) ∙ rw (two at s h) (ap (λ (b : Bool). eqb (get_or s at 0) (get_or m 0 0) && b) (and-true _))
