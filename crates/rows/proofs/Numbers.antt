-- Numbers and marks where there may be too few bytes.
use Prim.Native.Nat.{ℕ, zero, suc, ◌+◌, ◌*◌, ◌^◌}
use mathlib.Core.Path.{◌≡◌, refl}
use mathlib.Core.List.{List, [], ◌∷◌}
use native.Mathlib.Omega.{arith}
use native.Mathlib.Nat.{pow-succ', mul_assoc}
use lib.ListN.{length, get_or, take}
use lib.Dec.{eqb}
use lib.Pointwise.{pointwise}
use Rattle.std.proofs.lemmas.Bool.Decides.{nat_tests}
use Rattle.wire.specs.Bytes.{le, same}

-- no byte, and one more
pub le-none : (s : List ℕ) → le (take 0 s) ≡ 0
unfolding le
le-none s = refl

pub le-more : (n : ℕ) (s : List ℕ) → le (take (suc n) s) ≡ le (take n s) + 256 ^ n * get_or s n 0
unfolding le
le-more zero [] = omega arith
le-more zero (x ∷ s) = omega arith
le-more (suc n) [] = omega arith
le-more (suc n) (x ∷ s) = rw (le-more n s, pow-succ', mul_assoc) (omega arith)

eqb-sym : (x y : ℕ) → eqb x y ≡ eqb y x
eqb-sym x y = grind (arith, nat_tests)

pointwise-same : (m s : List ℕ) → pointwise eqb m s ≡ same s m
unfolding same
pointwise-same [] [] = refl
pointwise-same [] (y ∷ s) = refl
pointwise-same (x ∷ m) [] = refl
pointwise-same (x ∷ m) (y ∷ s) = rw (eqb-sym x y, pointwise-same m s)

pub marked : (m s : List ℕ) → length m ≡ 2 → pointwise eqb m (take (length m) s) ≡ same (take 2 s) m
marked m s l = rw l (pointwise-same m (take 2 s))
