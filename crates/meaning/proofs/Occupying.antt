-- How many bytes of a data area are taken.
use mathlib.Core.Path.{◌≡◌, refl, sym, ap, ◌∙◌}
use mathlib.Core.Bool.{true, and-eq-true_iff}
use mathlib.Core.List.{List, [], ◌∷◌, ◌++◌}
use Prim.Native.Nat.{ℕ, zero, suc, ◌+◌, ◌-◌, ◌≤◌}
use native.Mathlib.Omega.{arith}
use lib.ListN.{length, take, drop, replicate, length-drop, length-replicate, take-append-drop}
use lib.Seq.{drop-append-le, length-take-le}
use lib.Dec.{eqb}
use borrow.Author.Tests.{eqb-true}
use Rattle.wire.specs.Bytes.{all_zero}
use Rattle.wire.proofs.Laws.{length-splice}
use Rattle.message.specs.Occupancy.{free, occupy}

pub occupy-length : (p n : ℕ) (m : List ℕ) → p + n ≤ length m → length (occupy p n m) ≡ length m
unfolding occupy
occupy-length p n m l = length-splice n p (replicate n 1) m l (length-replicate {A = ℕ} n 1)

ones : List ℕ → ℕ
ones [] = 0
ones (zero ∷ xs) = ones xs
ones (suc x ∷ xs) = suc (ones xs)

ones-append : (x y : List ℕ) → ones (x ++ y) ≡ ones x + ones y
unfolding ones
ones-append [] y = omega arith
ones-append (zero ∷ xs) y = ones-append xs y
ones-append (suc x ∷ xs) y = omega (arith, ones-append xs y)

ones-ones : (n : ℕ) → ones (replicate n 1) ≡ n
unfolding ones
ones-ones zero = refl
ones-ones (suc n) = ap suc (ones-ones n)

ones-zero : (x : List ℕ) → all_zero x ≡ true → ones x ≡ 0
unfolding ones all_zero
ones-zero [] e = refl
ones-zero (zero ∷ xs) e = ones-zero xs ((and-eq-true_iff (eqb 0 0) (all_zero xs)).0 e).1
ones-zero (suc x ∷ xs) e = let z : suc x ≡ 0 = eqb-true (suc x) 0 ((and-eq-true_iff (eqb (suc x) 0) (all_zero xs)).0 e).0 in absurd (omega arith)

ones-le : (x : List ℕ) → ones x ≤ length x
unfolding ones
ones-le [] = omega arith
ones-le (zero ∷ xs) = omega (arith, ones-le xs)
ones-le (suc x ∷ xs) = omega (arith, ones-le xs)

-- how many bytes are taken from a on
pub taken : ℕ → List ℕ → ℕ
taken a m = ones (drop a m)

pub taken-le : (a : ℕ) (m : List ℕ) → taken a m ≤ length m - a
unfolding taken
taken-le a m = omega (arith, ones-le (drop a m), length-drop a m)

-- to mark free bytes takes as many more
pub taken_more : (a p n : ℕ) (m : List ℕ) → free p n m ≡ true → a ≤ p → p + n ≤ length m → taken a m + n ≤ taken a (occupy p n m)
unfolding occupy free taken
taken_more a p n m e l h =
    let q : p ≤ length m = omega arith in
    let k : length (take p m) ≡ p = length-take-le p m q in
    let z : ones (take n (drop p m)) ≡ 0 = ones-zero _ e in
    let s : m ≡ take p m ++ (take n (drop p m) ++ drop n (drop p m)) = sym (rw (take-append-drop n (drop p m)) (take-append-drop p m)) in
    let d : drop a m ≡ drop a (take p m) ++ (take n (drop p m) ++ drop n (drop p m)) = ap (drop a) s ∙ drop-append-le a (take p m) _ (omega arith) in
    rw (drop-append-le a (take p m) (replicate n 1 ++ drop n (drop p m)) (omega arith))
    (omega (arith, ap ones d, ones-append (drop a (take p m)) (take n (drop p m) ++ drop n (drop p m)), ones-append (take n (drop p m)) (drop n (drop p m)), ones-append (drop a (take p m)) (replicate n 1 ++ drop n (drop p m)), ones-append (replicate n 1) (drop n (drop p m)), ones-ones n))
