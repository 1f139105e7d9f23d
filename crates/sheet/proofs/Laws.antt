-- Laws of lists held at a place, of counts, and of runs of taken bytes.
use mathlib.Core.Path.{◌≡◌, refl, sym, ap, ◌∙◌}
use mathlib.Core.Bool.{Bool, true}
use mathlib.Core.List.{List, [], ◌∷◌, ◌++◌, append_assoc}
use Prim.Native.Nat.{ℕ, zero, suc, ◌+◌, ◌*◌, ◌/◌, ◌%◌, ◌<◌, ◌^◌}
use native.Mathlib.Omega.{arith}
use lib.ListN.{length, drop, get_or, replicate, length-replicate, replicate-append-replicate}
use lib.Seq.{take_at, drop_at, drop-drop, drop-append_seam, get_or-drop}
use Rattle.wire.specs.Bytes.{part, le, bytes_of, all_zero}
use Rattle.wire.proofs.Laws.{le_bytes}
use Rattle.schema.specs.Faults.{need}
use Rattle.message.specs.Occupancy.{free, occupy, pads_zero}

pub need-true : {X : Type 0} (c : Bool) (f k : X) → c ≡ true → need c f k ≡ k
unfolding need
need-true c f k e = rw e

-- COUNTS

pub four : (x : ℕ) → x < 2 ^ 32 → le (bytes_of 4 x) ≡ x
four x h = le_bytes 4 x h

le-zero : (x : List ℕ) → le x ≡ 0 → x ≡ replicate (length x) 0
unfolding le
le-zero [] e = refl
le-zero (b ∷ bs) e =
    let p : b ≡ 0 = omega arith in
    let q : bs ≡ replicate (length bs) 0 = le-zero bs (omega arith) in
    cc

bytes-zero : (n : ℕ) → bytes_of n 0 ≡ replicate n 0
unfolding bytes_of
bytes-zero zero = refl
bytes-zero (suc n) = ap (λ (l : List ℕ). 0 ∷ l) (bytes-zero n)

-- a count below 256 has one form
pub bytes_small : (n : ℕ) (x : List ℕ) → length x ≡ suc n → le x < 256 → bytes_of (suc n) (le x) ≡ x
unfolding bytes_of le
bytes_small n [] l h = absurd (omega arith)
bytes_small n (b ∷ bs) l h =
    let z : le bs ≡ 0 = omega arith in
    let p : (b + 256 * le bs) % 256 ≡ b = omega arith in
    let q : (b + 256 * le bs) / 256 ≡ 0 = omega arith in
    let k : length bs ≡ n = omega arith in
    rw (p, q, bytes-zero n, ← k) (sym (ap (λ (l : List ℕ). b ∷ l) (le-zero bs z)))

-- A LIST HELD AT A PLACE

abbrev pub At : List ℕ → ℕ → List ℕ → Type 0
At b p xs = (t : List ℕ) × (drop p b ≡ xs ++ t)

pub at_left : (b : List ℕ) (p : ℕ) (xs ys : List ℕ) → At b p (xs ++ ys) → At b p xs
at_left b p xs ys (t, e) = (ys ++ t, e ∙ append_assoc xs ys t)

pub at_right : (b : List ℕ) (p q : ℕ) (xs ys : List ℕ) → q ≡ p + length xs → At b p (xs ++ ys) → At b q ys
at_right b p q xs ys h (t, e) = (t, rw (h, ← drop-drop (length xs) p b, e, append_assoc xs ys t) (drop-append_seam xs (ys ++ t)))

pub at_part : (b : List ℕ) (p n : ℕ) (xs : List ℕ) → length xs ≡ n → At b p xs → part n p b ≡ xs
at_part b p n xs h (t, e) = rw e (take_at xs t n h)

pub at_byte : (b : List ℕ) (p x : ℕ) (xs : List ℕ) → At b p (x ∷ xs) → get_or b p 0 ≡ x
at_byte b p x xs (t, e) = let q : p + 0 ≡ p = omega arith in sym (rw q at (get_or-drop p b 0 0)) ∙ rw e

-- RUNS OF MARKS

pub zeros-zero : (n : ℕ) → all_zero (replicate n 0) ≡ true
unfolding all_zero
zeros-zero zero = refl
zeros-zero (suc n) = zeros-zero n

pub pads-ones : (n : ℕ) (b : List ℕ) → pads_zero (replicate n 1) b ≡ true
unfolding pads_zero
pads-ones zero b = refl
pads-ones (suc n) [] = refl
pads-ones (suc n) (b ∷ bs) = pads-ones n bs

-- zeros behind z: the run that starts there is free, and to mark it puts ones there
module _ (z : List ℕ) (p n j k : ℕ) (hz : length z ≡ p) (hk : k ≡ n + j) where
  run-split : z ++ replicate k 0 ≡ z ++ (replicate n 0 ++ replicate j 0)
  run-split = rw (hk, replicate-append-replicate {A = ℕ} n j 0)

  pub run-free : free p n (z ++ replicate k 0) ≡ true
  unfolding free
  run-free = rw (run-split, drop_at z (replicate n 0 ++ replicate j 0) p hz, take_at {A = ℕ} (replicate n 0) (replicate j 0) n (length-replicate n 0)) (zeros-zero n)

  pub run-occupy : occupy p n (z ++ replicate k 0) ≡ (z ++ replicate n 1) ++ replicate j 0
  unfolding occupy
  run-occupy = rw (run-split, drop_at z (replicate n 0 ++ replicate j 0) p hz, drop_at {A = ℕ} (replicate n 0) (replicate j 0) n (length-replicate n 0), take_at z (replicate n 0 ++ replicate j 0) p hz, append_assoc z (replicate n 1) (replicate j 0))

pub ones-join : (z : List ℕ) (a b c : ℕ) → c ≡ a + b → (z ++ replicate a 1) ++ replicate b 1 ≡ z ++ replicate c 1
ones-join z a b c h = rw (h, append_assoc z (replicate a 1) (replicate b 1), replicate-append-replicate {A = ℕ} a b 1)
