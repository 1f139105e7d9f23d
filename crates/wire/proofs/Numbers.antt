-- The bytes of a number as `from_le_bytes` and `to_le_bytes` have them.
use Prim.Native.Nat.{ℕ, zero, suc, ◌+◌, ◌-◌, ◌*◌, ◌/◌, ◌%◌, ◌^◌, ◌<◌, ◌≤◌}
use mathlib.Core.Path.{◌≡◌, refl, ap, ◌∙◌}
use mathlib.Core.List.{List, ◌++◌}
use native.Mathlib.Omega.{arith}
use native.Mathlib.Nat.{pow-succ', div-div-eq-div-mul, div-one, mul_comm}
use lib.ListN.{length, get_or, take, drop, replicate, length-append, length-take, length-drop, get_or-eq_default}
use lib.Seq.{take_all, take_at, take-add, get_or-take, get_or-drop}
use lib.Dec.{ltb}
use borrow.Author.Tests.{ltb-true, ltb-false}
use mathlib.Core.Bool.{Bool, true, false}
use Rattle.std.specs.Int.{w64, sum_through, byte_at, byte_worth, bytes_low_first, from_le_bytes, to_le_bytes}
use Rattle.wire.specs.Bytes.{part, le, bytes_of}
use Rattle.wire.proofs.Laws.{drop_more, le-append, length-bytes, bytes-add}

le-front : (k : ℕ) (s : List ℕ) → k < length s → sum_through (λ i. byte_worth i (get_or s i 0)) k ≡ le (take (k + 1) s)
unfolding le
le-front zero s h = rw (drop_more s 0 h) (omega arith)
le-front (suc k) s h =
    let a : suc k + 1 ≡ k + 1 + 1 = omega arith in
    let b : k + 1 ≡ suc k = omega arith in
    let l : length (take (k + 1) s) ≡ k + 1 = simp length-take (omega arith) in
    let t : le (take (k + 1 + 1) s) ≡ le (take (k + 1) s) + 256 ^ (k + 1) * get_or s (k + 1) 0 =
    rw (take-add (k + 1) 1 s, le-append, l, drop_more s (k + 1) (omega arith)) (omega arith) in
    rw (a, t, ← (le-front k s (omega arith)), b, mul_comm (256 ^ suc k) (get_or s (suc k) 0))

le-zeros : (n m : ℕ) → le (drop n (replicate m 0)) ≡ 0
unfolding le
le-zeros zero zero = refl
le-zeros zero (suc m) = rw (le-zeros zero m)
le-zeros (suc n) zero = refl
le-zeros (suc n) (suc m) = le-zeros n m

-- n bytes, written over the first of eight zeros
pub le-padded : (n : ℕ) (xs : List ℕ) → n ≤ 8 → length xs ≡ n → from_le_bytes w64 (xs ++ drop n (replicate 8 0)) ≡ le xs
le-padded n xs h e =
    let s = xs ++ drop n (replicate 8 0) in
    let l : length s ≡ 8 = simp (length-append, length-drop) (omega arith) in
    le-front 7 s (omega arith) ∙ rw (take_all 8 s (omega arith), le-append, le-zeros n 8) (omega arith)

pub part_small : (n at : ℕ) (s : List ℕ) → ((i : ℕ) → get_or s i 0 < 256) → (i : ℕ) → get_or (part n at s) i 0 < 256
part_small n at s b i = go (ltb i n) refl
  where
    go : (c : Bool) → ltb i n ≡ c → get_or (part n at s) i 0 < 256
    go true e = rw (get_or-take n (drop at s) i 0 (ltb-true i n e), get_or-drop at s i 0) (b (at + i))
    go false e = rw (get_or-eq_default (part n at s) 0 {n = i} (simp length-take (omega (arith, ltb-false i n e)))) (omega arith)

byte_at-is : (i n : ℕ) → byte_at i n ≡ n / 256 ^ i % 256
byte_at-is zero n = rw div-one
byte_at-is (suc i) n = refl

bytes-from : (k i n : ℕ) → bytes_low_first i k n ≡ bytes_of k (n / 256 ^ i)
unfolding bytes_of
bytes-from zero i n = refl
bytes-from (suc k) i n = rw (byte_at-is, bytes-from k (suc i) n, div-div-eq-div-mul, pow-succ', mul_comm 256 (256 ^ i))

-- the first m of a number's eight bytes
pub bytes-first : (m n : ℕ) → m ≤ 8 → take m (to_le_bytes w64 n) ≡ bytes_of m n
bytes-first m n h =
    let e : 8 ≡ m + (8 - m) = omega arith in
    let w : to_le_bytes w64 n ≡ bytes_of 8 n = bytes-from 8 0 n ∙ rw div-one in
    ap (take m) (w ∙ ap (λ (k : ℕ). bytes_of k n) e ∙ bytes-add m (8 - m) n) ∙ take_at (bytes_of m n) _ m (length-bytes m n)
