-- Numbers, once over the width.
use Rattle.schema.specs.Faults.{fault_at}
use Rattle.std.proofs.Common.{Err}
use mathlib.Core.Path.{◌≡◌, refl}
use mathlib.Core.Bool.{Bool, true, false, ◌||◌}
use mathlib.Core.List.{List, [], ◌∷◌}
use Prim.Native.Nat.{ℕ, ◌+◌, ◌≤◌}
use native.Mathlib.Omega.{arith}
use native.Mathlib.Nat.{add-zero}
use lib.ListN.{length, get_or}
use lib.Ieee.{of_bits, nan_bits, binary64}
use borrow.Author.Tests.{ne_eqb, eqb-true}
use Rattle.wire.specs.Bytes.{part, le, signed}
use Rattle.wire.proofs.Laws.{part-part}
use Rattle.schema.specs.Schema.{member}
use Rattle.schema.proofs.Types.{le-one}
use Rattle.reading.specs.Number.{number_width, float_of, decimal_of, number_of}
use Rattle.reading.specs.declared.Number.TheVariants.{Decimal, Float, NanBits}

-- THE WIDTH

-- the last of an integer's widths
pub eight : (w : ℕ) → member w (1 ∷ (2 ∷ (4 ∷ (8 ∷ [])))) ≡ true → (w ≡ 1 → ⊥) → (w ≡ 2 → ⊥) → (w ≡ 4 → ⊥) → w ≡ 8
unfolding member
eight w h a b c = eqb-true w 8 (or-false _ (rw (ne_eqb _ _ a, ne_eqb _ _ b, ne_eqb _ _ c) at h))
  where
    or-false : (x : Bool) → x || false ≡ true → x ≡ true
    or-false true e = refl
    or-false false e = e

-- FLOATS AND DECIMALS

pub float-nan : (n : ℕ) → nan_bits binary64 n ≡ true → NanBits n ≡ float_of n
unfolding float_of
float-nan n e = rw e

pub float-number : (n : ℕ) → nan_bits binary64 n ≡ false → Float (of_bits binary64 n) ≡ float_of n
unfolding float_of
float-number n e = rw e

pub decimal-at : (b : List ℕ) (at : ℕ) → at + 9 ≤ length b → Decimal (signed 7 (get_or b at 0)) (signed 63 (le (part 8 (at + 1) b))) ≡ decimal_of (part 9 at b)
unfolding decimal_of
decimal-at b at h =
    rw (part-part 1 0 9 at b (omega arith), part-part 8 1 9 at b (omega arith), add-zero, le-one b at (omega arith))

-- "48 other kind": none of the types that are numbers
pub other : (t : ℕ) (x : List ℕ) → (t ≡ 1 → ⊥) → (t ≡ 2 → ⊥) → (t ≡ 3 → ⊥) → (t ≡ 4 → ⊥) → (t ≡ 5 → ⊥) → (t ≡ 6 → ⊥) → (t ≡ 7 → ⊥) → (t ≡ 8 → ⊥) → (t ≡ 9 → ⊥)
    → (t ≡ 10 → ⊥) → (t ≡ 11 → ⊥) → (t ≡ 12 → ⊥) → (t ≡ 13 → ⊥) → (t ≡ 14 → ⊥) → (t ≡ 15 → ⊥) → (t ≡ 16 → ⊥) → (t ≡ 20 → ⊥) → Err (fault_at 48 0) ≡ number_of t x
unfolding number_of member
other t x a b c d e f g h i j k l m n o p q =
    rw (ne_eqb _ _ a, ne_eqb _ _ b, ne_eqb _ _ c, ne_eqb _ _ d, ne_eqb _ _ e, ne_eqb _ _ f, ne_eqb _ _ g, ne_eqb _ _ h, ne_eqb _ _ i, ne_eqb _ _ j, ne_eqb _ _ k, ne_eqb _ _ l, ne_eqb _ _ m, ne_eqb _ _ n, ne_eqb _ _ o, ne_eqb _ _ p, ne_eqb _ _ q)

-- a type's width, where the type is known
pub room : (t k w at n : ℕ) → t ≡ k → number_width k ≡ w → at + number_width t ≤ n → at + w ≤ n
room t k w at n e f h = rw (e, f) at h
