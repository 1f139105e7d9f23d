-- The occupancy after a list of extents, each of which was free when its turn came.
use mathlib.Core.Path.{◌≡◌, refl, sym}
use mathlib.Core.Logic.{◌↔◌}
use mathlib.Core.Bool.{true, and-eq-true_iff}
use mathlib.Core.List.{List, [], ◌∷◌, ◌++◌, append_assoc}
use Prim.Native.Nat.{ℕ, zero, suc, ◌+◌, ◌-◌, ◌<◌}
use native.Mathlib.Omega.{arith}
use lib.ListN.{length, drop, get_or, length-take}
use lib.Seq.{get_or-take, get_or-drop}
use lib.Dec.{eqb}
use borrow.Author.Tests.{eq-eqb, eqb-true}
use Rattle.wire.specs.Bytes.{part, all_zero}
use Rattle.message.specs.Occupancy.{free, occupy}
use Rattle.meaning.specs.Conforms.{Value, Extent, extent_of, extents, Zero, Each}

-- ZERO BYTES

pub zero-get : (x : List ℕ) (i : ℕ) → all_zero x ≡ true → get_or x i 0 ≡ 0
unfolding all_zero
zero-get [] i e = refl
zero-get (y ∷ ys) zero e = eqb-true _ _ ((and-eq-true_iff _ _).0 e).0
zero-get (y ∷ ys) (suc i) e = zero-get ys i ((and-eq-true_iff (eqb y 0) _).0 e).1

get-zero : (x : List ℕ) → ((i : ℕ) → i < length x → get_or x i 0 ≡ 0) → all_zero x ≡ true
unfolding all_zero
get-zero [] f = refl
get-zero (y ∷ ys) f = rw (eq-eqb y 0 (f 0 (omega arith))) (get-zero ys (λ i l. f (suc i) (omega arith)))

pub zero-part : (b : List ℕ) (p n : ℕ) → all_zero (part n p b) ≡ true → Zero b p n
zero-part b p n e i l h =
    let j : ℕ = i - p in
    let q : p + j ≡ i = omega arith in
    rw (← q, ← get_or-drop p b j 0, ← get_or-take n (drop p b) j 0 (omega arith)) (zero-get (part n p b) j e)

pub part-zero : (b : List ℕ) (p n : ℕ) → Zero b p n → all_zero (part n p b) ≡ true
part-zero b p n f = get-zero (part n p b) (λ i l.
    let k : i < n = omega (arith, l, length-take n (drop p b)) in
    rw (get_or-take n (drop p b) i 0 k, get_or-drop p b i 0) (f (p + i) (omega arith) (omega arith)))

-- THE MARKS AFTER A LIST OF EXTENTS

unfoldable pub occupied : List Extent → List ℕ → List ℕ
occupied [] m = m
occupied (e ∷ es) m = occupied es (occupy e.from e.long m)

abbrev pub Clear : List Extent → List ℕ → Type 0
Clear [] m = Unit
Clear (e ∷ es) m = (free e.from e.long m ≡ true) × Clear es (occupy e.from e.long m)

occupied-append : (es fs : List Extent) (m : List ℕ) → occupied (es ++ fs) m ≡ occupied fs (occupied es m)
unfolding occupied
occupied-append [] fs m = refl
occupied-append (e ∷ es) fs m = occupied-append es fs (occupy e.from e.long m)

pub extents-append : (b : List ℕ) (vs ws : List Value) → extents b (vs ++ ws) ≡ extents b vs ++ extents b ws
unfolding extents
extents-append b [] ws = refl
extents-append b (v ∷ vs) ws = rw (extents-append b vs ws) (sym (append_assoc (extent_of b v) (extents b vs) (extents b ws)))

pub occupied-both : (b : List ℕ) (vs ws : List Value) (m : List ℕ) → occupied (extents b (vs ++ ws)) m ≡ occupied (extents b ws) (occupied (extents b vs) m)
occupied-both b vs ws m = rw (extents-append b vs ws) (occupied-append (extents b vs) (extents b ws) m)

clear-append : (es fs : List Extent) (m : List ℕ) → Clear (es ++ fs) m ↔ (Clear es m × Clear fs (occupied es m))
unfolding occupied
clear-append [] fs m = (λ x. (tt, x), λ x. x.1)
clear-append (e ∷ es) fs m =
    let r = clear-append es fs (occupy e.from e.long m) in
    (λ x. ((x.0, (r.0 x.1).0), (r.0 x.1).1), λ x. (x.0.0, r.1 (x.0.1, x.1)))

pub each_append : (P : Value → Type 0) (vs ws : List Value) → Each P (vs ++ ws) ↔ (Each P vs × Each P ws)
each_append P [] ws = (λ x. (tt, x), λ x. x.1)
each_append P (v ∷ vs) ws =
    let r = each_append P vs ws in
    (λ x. ((x.0, (r.0 x.1).0), (r.0 x.1).1), λ x. (x.0.0, r.1 (x.0.1, x.1)))

-- each value good, and its extent free when its turn comes
pub record Pass (P : Value → Type 0) (b : List ℕ) (vs : List Value) (m : List ℕ) : Type 0 where
  pub each : Each P vs
  pub clear : Clear (extents b vs) m

module _ (P : Value → Type 0) (b : List ℕ) (vs ws : List Value) (m : List ℕ) where
  pub pass-left : Pass P b (vs ++ ws) m → Pass P b vs m
  pass-left x = record { each = ((each_append P vs ws).0 x.each).0; clear = ((clear-append (extents b vs) (extents b ws) m).0 (rw (extents-append b vs ws) at x.clear)).0 }

  pub pass-right : Pass P b (vs ++ ws) m → Pass P b ws (occupied (extents b vs) m)
  pass-right x = record { each = ((each_append P vs ws).0 x.each).1; clear = ((clear-append (extents b vs) (extents b ws) m).0 (rw (extents-append b vs ws) at x.clear)).1 }

  pub pass-both : Pass P b vs m → Pass P b ws (occupied (extents b vs) m) → Pass P b (vs ++ ws) m
  pass-both x y = record { each = (each_append P vs ws).1 (x.each, y.each); clear = rw (extents-append b vs ws) ((clear-append (extents b vs) (extents b ws) m).1 (x.clear, y.clear)) }
