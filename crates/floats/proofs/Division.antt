-- Laws of the long division and of its powers.
use Prim.Native.Nat.{ℕ, zero, suc, ◌+◌, ◌-◌, ◌*◌, ◌/◌, ◌%◌, ◌^◌, ◌<◌, ◌≤◌}
use mathlib.Core.Path.{◌≡◌, refl, ap, ◌∙◌}
use mathlib.Core.Bool.{Bool, true, false}
use mathlib.Core.List.{List, [], ◌∷◌}
use native.Mathlib.Omega.{arith}
use native.Mathlib.Numerals.{add-one}
use native.Mathlib.Nat.{pow-succ', pow-le-pow_right, mul_assoc, suc-mul}
use lib.ListN.{length, set}
use borrow.Author.Tests.{lt-ltb, le-leb}
use Rattle.floats.specs.Limbs.{value, up_to}

-- a sum that goes over reaches every number of its room
pub over-reaches : (c : Bool) (s x t p over : ℕ) → t + over * p ≡ x → s < p → (over ≡ 0 → ⊥) → up_to c s x ≡ true
over-reaches c s x t p zero e h z = absurd (z refl)
over-reaches true s x t p (suc over) e h z = le-leb s x (omega (arith, suc-mul over p))
over-reaches false s x t p (suc over) e h z = lt-ltb s x (omega (arith, suc-mul over p))

pub power-more : (base i x a a' : ℕ) → a ≡ base ^ i * x → a' ≡ base * a → a' ≡ base ^ (i + 1) * x
power-more base i x a a' e f = f ∙ ap (λ (n : ℕ). base * n) e ∙ rw (add-one, pow-succ', mul_assoc)

pub settle-more : (k l s s₀ s' : ℕ) → l ≤ k → s ≡ 10 ^ (k - l) * s₀ → s' ≡ 10 * s → s' ≡ 10 ^ (k + 1 - l) * s₀
settle-more k l s s₀ s' h e f = let n : k + 1 - l ≡ k - l + 1 = omega arith in rw n (power-more 10 (k - l) s₀ s s' e f)

-- a number in a room of zeros
pub put-value : (a : List ℕ) (n : ℕ) → 2 ≤ length a → value a ≡ 0 → value (set (set a 0 (n % 4294967296)) 1 (n / 4294967296)) ≡ n
unfolding value
put-value [] n h e = omega arith
put-value (x ∷ []) n h e = omega arith
put-value (x ∷ (y ∷ t)) n h e = omega arith

-- one more digit, the n-th
pub digits_more : (n d x : ℕ) → 0 < n → d < 10 ^ (n - 1) → x < 10 → 10 * d + x < 10 ^ n
digits_more zero d x z h l = absurd (omega arith)
digits_more (suc n) d x z h l = let e : suc n - 1 ≡ n = omega arith in let k = rw e at h in rw pow-succ' (omega arith)

pub tens-most : (n : ℕ) → n ≤ 17 → 10 ^ n ≤ 100000000000000000
tens-most n h = pow-le-pow_right {n = 10} (omega arith) {j = 17} h
