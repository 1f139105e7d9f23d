-- The last record of which a test holds.
use Prim.Native.Nat.{ℕ, zero, suc, ◌-◌, ◌<◌, ◌≤◌}
use mathlib.Core.Path.{◌≡◌, refl}
use mathlib.Core.Bool.{Bool, true, false}
use native.Mathlib.Omega.{arith}
use Rattle.settings.specs.Store.{last_of}

module _ (p : ℕ → Bool) where
  pub last-hit : (l : ℕ) → 0 < l → p (l - 1) ≡ true → last_of p l ≡ l
  last-hit zero h e = absurd (omega arith)
  last-hit (suc k) h e = unfold last_of in let q : suc k - 1 ≡ k = omega arith in let f = rw q at e in rw f

  pub last-miss : (l : ℕ) → 0 < l → p (l - 1) ≡ false → last_of p l ≡ last_of p (l - 1)
  last-miss zero h e = absurd (omega arith)
  last-miss (suc k) h e = unfold last_of in let q : suc k - 1 ≡ k = omega arith in let f = rw q at e in rw (q, f)

  pub last_none : (l : ℕ) → l ≤ 0 → 0 ≡ last_of p l
  unfolding last_of
  last_none zero h = refl
  last_none (suc l) h = absurd (omega arith)
