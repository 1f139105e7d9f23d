-- How many groups stay open, from the innermost on.
use Rattle.std.proofs.Common.{◌≡◌, refl, ℕ, zero, suc, ◌-◌, ◌<◌, ◌≤◌, List, true, false, arith}
use Rattle.showing.specs.Show.{frame_at, is_done, closed}
use Rattle.showing.specs.declared.Frame.{Frame}
use Rattle.showing.specs.declared.Open.{Open}

module _ (fs : List Frame) where
  pub closed_none : (d : ℕ) → d ≤ 0 → closed fs d ≡ d
  unfolding closed
  closed_none zero h = refl
  closed_none (suc d) h = absurd (omega arith)

  pub closed-open : (d : ℕ) → is_done (frame_at fs d) ≡ false → closed fs d ≡ d
  unfolding closed
  closed-open zero e = refl
  closed-open (suc d) e = rw e

  pub closed-done : (d : ℕ) → 0 < d → is_done (frame_at fs d) ≡ true → closed fs d ≡ closed fs (d - 1)
  unfolding closed
  closed-done zero h e = absurd (omega arith)
  closed-done (suc d) h e = let q : suc d - 1 ≡ d = omega arith in rw (e, q)

pub closing : (o : Open) (d : ℕ) (fs : List Frame) → o.frames ≡ fs → d ≡ o.depth → o ≡ record { depth = d; frames = fs }
closing o d fs e f = rw (← e, f)
