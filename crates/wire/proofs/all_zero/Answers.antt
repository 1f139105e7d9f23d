use Prim.Native.Nat.{ℕ}
use mathlib.Core.Path.{refl, sym, ◌∙◌}
use native.Mathlib.Nat.{add-sub_cancel_left}
use lib.Dec.{eqb}
use Rattle.wire.specs.Bytes.{all_zero}
use Rattle.wire.proofs.Turns.{test-turn, test-end}
use Rattle.wire.proofs.all_zero.Goals as goal

pub loop-b-preserved : goal.loop-b-preserved
unfolding all_zero
loop-b-preserved c = c.loop-b.invariant ∙ test-turn all_zero (λ (x : ℕ). eqb x 0) refl (λ _ _. refl) _ _ _ c.loop-b-test.true

pub returns : goal.returns
unfolding all_zero
returns c = simp add-sub_cancel_left at (sym (c.loop-b.invariant ∙ test-end all_zero (λ (x : ℕ). eqb x 0) refl (λ _ _. refl) _ _ _ c.loop-b-test.false))
