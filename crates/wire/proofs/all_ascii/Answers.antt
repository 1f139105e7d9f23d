use Prim.Native.Nat.{ℕ}
use mathlib.Core.Path.{refl, sym, ◌∙◌}
use lib.Dec.{ltb}
use Rattle.wire.specs.Scan.{all_ascii}
use Rattle.wire.proofs.Turns.{test-turn, test-end}
use Rattle.wire.proofs.all_ascii.Goals as goal

pub loop-b-preserved : goal.loop-b-preserved
unfolding all_ascii
loop-b-preserved c = c.loop-b.invariant ∙ test-turn all_ascii (λ (x : ℕ). ltb x 0x80) refl (λ _ _. refl) _ _ _ c.loop-b-test.true

pub returns : goal.returns
unfolding all_ascii
returns c = sym (c.loop-b.invariant ∙ test-end all_ascii (λ (x : ℕ). ltb x 0x80) refl (λ _ _. refl) _ _ _ c.loop-b-test.false)
