use native.Mathlib.Omega.{arith}
use Rattle.floats.specs.Limbs.{value}
use Rattle.floats.proofs.Values.{mix-more}
use Rattle.floats.proofs.limbs.mix.Goals as goal

pub loop-i-init : goal.loop-i-init
unfolding value
loop-i-init c = omega arith

pub loop-i-preserved : goal.loop-i-preserved
loop-i-preserved c = mix-more _ _ _ _ _ _ _ _ (omega arith) (omega arith) (omega arith) c.loop-i.invariant c.carrying_mul_add.ensures
