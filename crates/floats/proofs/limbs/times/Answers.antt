use mathlib.Core.Path.{refl}
use native.Mathlib.Omega.{arith}
use Rattle.floats.specs.Limbs.{value}
use Rattle.floats.proofs.Values.{rest-stored, times-more}
use Rattle.floats.proofs.limbs.times.Goals as goal

pub loop-x-init : goal.loop-x-init
unfolding value
loop-x-init c = record { rest = refl; front = omega arith }

pub loop-x-preserved : goal.loop-x-preserved
loop-x-preserved c = let v = c.loop-x.invariant in
    record { rest = rest-stored c.loop-x.a c.args.a.now c.loop-x.x-index c.carrying_mul.result.0 v.rest; front = times-more _ _ _ _ _ _ _ (omega arith) (omega arith) v.rest v.front c.carrying_mul.ensures }
