use mathlib.Core.Path.{refl}
use native.Mathlib.Omega.{arith}
use Rattle.floats.specs.Limbs.{value}
use Rattle.floats.proofs.Values.{rest-stored, subtract-more, stored-below}
use Rattle.floats.proofs.limbs.subtract.Goals as goal

pub loop-i-init : goal.loop-i-init
unfolding value
loop-i-init c = record { rest = refl; front = omega arith; small = omega arith }

pub loop-i-preserved : goal.loop-i-preserved
loop-i-preserved c = let v = c.loop-i.invariant in
    record {
      rest = rest-stored c.loop-i.a c.args.a.now c.loop-i.i c.borrowing_sub.result.0 v.rest;
      front = subtract-more _ _ _ _ _ _ _ (omega arith) (omega arith) (omega arith) v.rest v.front c.borrowing_sub.ensures;
      small = stored-below _ _ _ (omega arith) (omega arith) v.small;
    }
