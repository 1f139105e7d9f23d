use native.Mathlib.Omega.{arith}
use Rattle.layout.specs.Label.{packed}
use Rattle.layout.proofs.label.Spot.label.Goals as goal

pub returns : goal.returns
unfolding packed
returns c = omega (arith, c.levels_above.ensures.0)
