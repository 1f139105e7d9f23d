use native.Mathlib.Omega.{arith}
use Rattle.floats.proofs.Division.{settle-more}
use Rattle.floats.proofs.shortest.settle.Goals as goal

pub loop-scale-preserved : goal.loop-scale-preserved
loop-scale-preserved c = settle-more c.loop-scale.scale c.args.least _ _ _ (omega arith) c.loop-scale.invariant c.in_ok-grow.ensures
