use Rattle.floats.proofs.Division.{power-more}
use Rattle.floats.proofs.shortest.raise.Goals as goal

pub loop-preserved : goal.loop-preserved
loop-preserved c = power-more c.args.base c.loop.counter _ _ _ c.loop.invariant c.in_ok-grow.ensures
