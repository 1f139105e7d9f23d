use Rattle.floats.proofs.Division.{put-value}
use Rattle.floats.proofs.shortest.put.Goals as goal

pub returns : goal.returns
returns c = λ e. put-value c.args.a.now c.args.n c.requires e
