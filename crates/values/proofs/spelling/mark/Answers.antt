use Rattle.values.proofs.Rooms.{wrote_one}
use Rattle.values.proofs.spelling.mark.Goals as goal

pub returns : goal.returns
returns c = wrote_one c.args.at c.args.byte c.args.out.now c.requires
