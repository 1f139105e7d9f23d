use Rattle.std.proofs.Common.{refl}
use Rattle.message.specs.Check.{levels_in}
use Rattle.message.proofs.levels_left.Goals as goal

pub returns : goal.returns
unfolding levels_in
returns c = refl
