use Rattle.std.proofs.Common.{refl}
use Rattle.message.specs.Check.{ignored_in}
use Rattle.message.proofs.ignores_pads.Goals as goal

pub returns : goal.returns
unfolding ignored_in
returns c = refl
