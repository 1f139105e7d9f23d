use Rattle.std.proofs.Common.{arith}
use Rattle.std.proofs.lemmas.Grind.{common_steps}
use Rattle.message.specs.Occupancy.{occupy}
use Rattle.message.proofs.occupy.Goals as goal

pub returns : goal.returns
unfolding occupy
returns c = grind (arith, common_steps)
