use Rattle.std.proofs.Common.{refl}
use Rattle.message.specs.Check.{packed}
use Rattle.message.proofs.packed_end.Goals as goal

pub returns : goal.returns
unfolding packed
returns c = refl
