use Rattle.std.proofs.Common.{refl}
use Rattle.schema.specs.Symbols.{rank}
use Rattle.schema.proofs.rank.Goals as goal

pub returns : goal.returns
unfolding rank
returns c = refl
