use mathlib.Core.Path.{refl}
use Rattle.faults.specs.Words.{bytes, faults}
use Rattle.faults.proofs.list.Goals as goal

pub returns : goal.returns
unfolding bytes faults
returns c = refl
