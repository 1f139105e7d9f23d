use Rattle.wire.proofs.Copies.{copied-both}
use Rattle.wire.proofs.copy_64.Goals as goal

pub returns : goal.returns
returns c = let a = c.args in let R = c.requires in
    copied-both 32 32 a.at a.from a.s.now a.out.now _ _ R.0 R.1 c.copy_32.ensures c.copy_32-2.ensures
