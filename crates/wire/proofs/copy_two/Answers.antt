use Rattle.wire.proofs.Copies.{copied-both}
use Rattle.wire.proofs.copy_two.Goals as goal

pub returns : goal.returns
returns c = let a = c.args in let R = c.requires in
    copied-both 8 8 a.at a.from a.s.now a.out.now _ _ R.0 R.1 c.copy_bytes.ensures c.copy_bytes-2.ensures
