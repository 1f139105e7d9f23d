use mathlib.Core.Path.{refl}
use native.Mathlib.Omega.{arith}
use Rattle.sheet.proofs.ShowLaws.{written}
use Rattle.sheet.proofs.show_bytes.Goals as goal

pub returns : goal.returns
returns c = let a = c.args in
    (written 2 a.n a.pos a.mark _ a.out.now _ _ c.write_mark.ensures c.copy_value.ensures (omega arith) (omega arith), refl)
