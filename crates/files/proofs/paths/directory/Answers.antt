use mathlib.Core.Path.{refl, sym}
use native.Mathlib.Omega.{arith}
use Rattle.files.proofs.Laws.{no-slash, last-slash}
use Rattle.files.proofs.paths.directory.Goals as goal

pub returns-in-Some : goal.returns-in-Some
returns-in-Some c =
    let e = c.in-Some.ensures in
    (sym (last-slash _ _ _ e.within (omega arith) e.slash e.last), omega (arith, e.within))

pub returns-in-None : goal.returns-in-None
returns-in-None c = (sym (no-slash _ _ (omega arith) (c.in-None.ensures.none refl)), omega arith)
