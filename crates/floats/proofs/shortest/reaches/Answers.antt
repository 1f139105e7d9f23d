use mathlib.Core.Path.{◌≡◌, sym, ◌∙◌}
use mathlib.Core.Bool.{true, not}
use native.Mathlib.Omega.{arith}
use lib.Dec.{eqb}
use Rattle.std.proofs.lemmas.Bool.Decides.{nat_tests}
use Rattle.floats.proofs.Values.{value-below}
use Rattle.floats.proofs.Division.{over-reaches}
use Rattle.floats.proofs.shortest.reaches.Goals as goal

pub returns-then-over-ne0 : goal.returns-then-over-ne0
returns-then-over-ne0 c = let z = c.if-over-ne0.true in
    let n : not (eqb c.mix-over.result 0) ≡ true = grind (arith, nat_tests) in
    let s = value-below c.args.s.now (λ j. omega (arith, c.type_inv.s j)) in
    n ∙ sym (over-reaches c.args.gap.closed _ _ _ _ _ c.mix-over.ensures (rw c.requires.0 at s) z)
