use mathlib.Core.Path.{refl, sym, ◌∙◌}
use native.Mathlib.Omega.{arith}
use Rattle.values.proofs.Rooms.{length_digits, digits-turn, digits-end}
use Rattle.values.proofs.spelling.digits.Goals as goal

pub loop-i-init : goal.loop-i-init
loop-i-init c = refl

pub loop-i-preserved : goal.loop-i-preserved
loop-i-preserved c = let l = c.loop-i in l.invariant ∙ digits-turn l.i c.args.at l.rest l.out c.loop-i-test.true (omega arith)

pub returns : goal.returns
returns c = let a = c.args in let l = c.loop-i in
    record { next = refl; size = length_digits a.k a.n; kept = l.auto.out; wrote = sym (l.invariant ∙ digits-end l.i a.at l.rest l.out c.loop-i-test.false) }
