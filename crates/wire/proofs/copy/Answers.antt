use Prim.Native.Nat.{◌-◌}
use mathlib.Core.Path.{refl, sym, ◌∙◌}
use native.Mathlib.Omega.{arith}
use Rattle.wire.proofs.Copies.{copied-last}
use borrow.Author.Rules.{rules}
use Rattle.wire.proofs.copy.Goals as goal

pub loop-left-init : goal.loop-left-init
loop-left-init c = (search rules, refl, refl)

pub loop-left-preserved : goal.loop-left-preserved
loop-left-preserved c = let a = c.args in let R = c.requires in let l = c.loop-left in
    (search rules, search rules, l.invariant.2 ∙ copied-last l.left (l.left - 64) 64 a.at a.from a.s.now l.out _ (omega (arith, c.loop-left-test.true)) (omega (arith, R.0, l.invariant.0)) (omega (arith, R.1, l.invariant.0, l.invariant.1)) c.copy_64.ensures)

pub returns : goal.returns
returns c = c.copy_words.ensures ∙ sym c.loop-left.invariant.2
