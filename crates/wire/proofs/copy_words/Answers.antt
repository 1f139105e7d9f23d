use mathlib.Core.Path.{refl, sym, ◌∙◌}
use native.Mathlib.Omega.{arith}
use Rattle.wire.proofs.Copies.{words-start, words-next}
use borrow.Author.Rules.{rules}
use Rattle.wire.proofs.copy_words.Goals as goal

pub loop-i-init : goal.loop-i-init
loop-i-init c = let a = c.args in (search rules, search rules, words-start a.n a.from a.at a.s.now a.out.now)

pub loop-i-preserved : goal.loop-i-preserved
loop-i-preserved c = let a = c.args in let R = c.requires in let l = c.loop-i in
    (search rules, search rules, l.invariant.2 ∙ words-next a.n l.i 16 _ a.from a.at a.s.now _ _ refl (omega (arith, c.loop-i-test.true)) R.0 (omega (arith, R.1, l.invariant.1)) c.copy_two.ensures)

pub returns : goal.returns
returns c = c.copy_word.ensures ∙ sym c.loop-i.invariant.2
