use lib.ListN.{length}
use native.Mathlib.Omega.{arith}
use mathlib.Core.Path.{refl, ◌∙◌, sym}
use Rattle.faults.specs.Words.{heading}
use Rattle.faults.proofs.Lines.{heading-fits, behind-here, behind-on, behind-end, line-end}
use Rattle.faults.proofs.find_words.Goals as goal

pub loop-i-init : goal.loop-i-init
loop-i-init c = refl

pub returns-then-first-has_heading : goal.returns-then-first-has_heading
returns-then-first-has_heading c =
    let a = c.args in
    let l = c.loop-i in
    let h = c.has_heading in
    (heading-fits a.text.now l.i a.number l.first h.result c.loop-i-test.true h.ensures c.if-first-has_heading.true, l.invariant ∙ behind-here a.text.now l.i (heading a.number) l.first c.loop-i-test.true h.result h.ensures c.if-first-has_heading.true)

pub loop-i-preserved : goal.loop-i-preserved
loop-i-preserved c =
    let a = c.args in
    let l = c.loop-i in
    let h = c.has_heading in
    (l.invariant ∙ behind-on a.text.now l.i (heading a.number) l.first c.loop-i-test.true h.result h.ensures c.if-first-has_heading.false)

pub returns : goal.returns
returns c =
    let s = c.args.text.now in
    let l = c.loop-i in
    (omega arith, l.invariant ∙ behind-end s l.i _ l.first (omega arith) ∙ sym (line-end s (length s) (omega arith)))
