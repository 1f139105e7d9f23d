use Rattle.schema.specs.Schema.{any}
use Rattle.sheet.proofs.ShowReaders.{is-VA}
use Rattle.parsing.proofs.Answers.{handed}
use Rattle.parsing.proofs.Records.{judged-ok}
use Rattle.parsing.proofs.Values.{plain-bad, plain-good, any-passes}
use Rattle.parsing.proofs.Loops.{items-start, items-passed, items-stopped, items-end}
use Rattle.parsing.proofs.check_plains.Goals as goal

pub loop-init : goal.loop-init
loop-init c = items-start c.requires.0

pub returns-in_err-check_record : goal.returns-in_err-check_record
returns-in_err-check_record c = let a = c.args in let L = c.loop.invariant in
    rw (handed c.from_residual.ensures.1) (items-stopped L c.loop-test.true _ (plain-bad a.sheet.now c.loop.next a.before L.ready a.width any _ (rw is-VA at c.in_err-check_record.ensures.answer)))

pub loop-preserved : goal.loop-preserved
loop-preserved c = let a = c.args in let L = c.loop.invariant in
    items-passed L c.loop-test.true _ (plain-good a.sheet.now c.loop.next a.before L.ready a.width any (judged-ok _ _ (rw is-VA at c.in_ok-check_record.ensures.answer)) (any-passes _))

pub returns : goal.returns
returns c = items-end c.loop.invariant c.loop-test.false
