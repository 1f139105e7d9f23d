use Rattle.schema.specs.Faults.{judged}
use Rattle.parsing.proofs.Answers.{handed}
use Rattle.parsing.proofs.Records.{judged-ok, judged-err, counted_same, counted-cut, counted-whole}
use Rattle.parsing.proofs.check_counted.Goals as goal

pub returns-in_err-check_record : goal.returns-in_err-check_record
returns-in_err-check_record c = let a = c.args in let e = judged-err _ _ _ c.in_err-check_record.ensures.answer in rw (handed c.from_residual.ensures.1, counted_same a.sheet.now a.place c.requires.0 a.mark e.0) c.in_err-check_record.ensures.answer

pub returns-then-sheet-place : goal.returns-then-sheet-place
unfolding judged
returns-then-sheet-place c = let a = c.args in rw (counted-cut a.sheet.now a.place c.requires.0 a.mark (judged-ok _ _ c.in_ok-check_record.ensures.answer) _ c.read_u32-count.ensures.0 c.if-sheet-place.true)

pub returns : goal.returns
returns c = let a = c.args in (counted-whole a.sheet.now a.place c.requires.0 a.mark (judged-ok _ _ c.in_ok-check_record.ensures.answer) _ c.read_u32-count.ensures.0 c.if-sheet-place.false, c.read_u32-count.ensures.0, c.if-sheet-place.false)
