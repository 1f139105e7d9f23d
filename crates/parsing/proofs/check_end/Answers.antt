use Rattle.parsing.proofs.Answers.{handed}
use Rattle.parsing.proofs.Records.{judged-ok}
use Rattle.parsing.proofs.Values.{end-bad, end-good}
use Rattle.parsing.proofs.check_end.Goals as goal

pub returns-in_err-check_record : goal.returns-in_err-check_record
returns-in_err-check_record c = let a = c.args in rw (handed c.from_residual.ensures.1) (end-bad a.sheet.now a.place a.before c.requires _ c.in_err-check_record.ensures.answer)

pub returns : goal.returns
returns c = let a = c.args in end-good a.sheet.now a.place a.before c.requires (judged-ok _ _ c.in_ok-check_record.ensures.answer)
