use Rattle.schema.specs.Schema.{any}
use Rattle.sheet.proofs.ShowReaders.{is-VA}
use Rattle.parsing.proofs.Answers.{handed}
use Rattle.parsing.proofs.Records.{judged-ok}
use Rattle.parsing.proofs.Values.{plain-bad, plain-good, any-passes}
use Rattle.parsing.proofs.check_plain.Goals as goal

pub returns-in_err-check_record : goal.returns-in_err-check_record
returns-in_err-check_record c = let a = c.args in rw (handed c.from_residual.ensures.1) (plain-bad a.sheet.now a.place a.before c.requires.0 a.width any _ (rw is-VA at c.in_err-check_record.ensures.answer))

pub returns : goal.returns
returns c = let a = c.args in plain-good a.sheet.now a.place a.before c.requires.0 a.width any (judged-ok _ _ (rw is-VA at c.in_ok-check_record.ensures.answer)) (any-passes _)
