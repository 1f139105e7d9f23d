use mathlib.Core.Path.{◌∙◌}
use native.Mathlib.Omega.{arith}
use Rattle.schema.specs.Table.{enums}
use Rattle.schema.specs.Layout.{width_in}
use Rattle.sheet.proofs.ShowReaders.{is-VA}
use Rattle.parsing.proofs.Answers.{handed}
use Rattle.parsing.proofs.Records.{judged-ok}
use Rattle.parsing.proofs.Values.{tested-bad, tested-fails, tested-good}
use Rattle.parsing.proofs.check_number.Goals as goal

pub returns-in_err-check_record : goal.returns-in_err-check_record
returns-in_err-check_record c = let a = c.args in let t = enums a.table.now in let w = width_in a.index.now in
    λ I S. rw (handed c.from_residual.ensures.1) (tested-bad a.sheet.now a.place a.before c.requires.1 t w I S a.tested _ (c.from-width.ensures ∙ c.tested_width.ensures t w) _ (rw is-VA at c.in_err-check_record.ensures.answer))

pub check_tested-requires : goal.check_tested-requires
check_tested-requires c = let a = c.args in let q = c.from-width.ensures ∙ c.tested_width.ensures (enums a.table.now) (width_in a.index.now) in (c.requires.0, omega (arith, c.in_ok-check_record.ensures.inside, q))

pub returns-in_err-check_tested : goal.returns-in_err-check_tested
returns-in_err-check_tested c = let a = c.args in let t = enums a.table.now in let w = width_in a.index.now in
    λ I S. rw (handed c.from_residual-in_err-check_tested.ensures.1) (tested-fails a.sheet.now a.place a.before c.requires.1 t w I S a.tested _ (c.from-width.ensures ∙ c.tested_width.ensures t w) (judged-ok _ _ (rw is-VA at c.in_ok-check_record.ensures.answer)) _ c.in_err-check_tested.ensures)

pub returns : goal.returns
returns c = let a = c.args in let t = enums a.table.now in let w = width_in a.index.now in
    λ I S. tested-good a.sheet.now a.place a.before c.requires.1 t w I S a.tested _ (c.from-width.ensures ∙ c.tested_width.ensures t w) (judged-ok _ _ (rw is-VA at c.in_ok-check_record.ensures.answer)) (judged-ok _ _ c.in_ok-check_tested.ensures)
