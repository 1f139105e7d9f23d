use Rattle.std.proofs.Common.{ℕ, ◌+◌, ◌%◌, ◌^◌, sym, ap, ◌∙◌}
use Rattle.std.proofs.lemmas.Result.{err_from_is_err_and}
use Rattle.schema.specs.Table.{enums}
use Rattle.schema.specs.Layout.{width_in}
use Rattle.message.specs.Count.{failed}
use Rattle.message.proofs.CheckAnswers.{refuses, counts}
use Rattle.message.proofs.CheckValues.{judged-passes, judged-fails, tested-passes, tested-fails}
use Rattle.message.proofs.check_number.Goals as goal

pub returns-in_err-check_tested : goal.returns-in_err-check_tested
returns-in_err-check_tested c = λ y I S area F. let a = c.args in
    let q = judged-fails _ _ _ c.in_err-check_tested.ensures in
    let p = err_from_is_err_and c.from_residual.result c.from_residual.ensures.1 in
    rw p.1 (refuses F _ _ _ (rw (p.2.0, p.2.1) (tested-fails _ I S a.bytes.now a.base area a.at (F a.taken) (width_in a.index.now) (enums a.table.now) a.tested q.0 ∙ ap (λ f. failed f.number f.place) (sym q.1))))

pub returns : goal.returns
returns c = λ y I S area F. let a = c.args in
    counts F _ _ _ _ (tested-passes _ I S a.bytes.now a.base area a.at (F a.taken) (width_in a.index.now) (enums a.table.now) a.tested (judged-passes _ _ c.in_ok-check_tested.ensures) c.requires.1)
    (ap (λ (n : ℕ). (a.before + (2 + n)) % 2 ^ 64) (c.from-width.ensures ∙ c.tested_width.ensures (enums a.table.now) (width_in a.index.now)))
