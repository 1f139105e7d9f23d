use native.Mathlib.Omega.{arith}
use mathlib.Core.Path.{sym, ap, ◌∙◌}
use Rattle.schema.specs.Schema.{find}
use Rattle.schema.specs.Table.{schema}
use Rattle.schema.proofs.Groups.{find-whole}
use Rattle.sheet.proofs.ShowReaders.{is-GB}
use Rattle.parsing.specs.Parse.{group_of}
use Rattle.parsing.proofs.Answers.{handed}
use Rattle.parsing.proofs.Records.{judged-ok}
use Rattle.parsing.proofs.Groups.{group-bad, group-unknown, group-other, group-deep}
use Rattle.parsing.proofs.Scopes.{opens-whole}
use Rattle.parsing.proofs.open_dynamic.Goals as goal

pub returns-in_err-check_record : goal.returns-in_err-check_record
unfolding group_of
returns-in_err-check_record c = let a = c.args in rw (handed c.from_residual.ensures.1) (group-bad a.sheet.now a.place a.before c.requires.1 (schema a.table.now) a.allowed a.levels _ (rw is-GB at c.in_err-check_record.ensures.answer))

pub find-group-requires : goal.find-group-requires
find-group-requires c = let P = c.requires.0 in (rw (sym (c.group_total-total.ensures.0 ∙ P.total)) at P.placed, P.long, omega (arith, c.group_total-total.ensures.0, P.total, P.few), P.small)

pub returns-then-total-group : goal.returns-then-total-group
unfolding group_of
returns-then-total-group c = let a = c.args in let gs = schema a.table.now in let n = c.group_total-total.ensures.0 ∙ c.requires.0.total in
    let g = c.find-group.ensures.0 ∙ find-whole gs _ _ n ∙ ap (find gs) c.read_u64.ensures in
    group-unknown a.sheet.now a.place a.before c.requires.1 gs a.allowed a.levels (judged-ok _ _ (rw is-GB at c.in_ok-check_record.ensures.answer)) _ g (omega (arith, n, c.if-total-group.true))

pub allows-requires : goal.allows-requires
allows-requires c = (c.requires.0, omega (arith, c.group_total-total.ensures.0 ∙ c.requires.0.total, c.if-total-group.false))

pub returns-then-not-allows : goal.returns-then-not-allows
unfolding group_of
returns-then-not-allows c = let a = c.args in let gs = schema a.table.now in let n = c.group_total-total.ensures.0 ∙ c.requires.0.total in
    let g = c.find-group.ensures.0 ∙ find-whole gs _ _ n ∙ ap (find gs) c.read_u64.ensures in
    group-other a.sheet.now a.place a.before c.requires.1 gs a.allowed a.levels (judged-ok _ _ (rw is-GB at c.in_ok-check_record.ensures.answer)) _ g (omega (arith, n, c.if-total-group.false)) (sym c.allows.ensures ∙ c.if-not-allows.true)

pub returns-then-levels-eq0 : goal.returns-then-levels-eq0
unfolding group_of
returns-then-levels-eq0 c = let a = c.args in let gs = schema a.table.now in let n = c.group_total-total.ensures.0 ∙ c.requires.0.total in
    let g = c.find-group.ensures.0 ∙ find-whole gs _ _ n ∙ ap (find gs) c.read_u64.ensures in
    group-deep a.sheet.now a.place a.before c.requires.1 gs a.allowed a.levels (judged-ok _ _ (rw is-GB at c.in_ok-check_record.ensures.answer)) _ g (omega (arith, n, c.if-total-group.false)) (sym c.allows.ensures ∙ c.if-not-allows.false) c.if-levels-eq0.true

pub returns : goal.returns
returns c = let a = c.args in let gs = schema a.table.now in let n = c.group_total-total.ensures.0 ∙ c.requires.0.total in
    let g = c.find-group.ensures.0 ∙ find-whole gs _ _ n ∙ ap (find gs) c.read_u64.ensures in
    opens-whole a.table.now a.index.now a.sheet.now c.requires.0 a.place a.before c.requires.1 a.allowed a.levels (judged-ok _ _ (rw is-GB at c.in_ok-check_record.ensures.answer)) _ g (omega (arith, n, c.if-total-group.false)) (sym c.allows.ensures ∙ c.if-not-allows.false) c.if-levels-eq0.false _ c.group_width.ensures.0 _ c.longer.ensures.0
