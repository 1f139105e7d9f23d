use Rattle.std.proofs.Common.{refl, sym, ◌∙◌}
use Rattle.std.proofs.lemmas.Result.{err_from_is_err_and}
use Rattle.schema.specs.Table.{group_verdict}
use Rattle.table.proofs.Laws.{need-stop, need-pass}
use Rattle.table.proofs.check_group.Goals as goal

pub returns-in_err-ensure : goal.returns-in_err-ensure
unfolding group_verdict
returns-in_err-ensure c =
    let p = err_from_is_err_and c.from_residual.result c.from_residual.ensures.1 in
    rw (p.1, p.2) (need-stop _ _ c.group_zeros.ensures c.in_err-ensure.ensures)

pub returns-in_err-ensure-2 : goal.returns-in_err-ensure-2
unfolding group_verdict
returns-in_err-ensure-2 c =
    let r = c.from_residual-in_err-ensure-2 in
    let p = err_from_is_err_and r.result r.ensures.1 in
    let low = rw c.super_number.ensures.0 at c.in_err-ensure-2.ensures in
    rw (p.1, p.2) (need-stop _ _ refl low ∙ sym (need-pass _ _ c.group_zeros.ensures c.in_ok-ensure.ensures))

pub returns : goal.returns
unfolding group_verdict
returns c =
    let low = rw c.super_number.ensures.0 at c.in_ok-ensure-2.ensures in
    rw c.is_new.ensures at c.ensure-3.ensures ∙ sym (need-pass _ _ c.group_zeros.ensures c.in_ok-ensure.ensures ∙ need-pass _ _ refl low)
