use Rattle.std.proofs.Common.{sym, ◌∙◌}
use Rattle.std.proofs.lemmas.Result.{err_from_is_err_and}
use Rattle.schema.specs.Table.{field_verdict}
use Rattle.table.proofs.Laws.{need-stop, need-pass}
use Rattle.table.proofs.check_field.Goals as goal

pub returns-in_err-ensure : goal.returns-in_err-ensure
unfolding field_verdict
returns-in_err-ensure c =
    let p = err_from_is_err_and c.from_residual.result c.from_residual.ensures.1 in
    rw (p.1, p.2) (need-stop _ _ c.field_zeros.ensures c.in_err-ensure.ensures)

pub returns : goal.returns
unfolding field_verdict
returns c = rw c.field_fits.ensures at c.ensure-2.ensures ∙ sym (need-pass _ _ c.field_zeros.ensures c.in_ok-ensure.ensures)
