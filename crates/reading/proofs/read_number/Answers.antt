use Rattle.std.proofs.Common.{refl, ◌∙◌, arith}
use Rattle.std.proofs.lemmas.Result.{err_from_is_err_and}
use Rattle.reading.proofs.Found.{row_inside, at_none, found_number, number-missing, number-found}
use Rattle.reading.proofs.read_number.Goals as goal

pub returns-in_err-found : goal.returns-in_err-found
returns-in_err-found c =
    let a = c.args in
    let p = err_from_is_err_and c.from_residual.result c.from_residual.ensures.1 in
    let e = c.in_err-found.was in
    rw (p.1, p.2) (number-missing _ a.table.now a.message.now c.requires.1 _ a.field a.item c.locate.ensures.0 _ (at_none _ _ _ c.locate.ensures.1 e) e)

pub overflow_add-found : goal.overflow_add-found
overflow_add-found c = let l = row_inside c.args.table.now _ _ _ c.locate.ensures.1 c.in_ok-found.was in omega (arith, l)

pub bounds-table-found : goal.bounds-table-found
bounds-table-found c = let l = row_inside c.args.table.now _ _ _ c.locate.ensures.1 c.in_ok-found.was in omega (arith, l)

pub number_at-requires : goal.number_at-requires
number_at-requires c =
    let a = c.args in
    found_number _ a.table.now a.message.now c.requires.1 _ a.field a.item c.locate.ensures.0 _ _ _ c.in_ok-found.was refl

pub returns : goal.returns
returns c =
    let a = c.args in
    c.number_at.ensures ∙ number-found _ a.table.now a.message.now c.requires.1 _ a.field a.item c.locate.ensures.0 _ _ _ c.in_ok-found.was refl
