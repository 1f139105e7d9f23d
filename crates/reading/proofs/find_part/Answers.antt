use Rattle.std.proofs.Common.{◌∙◌}
use Rattle.std.proofs.lemmas.Result.{err_from_is_err_and}
use Rattle.reading.proofs.Found.{row_inside, at_none, found-laid, part-missing, part-found}
use Rattle.reading.proofs.find_part.Goals as goal

pub returns-in_err-found : goal.returns-in_err-found
returns-in_err-found c =
    let a = c.args in
    let p = err_from_is_err_and c.from_residual.result c.from_residual.ensures.1 in
    let e = c.in_err-found.was in
    rw (p.1, p.2) (part-missing _ a.table.now a.message.now c.requires.1 _ a.field a.item c.locate.ensures.0 _ (at_none _ _ _ c.locate.ensures.1 e) e)

pub part_at-requires : goal.part_at-requires
part_at-requires c =
    let a = c.args in
    (row_inside a.table.now _ _ _ c.locate.ensures.1 c.in_ok-found.was, found-laid _ a.table.now a.message.now c.requires.1 _ a.field a.item c.locate.ensures.0 _ _ c.in_ok-found.was)

pub returns : goal.returns
returns c =
    let a = c.args in
    c.part_at.ensures ∙ part-found _ a.table.now a.message.now c.requires.1 _ a.field a.item c.locate.ensures.0 _ _ c.in_ok-found.was
