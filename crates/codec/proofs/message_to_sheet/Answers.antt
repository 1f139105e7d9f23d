use Rattle.std.proofs.lemmas.Result.{err_from_is_err_and}
use Rattle.std.proofs.Common.{length}
use Rattle.opening.specs.Opening.{under}
use Rattle.codec.proofs.Laws.{writes_nothing, sheet-refused}
use Rattle.codec.proofs.message_to_sheet.Goals as goal

pub returns-in_err-length : goal.returns-in_err-length
returns-in_err-length c = let a = c.args in let o = c.open_message.ensures in let p = err_from_is_err_and c.from_residual.result c.from_residual.ensures.1 in
    let x = writes_nothing _ _ a.sheet.now (sheet-refused a.table.now a.message.now (under a.store.now a.customer (length a.scratch.now)) (length a.sheet.now) _ _ (o.opened.refuses _ c.in_err-length.was)) in
    record { value = rw (p.1, p.2) x.0; scratch_after = o.scratch_after; sheet_after = x.1 }

pub sheet_of-requires : goal.sheet_of-requires
sheet_of-requires c = let a = c.args in (under a.store.now a.customer (length a.scratch.now), c.open_message.ensures.opened.opens _ c.in_ok-length.was)

pub returns : goal.returns
returns c = let a = c.args in let o = c.open_message.ensures in
    let x = c.sheet_of.ensures (under a.store.now a.customer (length a.scratch.now)) (o.opened.opens _ c.in_ok-length.was) in
    record { value = x.0; scratch_after = o.scratch_after; sheet_after = x.1 }
