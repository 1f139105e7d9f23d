use Rattle.std.proofs.lemmas.Result.{err_from_is_err_and}
use Rattle.std.proofs.Common.{length}
use Rattle.opening.specs.Opening.{under}
use Rattle.codec.specs.Answers.{rewriting}
use Rattle.codec.proofs.Laws.{writes_nothing, sheet-refused, onward-refused}
use Rattle.codec.proofs.rewrite.Goals as goal

pub returns-in_err-length : goal.returns-in_err-length
unfolding rewriting
returns-in_err-length c = let a = c.args in let o = c.open_message.ensures in let p = err_from_is_err_and c.from_residual.result c.from_residual.ensures.1 in
    let u = under a.store.now a.customer (length a.scratch.now) in
    let e = sheet-refused a.table.now a.message.now u (length a.sheet.now) _ _ (o.opened.refuses _ c.in_err-length.was) in
    let x = writes_nothing _ _ a.output.now (onward-refused a.table.now a.message.now u (length a.sheet.now) (length a.output.now) _ _ e) in
    let y = writes_nothing _ _ a.sheet.now e in
    record { value = rw (p.1, p.2) x.0; scratch_after = o.scratch_after; sheet_after = y.1; output_after = x.1 }

pub rewrite_under-requires : goal.rewrite_under-requires
rewrite_under-requires c = let a = c.args in (under a.store.now a.customer (length a.scratch.now), c.open_message.ensures.opened.opens _ c.in_ok-length.was)

pub returns : goal.returns
unfolding rewriting
returns c = let a = c.args in let o = c.open_message.ensures in
    let x = c.rewrite_under.ensures (under a.store.now a.customer (length a.scratch.now)) (o.opened.opens _ c.in_ok-length.was) in
    record { value = x.0.0; scratch_after = o.scratch_after; sheet_after = x.1; output_after = x.0.1 }
