use native.Mathlib.Nat.{sub-zero}
use Rattle.std.proofs.lemmas.Result.{err_from_is_err_and}
use Rattle.std.proofs.Common.{length, sym, ◌∙◌}
use Rattle.codec.proofs.Laws.{writes_nothing, shown, known-within, unwritten, onward-refused, onward-written}
use Rattle.codec.proofs.rewrite_under.Goals as goal

pub returns-in_err-length : goal.returns-in_err-length
returns-in_err-length c = λ u K. let a = c.args in let p = err_from_is_err_and c.from_residual.result c.from_residual.ensures.1 in
    let w = c.sheet_of.ensures u K in
    let x = writes_nothing _ _ _ (onward-refused a.table.now a.message.now u (length a.sheet.now) (length a.output.now) _ _ (unwritten _ _ (sym c.in_err-length.was ∙ w.0))) in
    ((rw (p.1, p.2) x.0, x.1), w.1)

pub slice_bounds-shorten-end : goal.slice_bounds-shorten-end
slice_bounds-shorten-end c = let K = c.requires.1 in (shown c.args.table.now c.args.message.now c.requires.0 K.sheet K.means _ c.args.sheet.now _ _ c.in_ok-length.was (c.sheet_of.ensures c.requires.0 K)).inside

pub shorten-requires : goal.shorten-requires
shorten-requires c = let K = c.requires.1 in let h = shown c.args.table.now c.args.message.now c.requires.0 K.sheet K.means _ c.args.sheet.now _ _ c.in_ok-length.was (c.sheet_of.ensures c.requires.0 K) in (K.table, K.layout, rw (sub-zero, h.here) (known-within _ _ _ _ _ K))

pub returns : goal.returns
returns c = λ u K. let a = c.args in
    let w = c.sheet_of.ensures u K in
    let h = shown a.table.now a.message.now u K.sheet K.means _ a.sheet.now _ _ c.in_ok-length.was w in
    let e = onward-written a.table.now a.message.now u (length a.sheet.now) (length a.output.now) K.sheet h.is in
    let x = c.shorten.ensures in
    (rw (e, ← h.here) (rw sub-zero at x), w.1)
