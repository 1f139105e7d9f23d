use Rattle.std.proofs.Common.{◌≡◌, refl, sym, ap, ◌∙◌, ◌+◌, ◌-◌, ◌*◌, eqb-true, arith, drop}
use Rattle.std.proofs.lemmas.Result.{err_from_is_err_and}
use Rattle.schema.specs.Table.{Due, record_count, shape_from}
use Rattle.table.specs.Index.{due_of}
use Rattle.table.proofs.Laws.{need-stop, need-went, need-pass}
use Rattle.table.proofs.Records.{begun-none, shape-start, shape-turn, shape-end, stopped, placed-all}
use Rattle.table.proofs.check_shape.Goals as goal

pub loop-i-init : goal.loop-i-init
loop-i-init c = (rw c.requires.1 (begun-none c.args.table.now), shape-start c.args.table.now)

pub returns-in_err-ensure : goal.returns-in_err-ensure
returns-in_err-ensure c =
    let t = c.args.table.now in
    let w = c.requires.0 in
    let l = c.loop-i in
    let p = err_from_is_err_and c.from_residual.result c.from_residual.ensures.1 in
    let turn = shape-turn t w (due_of l.shape) l.i (omega (arith, w.whole, c.loop-i-test.true)) in
    rw (p.1, p.2) (stopped _ _ t _ (need-stop _ _ c.is_due.ensures c.in_err-ensure.ensures ∙ sym (l.invariant.1 ∙ turn)) l.invariant.0.long)

pub take_record-shape-requires : goal.take_record-shape-requires
take_record-shape-requires c =
    let w = c.requires.0 in
    (w, omega (arith, w.whole, c.loop-i-test.true), c.loop-i.invariant.0, need-went _ c.is_due.ensures c.in_ok-ensure.ensures)

pub loop-i-preserved : goal.loop-i-preserved
loop-i-preserved c =
    let t = c.args.table.now in
    let w = c.requires.0 in
    let l = c.loop-i in
    let r = c.take_record-shape.ensures in
    let turn = shape-turn t w (due_of l.shape) l.i (omega (arith, w.whole, c.loop-i-test.true)) in
    (r.begun, l.invariant.1 ∙ turn ∙ need-pass _ _ c.is_due.ensures c.in_ok-ensure.ensures ∙ ap (λ (x : Due). shape_from (record_count t - (l.i + 1)) x (16 * (l.i + 1)) (drop (16 * (l.i + 1)) t)) (sym r.due))

pub returns-in_err-ensure-2 : goal.returns-in_err-ensure-2
returns-in_err-ensure-2 c =
    let t = c.args.table.now in
    let w = c.requires.0 in
    let l = c.loop-i in
    let p = err_from_is_err_and c.from_residual-in_err-ensure-2.result c.from_residual-in_err-ensure-2.ensures.1 in
    rw (p.1, p.2) (stopped _ _ t _ (c.in_err-ensure-2.ensures ∙ sym (l.invariant.1 ∙ shape-end t w (due_of l.shape) l.i (omega (arith, c.loop-i-test.false, l.auto.i-end)))) l.invariant.0.long)

pub returns : goal.returns
returns c =
    let t = c.args.table.now in
    let w = c.requires.0 in
    let l = c.loop-i in
    let at : l.i ≡ record_count t = omega (arith, c.loop-i-test.false, l.auto.i-end) in
    let none = eqb-true _ _ (need-went _ refl c.in_ok-ensure-2.ensures) in
    placed-all t _ _ _ l.i _ _ _ w at none c.place_group.ensures c.place_group-2.ensures l.invariant.0 (c.in_ok-ensure-2.ensures ∙ sym (l.invariant.1 ∙ shape-end t w (due_of l.shape) l.i at))
