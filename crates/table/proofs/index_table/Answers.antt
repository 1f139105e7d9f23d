use Rattle.std.proofs.Common.{refl, sym, ◌∙◌}
use Rattle.std.proofs.lemmas.Result.{err_from_is_err_and}
use Rattle.table.proofs.Formed.{whole_of, after-30, after-31, after-34, after-ids, by-groups, schema-sound, supers-low, layout_of}
use Rattle.table.proofs.Values.{lists-ordered}
use Rattle.table.proofs.Widths.{kept-none}
use Rattle.table.proofs.Laws.{need-went, also-accepted, never}
use Rattle.table.proofs.index_table.Goals as goal

pub returns-in_err-ensure : goal.returns-in_err-ensure
returns-in_err-ensure c =
    let p = err_from_is_err_and c.from_residual.result c.from_residual.ensures.1 in
    let e = rw c.is_whole.ensures at c.in_err-ensure.ensures in
    rw (p.1, p.2) (record { verdict = after-30 c.args.table.now _ e; layout = λ q. absurd (never q) })

pub check_shape-requires : goal.check_shape-requires
check_shape-requires c = (whole_of c.args.table.now (need-went _ c.is_whole.ensures c.in_ok-ensure.ensures), c.requires)

pub returns-in_err-check_shape : goal.returns-in_err-check_shape
returns-in_err-check_shape c =
    let r = c.from_residual-in_err-check_shape in
    let p = err_from_is_err_and r.result r.ensures.1 in
    let z = need-went _ c.is_whole.ensures c.in_ok-ensure.ensures in
    rw (p.1, p.2) (record { verdict = after-31 c.args.table.now z _ c.in_err-check_shape.ensures.verdict; layout = λ q. absurd (never q) })

pub check_records-requires : goal.check_records-requires
check_records-requires c = (whole_of c.args.table.now (need-went _ c.is_whole.ensures c.in_ok-ensure.ensures), c.in_ok-check_shape.ensures.placing refl)

pub returns-in_err-check_records : goal.returns-in_err-check_records
returns-in_err-check_records c =
    let r = c.from_residual-in_err-check_records in
    let p = err_from_is_err_and r.result r.ensures.1 in
    let z = need-went _ c.is_whole.ensures c.in_ok-ensure.ensures in
    let s = sym c.in_ok-check_shape.ensures.verdict in
    rw (p.1, p.2) (record { verdict = after-34 c.args.table.now z s _ c.in_err-check_records.ensures; layout = λ q. absurd (never q) })

pub returns-in_err-ensure-2 : goal.returns-in_err-ensure-2
returns-in_err-ensure-2 c =
    let r = c.from_residual-in_err-ensure-2 in
    let p = err_from_is_err_and r.result r.ensures.1 in
    let z = need-went _ c.is_whole.ensures c.in_ok-ensure.ensures in
    let e = rw c.any_id.ensures at c.in_err-ensure-2.ensures in
    rw (p.1, p.2) (record { verdict = after-ids c.args.table.now z (sym c.in_ok-check_shape.ensures.verdict) (sym c.in_ok-check_records.ensures) _ e; layout = λ q. absurd (never q) })

pub check_groups-requires : goal.check_groups-requires
check_groups-requires c =
    let t = c.args.table.now in
    let shape = c.in_ok-check_shape.ensures in
    let s = sym shape.verdict in
    let r = sym c.in_ok-check_records.ensures in
    (shape.placing refl, kept-none t c.check_shape.new.index (shape.blank refl), schema-sound t s r, supers-low t s r)

pub returns : goal.returns
returns c =
    let t = c.args.table.now in
    let z = need-went _ c.is_whole.ensures c.in_ok-ensure.ensures in
    let s = sym c.in_ok-check_shape.ensures.verdict in
    let r = sym c.in_ok-check_records.ensures in
    let w = c.check_groups.ensures in
    record {
      verdict = w.verdict ∙ by-groups t z s r (need-went _ c.any_id.ensures c.in_ok-ensure-2.ensures);
      layout = λ q. layout_of t _ (w.placing q) (w.known q) (whole_of t z) (supers-low t s r) (lists-ordered t s r) (also-accepted _ _ (also-accepted _ _ (sym w.verdict ∙ q)).1).1;
    }
