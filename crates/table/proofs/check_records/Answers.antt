use Rattle.std.proofs.Common.{◌+◌, ◌*◌, ◌≤◌, refl, sym, ◌∙◌, arith, length}
use Rattle.std.proofs.lemmas.Result.{err_from_is_err_and}
use Rattle.schema.specs.Table.{enums, schema}
use Rattle.table.proofs.Laws.{also-pass, also-stop}
use Rattle.table.proofs.Records.{records-turn, records-start, records-end, left-start, left-turn}
use Rattle.table.proofs.check_records.Goals as goal

pub loop-i-init : goal.loop-i-init
loop-i-init c = (left-start c.args.table.now, records-start c.args.table.now)

pub returns-in_err-check_record : goal.returns-in_err-check_record
returns-in_err-check_record c =
    let t = c.args.table.now in
    let w = c.requires.0 in
    let l = c.loop-i in
    let p = err_from_is_err_and c.from_residual.result c.from_residual.ensures.1 in
    let turn = records-turn t w (length (enums t)) (schema t) l.next l.low l.i (omega (arith, w.whole, c.loop-i-test.true)) _ refl in
    rw (p.1, p.2) (also-stop _ _ _ c.in_err-check_record.ensures ∙ sym (l.invariant.1 ∙ turn))

pub loop-i-preserved : goal.loop-i-preserved
loop-i-preserved c =
    let t = c.args.table.now in
    let w = c.requires.0 in
    let l = c.loop-i in
    let inside : 16 * l.i + 16 ≤ length t = omega (arith, w.whole, c.loop-i-test.true) in
    let turn = records-turn t w (length (enums t)) (schema t) l.next l.low l.i inside _ refl in
    let n = c.groups_after-next.ensures in
    (rw n (left-turn t w l.next l.i inside l.invariant.0), rw (n, c.rising-low.ensures) (l.invariant.1 ∙ turn ∙ also-pass _ _ c.in_ok-check_record.ensures))

pub returns : goal.returns
returns c =
    let t = c.args.table.now in
    let l = c.loop-i in
    sym (l.invariant.1 ∙ records-end t (length (enums t)) (schema t) l.next l.low l.i (omega (arith, c.loop-i-test.false)))
