use native.Mathlib.Nat.{add-sub_cancel_left}
use Rattle.std.proofs.Common.{Ok, [], refl, sym, ap, length, ◌∙◌, arith}
use Rattle.std.proofs.lemmas.Result.{err_from_is_err_and}
use Rattle.opening.specs.Opening.{under}
use Rattle.schema.specs.Faults.{fault_at}
use Rattle.ledger.specs.Ledger.{Call, call}
use Rattle.ledger.proofs.Laws.{read-inside, enters-read, enters-no-part, line_other, line_refused, enters-nothing, enters-55-none}
use Rattle.ledger.proofs.add_line.Goals as goal

pub returns-in_err-front : goal.returns-in_err-front
returns-in_err-front c =
    let a = c.args in
    let k : Call = call a.table.now a.message.now (under a.store.now a.customer (length a.scratch.now)) a.blank in
    let p = err_from_is_err_and c.from_residual.result c.from_residual.ensures.1 in
    let E = enters-nothing _ _ _ _ (line_refused k _ c.read_front.ensures.value _ c.in_err-front.was) in
    record { value = rw (p.1, p.2) E.0; ledger_after = E.1; scratch_after = c.read_front.ensures.scratch_after }

pub returns-in_default : goal.returns-in_default
returns-in_default c =
    let a = c.args in
    let k : Call = call a.table.now a.message.now (under a.store.now a.customer (length a.scratch.now)) a.blank in
    let E = enters-nothing _ _ _ (fault_at 54 0) (line_other k _ c.read_front.ensures.value (c.in_ok-front.was ∙ ap Ok c.in_default.is)) in
    record { value = E.0; ledger_after = E.1; scratch_after = c.read_front.ensures.scratch_after }

pub returns-in_default-first : goal.returns-in_default-first
returns-in_default-first c =
    let a = c.args in
    let k : Call = call a.table.now a.message.now (under a.store.now a.customer (length a.scratch.now)) a.blank in
    let E = enters-no-part k _ c.read_front.ensures.value _ (c.in_ok-front.was ∙ ap Ok c.in-Some.is) _ _ _ refl refl refl a.ledger.now a.fill _ _ _ c.in_default-first.is (enters-55-none [] _ _ _ _ _ (omega arith)) in
    record { value = E.0; ledger_after = E.1; scratch_after = c.read_front.ensures.scratch_after }

pub overflow_add-part : goal.overflow_add-part
overflow_add-part c =
    let a = c.args in
    let k : Call = call a.table.now a.message.now (under a.store.now a.customer (length a.scratch.now)) a.blank in
    let l = read-inside k _ c.read_front.ensures.value _ (c.in_ok-front.was ∙ ap Ok c.in-Some.is) _ c.in-Ok.is in omega (arith, l)

pub slice_bounds-enter-end : goal.slice_bounds-enter-end
slice_bounds-enter-end c =
    let a = c.args in
    let k : Call = call a.table.now a.message.now (under a.store.now a.customer (length a.scratch.now)) a.blank in
    read-inside k _ c.read_front.ensures.value _ (c.in_ok-front.was ∙ ap Ok c.in-Some.is) _ c.in-Ok.is

pub returns : goal.returns
returns c =
    let a = c.args in
    let k : Call = call a.table.now a.message.now (under a.store.now a.customer (length a.scratch.now)) a.blank in
    let p = c.in-Ok.part in
    let e = rw (add-sub_cancel_left p.start p.length) at c.enter.ensures in
    let E = enters-read k _ c.read_front.ensures.value _ (c.in_ok-front.was ∙ ap Ok c.in-Some.is) _ _ _ c.word_of.ensures c.word_of-2.ensures c.word_of-3.ensures a.ledger.now a.fill _ _ _ c.in-Ok.is e in
    record { value = E.0; ledger_after = E.1; scratch_after = c.read_front.ensures.scratch_after }
