use mathlib.Core.Path.{refl, sym, ap, ◌∙◌}
use native.Mathlib.Omega.{arith}
use lib.ListN.{length}
use Rattle.opening.specs.Opening.{under}
use Rattle.ledger.specs.Ledger.{Ledger, lines}
use Rattle.ledgers.proofs.Laws.{outcome-start, outcome-end, run_end, turn-under}
use borrow.Author.Rules.{rules}
use Rattle.ledgers.proofs.enter_under.Goals as goal

pub loop-at-init : goal.loop-at-init
loop-at-init c = let a = c.args in record { room = refl; size = refl; inside = omega arith; runs = refl; so_far = outcome-start a.context.table.now a.tape.now (under a.context.store.now a.context.customer (length a.scratch.now)) a.id (lines a.ledger.now a.start) }

pub loop-at-smaller : goal.loop-at-smaller
loop-at-smaller c = let a = c.args in
    let x = turn-under a.context.table.now a.tape.now a.context.store.now a.context.customer (length a.scratch.now) _ _ a.id _ _ _ _ _ _ _ _ _ _ _ c.loop-at.invariant.room (omega (arith, c.step_under-step.auto, c.loop-at.invariant.room)) c.loop-at-test.true c.step_under-step.ensures.value c.part_at-message.ensures.what c.enter-entered.ensures.value c.enter-entered.ensures.ledger_after c.turn_outcome-outcome.ensures c.worse-worst.ensures c.fill_of-fill.ensures in
    omega (arith, x.past, c.loop-at-test.true)

pub loop-at-preserved : goal.loop-at-preserved
loop-at-preserved c = let a = c.args in
    let x = turn-under a.context.table.now a.tape.now a.context.store.now a.context.customer (length a.scratch.now) _ _ a.id _ _ _ _ _ _ _ _ _ _ _ c.loop-at.invariant.room (omega (arith, c.step_under-step.auto, c.loop-at.invariant.room)) c.loop-at-test.true c.step_under-step.ensures.value c.part_at-message.ensures.what c.enter-entered.ensures.value c.enter-entered.ensures.ledger_after c.turn_outcome-outcome.ensures c.worse-worst.ensures c.fill_of-fill.ensures in
    record { room = search rules; size = search rules; inside = x.within; runs = c.loop-at.invariant.runs ∙ x.runs; so_far = c.loop-at.invariant.so_far ∙ x.comes }

pub returns : goal.returns
returns c = let a = c.args in let u = under a.context.store.now a.context.customer (length a.scratch.now) in
    let e = c.loop-at.invariant.runs ∙ run_end a.context.table.now a.tape.now u a.id _ _ c.loop-at-test.false in
    record { bytes = sym (ap (λ (l : Ledger). l.bytes) e); fill = sym (ap (λ (l : Ledger). l.fill) e); outcome = sym (c.loop-at.invariant.so_far ∙ outcome-end a.context.table.now a.tape.now u a.id _ _ _ c.loop-at-test.false) }
