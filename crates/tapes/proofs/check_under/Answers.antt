use mathlib.Core.Path.{refl, sym, ap, ◌∙◌}
use native.Mathlib.Omega.{arith}
use lib.ListN.{length}
use Rattle.opening.specs.Opening.{under}
use Rattle.answers.specs.declared.outcome.Outcome.{Outcome}
use Rattle.answers.specs.Outcomes.{worse_of}
use Rattle.tape.proofs.Whole.{turn}
use Rattle.tapes.proofs.Laws.{outcome_from, outcome-start, outcome-turn, outcome-end}
use borrow.Author.Rules.{rules}
use Rattle.tapes.proofs.check_under.Goals as goal

pub loop-at-init : goal.loop-at-init
loop-at-init c = let a = c.args in record { room = refl; inside = omega arith; so_far = outcome-start a.context.table.now a.tape.now (under a.context.store.now a.context.customer (length a.scratch.now)) }

pub say-outcome-requires : goal.say-outcome-requires
say-outcome-requires c = let a = c.args in let x = turn a.context.table.now a.tape.now a.context.store.now a.context.customer _ _ _ _ c.loop-at.invariant.room c.loop-at-test.true c.step_under-step.ensures.value in omega (arith, x.past)

pub loop-at-smaller : goal.loop-at-smaller
loop-at-smaller c = let a = c.args in let x = turn a.context.table.now a.tape.now a.context.store.now a.context.customer _ _ _ _ c.loop-at.invariant.room c.loop-at-test.true c.step_under-step.ensures.value in omega (arith, x.past, c.loop-at-test.true)

pub loop-at-preserved : goal.loop-at-preserved
loop-at-preserved c = let a = c.args in let u = under a.context.store.now a.context.customer (length a.scratch.now) in
    let x = turn a.context.table.now a.tape.now a.context.store.now a.context.customer _ _ _ _ c.loop-at.invariant.room c.loop-at-test.true c.step_under-step.ensures.value in
    record { room = search rules; inside = x.within; so_far = c.loop-at.invariant.so_far ∙ outcome-turn a.context.table.now a.tape.now u _ _ _ x ∙ ap (λ (w : Outcome). outcome_from a.context.table.now a.tape.now u w c.step_under-step.result.next) (ap (worse_of c.loop-at.worst) (sym c.say-outcome.ensures) ∙ sym c.worse-worst.ensures) }

pub returns : goal.returns
returns c = let a = c.args in sym (c.loop-at.invariant.so_far ∙ outcome-end a.context.table.now a.tape.now (under a.context.store.now a.context.customer (length a.scratch.now)) _ _ c.loop-at-test.false)
