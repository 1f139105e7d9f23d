use native.Mathlib.Omega.{arith}
use Rattle.tape.proofs.Whole.{turn}
use Rattle.ledgers.proofs.list_under.Goals as goal

pub loop-at-smaller : goal.loop-at-smaller
loop-at-smaller c = let a = c.args in let x = turn a.context.table.now a.tape.now a.context.store.now a.context.customer _ _ _ _ c.loop-at.invariant c.loop-at-test.true c.step_under-step.ensures.value in omega (arith, x.past, c.loop-at-test.true)
