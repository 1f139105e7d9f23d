use native.Mathlib.Omega.{arith}
use Rattle.tape.proofs.Whole.{turn}
use Rattle.tape_bench.proofs.Laws.{ends, turns}
use borrow.Author.Rules.{rules}
use Rattle.tape_bench.proofs.count_under.Goals as goal

pub loop-at-smaller : goal.loop-at-smaller
loop-at-smaller c = omega (arith, (turn _ _ _ _ _ _ _ _ c.loop-at.invariant.0 c.loop-at-test.true c.step_under-answer.ensures.value).past)

pub loop-at-preserved : goal.loop-at-preserved
loop-at-preserved c = (search rules, turns _ _ _ _ _ (turn _ _ _ _ _ _ _ _ c.loop-at.invariant.0 c.loop-at-test.true c.step_under-answer.ensures.value) _ _ c.one_if_accepted-accepted.ensures c.loop-at.invariant.1)

pub returns : goal.returns
returns c = ends _ _ _ _ _ c.loop-at-test.false c.loop-at.invariant.1
