use native.Mathlib.Omega.{arith}
use Rattle.conformance.proofs.Laws.{moved_on}
use Rattle.conformance.proofs.answer_tape.Goals as goal

pub loop-at-smaller : goal.loop-at-smaller
loop-at-smaller c = omega (arith, moved_on _ _ _ _ _ c.in_ok-at.ensures c.loop-at-test.true)
