use Rattle.parsing.proofs.Answers.{handed}
use Rattle.parsing.proofs.Loops.{items-start, items-passed, items-stopped, items-end}
use Rattle.parsing.proofs.check_texts.Goals as goal

pub loop-init : goal.loop-init
loop-init c = items-start c.requires

pub returns-in_err-step : goal.returns-in_err-step
returns-in_err-step c = rw (handed c.from_residual.ensures.1) (items-stopped c.loop.invariant c.loop-test.true _ c.in_err-step.ensures)

pub loop-preserved : goal.loop-preserved
loop-preserved c = items-passed c.loop.invariant c.loop-test.true _ c.in_ok-step.ensures

pub returns : goal.returns
returns c = items-end c.loop.invariant c.loop-test.false
