use Rattle.std.proofs.Common.{Some, sym, ap, ◌∙◌}
use Rattle.blink_native.specs.Boundary.{exported_answer}
use Rattle.blink_native.proofs.export_step.Goals as goal

pub returns-in_default : goal.returns-in_default
unfolding exported_answer
returns-in_default c = sym (ap (exported_answer _ _) c.in_default.is)

pub returns-in-Ok : goal.returns-in-Ok
unfolding exported_answer
returns-in-Ok c = sym (ap (exported_answer _ _) (c.in-Some.is ∙ ap Some c.in-Ok.is))

pub returns-in-Err : goal.returns-in-Err
unfolding exported_answer
returns-in-Err c = sym (ap (exported_answer _ _) (c.in-Some.is ∙ ap Some c.in-Err.is))
