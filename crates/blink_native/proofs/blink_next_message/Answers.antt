use mathlib.Core.Path.{ap, ◌∙◌}
use Rattle.blink_native.specs.Boundary.{exported_step}
use Rattle.blink_native.proofs.Steps.{goes_on}
use Rattle.blink_native.proofs.blink_next_message.Goals as goal

pub export_step-requires : goal.export_step-requires
export_step-requires c = goes_on _ _ _ _ _ c.step_at.ensures.value

pub returns : goal.returns
returns c =
    let e = c.step_at.ensures in
    record { value = c.export_step.ensures ∙ ap (exported_step _) e.value; scratch_after = e.scratch_after }
