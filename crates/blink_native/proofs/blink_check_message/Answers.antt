use mathlib.Core.Path.{ap, ◌∙◌}
use Rattle.blink_native.specs.Boundary.{exported}
use Rattle.blink_native.proofs.blink_check_message.Goals as goal

pub returns : goal.returns
returns c = record { value = c.from.ensures ∙ ap exported c.check_message.ensures.value; scratch_after = c.check_message.ensures.scratch_after }
