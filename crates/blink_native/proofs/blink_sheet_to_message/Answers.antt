use mathlib.Core.Path.{ap, ◌∙◌}
use Rattle.blink_native.specs.Boundary.{exported_written}
use Rattle.blink_native.proofs.blink_sheet_to_message.Goals as goal

pub returns : goal.returns
returns c = record { value = c.from.ensures ∙ ap exported_written c.sheet_to_message.ensures.value; output_after = c.sheet_to_message.ensures.output_after }
