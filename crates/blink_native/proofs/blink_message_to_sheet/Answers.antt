use mathlib.Core.Path.{ap, ◌∙◌}
use Rattle.blink_native.specs.Boundary.{exported_written}
use Rattle.blink_native.proofs.blink_message_to_sheet.Goals as goal

pub returns : goal.returns
returns c = record { value = c.from.ensures ∙ ap exported_written c.message_to_sheet.ensures.value; scratch_after = c.message_to_sheet.ensures.scratch_after; sheet_after = c.message_to_sheet.ensures.sheet_after }
