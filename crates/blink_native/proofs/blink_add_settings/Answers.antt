use mathlib.Core.Path.{ap, ◌∙◌}
use Rattle.blink_native.specs.Boundary.{exported}
use Rattle.blink_native.proofs.blink_add_settings.Goals as goal

pub returns : goal.returns
returns c = record { value = c.from.ensures ∙ ap exported c.add_settings.ensures.value; store_after = c.add_settings.ensures.store_after }
