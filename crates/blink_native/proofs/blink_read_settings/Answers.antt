use mathlib.Core.Path.{ap, ◌∙◌}
use Rattle.blink_native.specs.Boundary.{exported_settings}
use Rattle.blink_native.proofs.blink_read_settings.Goals as goal

pub returns : goal.returns
returns c = c.from.ensures ∙ ap exported_settings c.read_settings.ensures
