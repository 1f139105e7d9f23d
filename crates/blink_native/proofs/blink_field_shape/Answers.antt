use mathlib.Core.Path.{ap, ◌∙◌}
use Rattle.blink_native.specs.Boundary.{exported_shape}
use Rattle.blink_native.proofs.blink_field_shape.Goals as goal

pub returns : goal.returns
returns c = c.from.ensures ∙ ap exported_shape c.field_shape.ensures
