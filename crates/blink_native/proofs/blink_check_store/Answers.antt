use mathlib.Core.Path.{ap, ◌∙◌}
use Rattle.blink_native.specs.Boundary.{exported}
use Rattle.blink_native.proofs.blink_check_store.Goals as goal

pub returns : goal.returns
returns c = c.from.ensures ∙ ap exported c.check_store.ensures
