use mathlib.Core.Path.{ap, ◌∙◌}
use Rattle.blink_native.specs.Boundary.{exported_span}
use Rattle.blink_native.proofs.blink_read_bytes.Goals as goal

pub returns : goal.returns
returns c = record { value = c.from.ensures ∙ ap exported_span c.find_bytes-s.ensures.value; scratch_after = c.find_bytes-s.ensures.scratch_after }
