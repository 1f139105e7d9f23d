use mathlib.Core.Path.{ap, ◌∙◌}
use Rattle.blink_native.specs.Boundary.{exported_written}
use Rattle.blink_native.proofs.blink_rewrite.Goals as goal

pub returns : goal.returns
returns c =
    let e = c.rewrite.ensures in
    record { value = c.from.ensures ∙ ap exported_written e.value; scratch_after = e.scratch_after; sheet_after = e.sheet_after; output_after = e.output_after }
