use mathlib.Core.Path.{ap, ◌∙◌}
use Rattle.blink_native.specs.Boundary.{exported_written}
use Rattle.blink_native.proofs.blink_add_line.Goals as goal

pub returns : goal.returns
returns c =
    let e = c.add_line-entered.ensures in
    record { value = c.from.ensures ∙ ap exported_written e.value; ledger_after = e.ledger_after; scratch_after = e.scratch_after }
