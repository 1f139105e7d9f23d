use mathlib.Core.Path.{sym, ap, subst, ◌∙◌}
use Rattle.blink_native.specs.Boundary.{exported_number, NoNan}
use Rattle.blink_native.proofs.Nan.{no_nan}
use Rattle.blink_native.proofs.blink_read_number.Goals as goal

pub export_number-requires : goal.export_number-requires
export_number-requires c = subst NoNan (sym c.read_number-n.ensures.value) (no_nan _ _ _ _ _)

pub returns : goal.returns
returns c = record { value = c.export_number.ensures ∙ ap exported_number c.read_number-n.ensures.value; scratch_after = c.read_number-n.ensures.scratch_after }
