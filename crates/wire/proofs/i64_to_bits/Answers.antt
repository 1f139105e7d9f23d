use mathlib.Core.Path.{◌∙◌}
use mir.Facts.{to_z-of_z}
use Rattle.wire.proofs.Signed.{pattern-is}
use Rattle.wire.proofs.i64_to_bits.Goals as goal

pub returns : goal.returns
returns c = c.cast_unsigned.ensures ∙ rw (to_z-of_z c.ranges.x) (pattern-is c.args.x)
