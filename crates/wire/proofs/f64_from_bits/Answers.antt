use mathlib.Core.Path.{sym, ◌∙◌}
use lib.Ieee.{of_bits}
use Rattle.wire.proofs.Nan.{no_nan, reads-nan}
use Rattle.wire.proofs.f64_from_bits.Goals as goal

pub float_from_bits-result : goal.float_from_bits-result
float_from_bits-result c = no_nan c.args.bits (sym c.is_nan_bits.ensures ∙ c.if-is_nan_bits.false)

pub returns-then-is_nan_bits : goal.returns-then-is_nan_bits
unfolding of_bits
returns-then-is_nan_bits c = sym (reads-nan c.args.bits (sym c.is_nan_bits.ensures ∙ c.if-is_nan_bits.true))
