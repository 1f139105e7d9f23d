use mathlib.Core.Path.{sym, ap, ◌∙◌}
use Rattle.reading.specs.Number.{float_of}
use Rattle.reading.specs.declared.Number.TheVariants.{Float}
use Rattle.reading.proofs.Numbers.{float-nan, float-number}
use Rattle.reading.proofs.float_at.Goals as goal

pub returns-then-is_nan_bits : goal.returns-then-is_nan_bits
returns-then-is_nan_bits c = float-nan _ (sym c.is_nan_bits.ensures ∙ c.if-is_nan_bits.true) ∙ ap float_of c.read_u64-bits.ensures

pub returns : goal.returns
returns c = ap Float c.f64_from_bits.ensures ∙ float-number _ (sym c.is_nan_bits.ensures ∙ c.if-is_nan_bits.false) ∙ ap float_of c.read_u64-bits.ensures
