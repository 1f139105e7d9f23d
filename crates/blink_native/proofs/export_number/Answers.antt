use Rattle.std.proofs.Common.{Ok}
use mathlib.Core.Path.{sym, ap, ap₂, subst, ◌∙◌}
use borrow.Author.Rules.{rules}
use lib.IntN.{pos}
use mir.Syntax.{w8, w32, w64}
use mir.Facts.{to_z-of_z}
use Rattle.wire.specs.Bytes.{pattern}
use Rattle.wire.proofs.Signed.{widens, widened}
use Rattle.blink_native.specs.Boundary.{answered, exported_number, NoNan}
use Rattle.blink_native.proofs.Flag.{flag-bits}
use Rattle.blink_native.proofs.export_number.Goals as goal

pub overflow_cast-exponent : goal.overflow_cast-exponent
overflow_cast-exponent c = widens w8 w32 c.in-Decimal.exponent tt (search rules)

pub float_to_bits-x : goal.float_to_bits-x
unfolding NoNan
float_to_bits-x c = subst NoNan (c.in-Ok.is ∙ ap Ok c.in-Float.is) c.requires

pub returns-in-Signed : goal.returns-in-Signed
unfolding exported_number
returns-in-Signed c =
    let x = to_z-of_z {w = w64} {z = c.in-Signed.x} (search rules) in
    c.answer.ensures ∙ ap (answered 1 (pos 0)) (c.i64_to_bits.ensures ∙ ap (pattern 63) x) ∙ sym (ap exported_number (c.in-Ok.is ∙ ap Ok c.in-Signed.is))

pub returns-in-Unsigned : goal.returns-in-Unsigned
unfolding exported_number
returns-in-Unsigned c = c.answer-in-Unsigned.ensures ∙ sym (ap exported_number (c.in-Ok.is ∙ ap Ok c.in-Unsigned.is))

pub returns-in-Bool : goal.returns-in-Bool
unfolding exported_number
returns-in-Bool c = c.answer-in-Bool.ensures ∙ ap (answered 3 (pos 0)) (flag-bits c.in-Bool.x) ∙ sym (ap exported_number (c.in-Ok.is ∙ ap Ok c.in-Bool.is))

pub returns-in-Decimal : goal.returns-in-Decimal
unfolding exported_number
returns-in-Decimal c =
    let e = widened w8 w32 c.in-Decimal.exponent tt (search rules) in
    let x = to_z-of_z {w = w64} {z = c.in-Decimal.mantissa} (search rules) in
    c.answer-in-Decimal.ensures ∙ ap₂ (answered 4) e (c.i64_to_bits-in-Decimal.ensures ∙ ap (pattern 63) x) ∙ sym (ap exported_number (c.in-Ok.is ∙ ap Ok c.in-Decimal.is))

pub returns-in-Float : goal.returns-in-Float
unfolding exported_number
returns-in-Float c = c.answer-in-Float.ensures ∙ sym (ap exported_number (c.in-Ok.is ∙ ap Ok c.in-Float.is))

pub returns-in-NanBits : goal.returns-in-NanBits
unfolding exported_number
returns-in-NanBits c = c.answer-in-NanBits.ensures ∙ sym (ap exported_number (c.in-Ok.is ∙ ap Ok c.in-NanBits.is))

pub returns-in-Err : goal.returns-in-Err
unfolding exported_number
returns-in-Err c = sym (ap exported_number c.in-Err.is)
