use mathlib.Core.Path.{sym, ap, ◌∙◌}
use native.Mathlib.Omega.{arith}
use mir.Syntax.{w8, w16, w32, w64}
use mir.Facts.{to_z-of_z}
use borrow.Author.Rules.{sfits_of}
use Rattle.wire.specs.Bytes.{signed}
use Rattle.schema.proofs.Types.{le-one}
use Rattle.reading.specs.declared.Number.TheVariants.{Signed}
use Rattle.wire.proofs.Signed.{widens, widened}
use Rattle.reading.proofs.Numbers.{eight}
use Rattle.reading.proofs.signed_at.Goals as goal

pub overflow_cast-result : goal.overflow_cast-result
overflow_cast-result c = widens w8 w64 c.i8_from_bits.result tt (sfits_of c.i8_from_bits.type_inv)

pub overflow_cast-result-in-2 : goal.overflow_cast-result-in-2
overflow_cast-result-in-2 c = widens w16 w64 c.i16_from_bits.result tt (sfits_of c.i16_from_bits.type_inv)

pub overflow_cast-result-in-4 : goal.overflow_cast-result-in-4
overflow_cast-result-in-4 c = widens w32 w64 c.i32_from_bits.result tt (sfits_of c.i32_from_bits.type_inv)

pub read_u64-requires : goal.read_u64-requires
read_u64-requires c =
    let pre = c.requires in
    let n = c.in_default.in_default-own.rest in let e = eight _ pre.1 n.0.0.1 n.0.1 n.1 in omega (arith, e, pre.0)

pub returns-in-1 : goal.returns-in-1
returns-in-1 c =
    let a = c.args in
    rw c.in-1.is (ap Signed (widened w8 w64 c.i8_from_bits.result tt (sfits_of c.i8_from_bits.type_inv) ∙ c.i8_from_bits.ensures ∙ ap (signed 7) (sym (le-one a.bytes.now a.at (omega (arith, c.requires.0, c.in-1.is))))))

pub returns-in-2 : goal.returns-in-2
returns-in-2 c = rw c.in-2.is (ap Signed (widened w16 w64 c.i16_from_bits.result tt (sfits_of c.i16_from_bits.type_inv) ∙ c.i16_from_bits.ensures ∙ ap (signed 15) c.read_u16.ensures.0))

pub returns-in-4 : goal.returns-in-4
returns-in-4 c = rw c.in-4.is (ap Signed (widened w32 w64 c.i32_from_bits.result tt (sfits_of c.i32_from_bits.type_inv) ∙ c.i32_from_bits.ensures ∙ ap (signed 31) c.read_u32.ensures.0))

pub returns-in_default : goal.returns-in_default
returns-in_default c = let n = c.in_default.in_default-own.rest in rw (eight _ c.requires.1 n.0.0.1 n.0.1 n.1) (ap Signed (to_z-of_z {w = w64} {z = c.i64_from_bits.result} (sfits_of c.i64_from_bits.type_inv) ∙ c.i64_from_bits.ensures ∙ ap (signed 63) c.read_u64.ensures))
