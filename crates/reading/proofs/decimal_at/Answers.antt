use mathlib.Core.Path.{ap, ◌∙◌}
use mir.Syntax.{w8, w64}
use mir.Facts.{to_z-of_z}
use borrow.Author.Rules.{sfits_of}
use Rattle.wire.specs.Bytes.{signed}
use Rattle.reading.proofs.Numbers.{decimal-at}
use Rattle.reading.proofs.decimal_at.Goals as goal

pub returns : goal.returns
returns c =
    let a = c.args in
    let e = to_z-of_z {w = w8} {z = c.i8_from_bits.result} (sfits_of c.i8_from_bits.type_inv) ∙ c.i8_from_bits.ensures in
    let m = to_z-of_z {w = w64} {z = c.i64_from_bits.result} (sfits_of c.i64_from_bits.type_inv) ∙ c.i64_from_bits.ensures ∙ ap (signed 63) c.read_u64.ensures in
    rw (e, m) (decimal-at a.bytes.now a.at c.requires)
