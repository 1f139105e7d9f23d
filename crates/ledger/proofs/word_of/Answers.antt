use Rattle.std.proofs.Common.{rules, Ok, sym, ap, ◌∙◌}
use mir.Syntax.{w64}
use mir.Facts.{to_z-of_z}
use Rattle.wire.specs.Bytes.{pattern}
use Rattle.ledger.specs.Ledger.{word_of}
use Rattle.ledger.proofs.word_of.Goals as goal

pub returns-in_default : goal.returns-in_default
unfolding word_of
returns-in_default c = sym (ap word_of c.in_default.is)

pub returns-in-Signed : goal.returns-in-Signed
unfolding word_of
returns-in-Signed c = let z = to_z-of_z {w = w64} {z = c.in-Signed.x} (search rules) in c.i64_to_bits.ensures ∙ ap (pattern 63) z ∙ sym (ap word_of (c.in-Ok.is ∙ ap Ok c.in-Signed.is))

pub returns-in-Unsigned : goal.returns-in-Unsigned
unfolding word_of
returns-in-Unsigned c = sym (ap word_of (c.in-Ok.is ∙ ap Ok c.in-Unsigned.is))

pub returns-in-Bool : goal.returns-in-Bool
unfolding word_of
returns-in-Bool c = sym (ap word_of (c.in-Ok.is ∙ ap Ok c.in-Bool.is))

pub returns-in-Decimal : goal.returns-in-Decimal
unfolding word_of
returns-in-Decimal c = sym (ap word_of (c.in-Ok.is ∙ ap Ok c.in-Decimal.is))

pub returns-in-Float : goal.returns-in-Float
unfolding word_of
returns-in-Float c = sym (ap word_of (c.in-Ok.is ∙ ap Ok c.in-Float.is))

pub returns-in-NanBits : goal.returns-in-NanBits
unfolding word_of
returns-in-NanBits c = sym (ap word_of (c.in-Ok.is ∙ ap Ok c.in-NanBits.is))
