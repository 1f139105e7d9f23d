-- The answers as C takes them.
use Rattle.settings.specs.declared.Ignored.{Ignored}
use Rattle.reading.specs.declared.Part.{Part}
use Rattle.tape.specs.Tape.{Answer}
use Rattle.schema.specs.declared.Fault.{Fault}
use Rattle.schema.specs.Faults.{Verdict}
use Rattle.std.specs.Prelude.{Ok, Err, Some, None, Result, not, cond, List, [], ℕ, ◌+◌, ◌-◌, ◌*◌, T, ltb, ℤ, pos}
use Rattle.std.specs.Float.{binary64}
use Rattle.std.specs.Float.Ieee.{is_nan, to_bits}
use Rattle.wire.specs.Bytes.{pattern}
use Rattle.fields.specs.declared.FieldShape.{FieldShape}
use Rattle.reading.specs.declared.Number.{Number}
use Rattle.reading.specs.declared.Number.TheVariants.{Signed, Unsigned, Bool as Flag, Decimal, Float, NanBits}
use Rattle.tape.specs.declared.Step.{Step}
use Rattle.faults.specs.Words.{words_of, faults}
use Rattle.blink_native.specs.declared.BlinkVerdict.{BlinkVerdict}
use Rattle.blink_native.specs.declared.BlinkWritten.{BlinkWritten}
use Rattle.blink_native.specs.declared.BlinkNumber.{BlinkNumber}
use Rattle.blink_native.specs.declared.BlinkPart.{BlinkPart}
use Rattle.blink_native.specs.declared.BlinkSettings.{BlinkSettings}
use Rattle.blink_native.specs.declared.BlinkStep.{BlinkStep}
use Rattle.blink_native.specs.declared.BlinkShape.{BlinkShape}

-- A fault's number and place; both 0 where nothing is refused.
unfoldable pub exported : Verdict → BlinkVerdict
exported (Ok _) = record { number = 0; place = 0 }
exported (Err f) = record { number = f.number; place = f.place }

-- How many bytes were written, or a ledger's new fill: 0 where it is refused.
unfoldable pub exported_written : Result ℕ Fault → BlinkWritten
exported_written (Ok n) = record { number = 0; place = 0; length = n }
exported_written (Err f) = record { number = f.number; place = f.place; length = 0 }

-- Where bytes lie in the message: none at 0 where it is refused.
unfoldable pub exported_span : Result Part Fault → BlinkPart
exported_span (Ok x) = record { number = 0; place = 0; offset = x.start; length = x.length }
exported_span (Err f) = record { number = f.number; place = f.place; offset = 0; length = 0 }

-- Flags as numbers: 0 where it is refused.
unfoldable pub exported_settings : Result Ignored Fault → BlinkSettings
exported_settings (Ok x) = record { number = 0; place = 0; absent = cond x.absent 1 0; pads = cond x.pads 1 0; unused = cond x.unused 1 0 }
exported_settings (Err f) = record { number = f.number; place = f.place; absent = 0; pads = 0; unused = 0 }

-- What a tape's reader answers at a place, and where the next message starts: none of the tape's bytes where one is refused or the tape has ended.
unfoldable pub exported_answer : ℕ → ℕ → Answer → BlinkStep
exported_answer at next None = record { number = 0; place = 0; ended = 1; offset = 0; length = 0; next = next }
exported_answer at next (Some (Ok _)) = record { number = 0; place = 0; ended = 0; offset = at; length = next - at; next = next }
exported_answer at next (Some (Err f)) = record { number = f.number; place = f.place; ended = 0; offset = 0; length = 0; next = next }

abbrev pub exported_step : ℕ → Step → BlinkStep
exported_step at s = exported_answer at s.next s.answer

-- A field's type number, its flags as numbers, and its size byte: 0 where it is refused.
unfoldable pub exported_shape : Result FieldShape Fault → BlinkShape
exported_shape (Ok x) = record { number = 0; place = 0; kind = x.number; optional = cond x.optional 1 0; sequence = cond x.sequence 1 0; size = x.size }
exported_shape (Err f) = record { number = f.number; place = f.place; kind = 0; optional = 0; sequence = 0; size = 0 }

-- An answer that is a number, of a kind.
abbrev pub answered : ℕ → ℤ → ℕ → BlinkNumber
answered k e x = record { number = 0; place = 0; kind = k; exponent = e; bits = x }

-- A number's kind, a decimal's exponent, and its bits: of a float, its pattern.
unfoldable pub exported_number : Result Number Fault → BlinkNumber
exported_number (Ok (Signed x)) = answered 1 (pos 0) (pattern 63 x)
exported_number (Ok (Unsigned x)) = answered 2 (pos 0) x
exported_number (Ok (Flag x)) = answered 3 (pos 0) (cond x 1 0)
exported_number (Ok (Decimal e x)) = answered 4 e (pattern 63 x)
exported_number (Ok (Float x)) = answered 5 (pos 0) (to_bits binary64 x)
exported_number (Ok (NanBits x)) = answered 6 (pos 0) x
exported_number (Err f) = record { number = f.number; place = f.place; kind = 0; exponent = pos 0; bits = 0 }

-- No float of an answer is a NaN: a NaN's bits are an answer of their own.
unfoldable pub NoNan : Result Number Fault → Type 0
NoNan (Ok (Signed x)) = Unit
NoNan (Ok (Unsigned x)) = Unit
NoNan (Ok (Flag x)) = Unit
NoNan (Ok (Decimal e x)) = Unit
NoNan (Ok (Float x)) = T (not (is_nan x))
NoNan (Ok (NanBits x)) = Unit
NoNan (Err f) = Unit

-- What a number means in words: no fault's number is above a byte.
unfoldable pub fault_words : ℕ → List ℕ
fault_words n = cond (ltb n 256) (words_of n faults) []

-- A version as one number, so that a later one is greater.
abbrev pub version : ℕ → ℕ → ℕ → ℕ
version major minor patch = 65536 * major + 256 * minor + patch
