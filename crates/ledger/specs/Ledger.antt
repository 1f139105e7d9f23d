-- Document 02, request 10: one ledger line of 64 bytes for each message of the Blank group that nothing refuses.
use Rattle.schema.specs.declared.Fault.{Fault}
use Rattle.std.specs.Prelude.{Ok, Err, Result, ◌≡◌, ◌&&◌, List, [], ◌∷◌, ◌++◌, ℕ, ◌+◌, ◌-◌, ◌≤◌, length, replicate, leb, eqb}
use Rattle.wire.specs.Bytes.{bytes_of, pattern, splice}
use Rattle.schema.specs.Faults.{fault_at, need}
use Rattle.fields.specs.Fields.{has_fields}
use Rattle.reading.specs.declared.Number.{Number}
use Rattle.reading.specs.declared.Number.TheVariants.{Signed, Unsigned, Bool as Flag, Decimal, Float, NanBits}
use Rattle.reading.specs.declared.Part.{Part}
use Rattle.reading.specs.Part.{bytes_in}
use Rattle.opening.specs.Opening.{Under}
use Rattle.codec.specs.Answers.{number_answer, part_answer, message_type}

-- ONE LINE

-- "our Blank group (barcode string, density u32, sound speed u32, grade enumeration, optional string note)", "these five in this order, none a sequence and
-- only the last optional": type, optional, sequence of each.
abbrev pub Blank : List ℕ
Blank =
    17 ∷ (0 ∷ (0 ∷
    (5 ∷ (0 ∷ (0 ∷
    (5 ∷ (0 ∷ (0 ∷
    (20 ∷ (0 ∷ (0 ∷
    (17 ∷ (1 ∷ (0 ∷ []))))))))))))))

-- A number whose low four bytes are the wire bytes of a u32 or an enumeration; 0 for what is neither.
unfoldable pub word_of : Result Number Fault → ℕ
word_of (Ok (Signed z)) = pattern 63 z
word_of (Ok (Unsigned n)) = n
word_of (Ok (Flag x)) = 0
word_of (Ok (Decimal e m)) = 0
word_of (Ok (Float x)) = 0
word_of (Ok (NanBits n)) = 0
word_of (Err f) = 0

abbrev pub LB : List ℕ
LB = 76 ∷ (66 ∷ [])

-- "mark `LB`, barcode count u8, barcode up to 40 bytes and zeros, density, speed and grade as wire bytes, zeros to 64"
abbrev pub barcode_with : List ℕ → List ℕ
barcode_with barcode = LB ++ (length barcode ∷ (barcode ++ replicate (40 - length barcode) 0))

abbrev pub line_with : List ℕ → List ℕ → List ℕ → List ℕ → List ℕ
line_with barcode density speed grade = barcode_with barcode ++ (density ++ (speed ++ (grade ++ replicate 9 0)))

-- One call: the table, the message, what it is read under, and the type id: "The caller names Blank's type id."
pub record Call : Type 0 where
  pub table : List ℕ
  pub message : List ℕ
  pub reads : Under
  pub blank : ℕ

abbrev pub call : List ℕ → List ℕ → Under → ℕ → Call
call t b u blank = record { table = t; message = b; reads = u; blank = blank }

-- What is read of the message: field 0 as bytes, and a number's wire bytes.
abbrev pub barcode_of : Call → List ℕ
barcode_of c = bytes_in c.message (part_answer c.table c.message c.reads 0 0)

abbrev pub field_of : Call → ℕ → List ℕ
field_of c n = bytes_of 4 (word_of (number_answer c.table c.message c.reads n 0))

-- A refusal, or the line.
pub data Line : Type 0 where
  unfit : ℕ → ℕ → Line
  line : List ℕ → Line

-- "a barcode of 0 or over 40 bytes (55)"
unfoldable pub line_from : List ℕ → List ℕ → List ℕ → List ℕ → Line
line_from barcode density speed grade = need (leb 1 (length barcode) && leb (length barcode) 40) (unfit 55 0) (line (line_with barcode density speed grade))

-- "A refused message (its own number), another type or one whose fields aren't these five .. (54)"
unfoldable pub line_under : Call → Result ℕ Fault → Line
line_under c (Err f) = unfit f.number f.place
line_under c (Ok id) = need (eqb id c.blank && has_fields c.table c.blank Blank) (unfit 54 0) (line_from (barcode_of c) (field_of c 1) (field_of c 2) (field_of c 3))

unfoldable pub line_of : Call → Line
line_of c = line_under c (message_type c.table c.message c.reads)

-- THE LEDGER

-- The ledger's bytes, and how many of them are filled.
pub record Ledger : Type 0 where
  pub bytes : List ℕ
  pub fill : ℕ

abbrev pub lines : List ℕ → ℕ → Ledger
lines b f = record { bytes = b; fill = f }

-- "Under 64 bytes free (none, if the fill is past the end) is 56, tested last, same effect."
unfoldable pub enters : Ledger → Line → Result ℕ Fault
enters s (unfit n p) = Err (fault_at n p)
enters s (line x) = need (leb (s.fill + 64) (length s.bytes)) (Err (fault_at 56 0)) (Ok (s.fill + 64))

-- The ledger afterwards: "makes no line and leaves the ledger as it was" on any refusal.
unfoldable pub entered : Ledger → Line → Ledger
entered s (unfit n p) = s
entered s (line x) = need (leb (s.fill + 64) (length s.bytes)) s (lines (splice 64 s.fill x s.bytes) (s.fill + 64))

-- Both: the answer r, and the bytes that are left.
abbrev pub Enters : Ledger → Line → Result ℕ Fault → List ℕ → Type 0
Enters s x r left = (r ≡ enters s x) × (left ≡ (entered s x).bytes)

-- A RUN OF CALLS
-- "over any run of calls, each given ledger and fill as the last left them"

unfoldable pub run : Ledger → List Call → Ledger
run s [] = s
run s (c ∷ cs) = run (entered s (line_of c)) cs

-- The lines "of the messages that none of these refuse, in order".
unfoldable pub with_line : Line → List (List ℕ) → List (List ℕ)
with_line (unfit n p) ls = ls
with_line (line x) ls = x ∷ ls

unfoldable pub lines_of : List Call → List (List ℕ)
lines_of [] = []
lines_of (c ∷ cs) = with_line (line_of c) (lines_of cs)

-- ".. up to the first 56": as many as there is room for, one behind the other.
unfoldable pub kept : ℕ → List (List ℕ) → List ℕ
kept room [] = []
kept room (x ∷ ls) = need (leb 64 room) [] (x ++ kept (room - 64) ls)
