-- What the public questions answer, for every list of bytes, and what they leave in lent bytes.
use Rattle.schema.specs.declared.Fault.{Fault}
use Rattle.std.specs.Prelude.{Ok, Err, Some, None, Result, Option, ◌≡◌, Bool, ◌&&◌, List, [], ℕ, ◌≤◌, length, eqb}
use Rattle.wire.specs.Bytes.{splice}
use Rattle.schema.specs.Faults.{Verdict, fault_at, need, also}
use Rattle.schema.specs.Schema.{Group}
use Rattle.schema.specs.Table.{schema, table_verdict}
use Rattle.fields.specs.Fields.{has_under, has_fields}
use Rattle.meaning.specs.Conforms.{type_id}
use Rattle.reading.specs.declared.Number.{Number}
use Rattle.reading.specs.declared.Part.{Part}
use Rattle.reading.specs.Item.{item_of}
use Rattle.reading.specs.Number.{number_at}
use Rattle.reading.specs.Part.{part_at}
use Rattle.reading.specs.Part as part
use Rattle.parsing.specs.Count.{capped}
use Rattle.sheet.specs.Written.{Writing, stopped, wrote, sheet_w, written}
use Rattle.sheet.specs.Rewritten.{Rooms, sheet_in, onward}
use Rattle.opening.specs.Opening.{accepted, Under, under, message_reading, message_verdict}
use Rattle.codec.specs.declared.Front.{Front}

-- MESSAGE TO SHEET

-- What a question that writes answers.
unfoldable pub written_of : Writing → Result ℕ Fault
written_of (stopped n p) = Err (fault_at n p)
written_of (wrote X D r) = Ok (length X)

-- A room that is written to, afterwards: untouched on a refusal; else "its first bytes", and behind them what stood there.
unfoldable pub room_after : Writing → List ℕ → List ℕ
room_after (stopped n p) room = room
room_after (wrote X D r) room = splice (length X) 0 X room

-- Both: the answer r, and what was in the room before and is left there.
abbrev pub Writes : Writing → Result ℕ Fault → List ℕ → List ℕ → Type 0
Writes x r before left = (r ≡ written_of x) × (left ≡ room_after x before)

-- The sheet of the message b, for a room of this length.
unfoldable pub to_sheet : List ℕ → List ℕ → Under → ℕ → Writing
to_sheet t b u room = sheet_in room (message_reading t b u)

-- SHEET TO MESSAGE, AND REWRITING

-- The message of the sheet s, for an output of this length: "20 first (place 0)".
unfoldable pub to_message : List ℕ → List ℕ → ℕ → Writing
to_message t s room = need (accepted (table_verdict t)) (stopped 20 0) (written (schema t) room s)

-- What the sheet's check finds of a sheet s without a fault: the message X that it makes, of n bytes. A count above 65,536 stops at 65,537.
pub record Allowed (gs : List Group) (s : List ℕ) (n : ℕ) : Type 0 where
  pub message : List ℕ
  pub makes : sheet_w gs s ≡ wrote message [] []
  pub long : capped (length message) ≡ n

-- An allowed sheet s, whose message X has at most n bytes, where n is a message's length.
pub record Within (gs : List Group) (s : List ℕ) (n : ℕ) : Type 0 where
  pub message : List ℕ
  pub makes : sheet_w gs s ≡ wrote message [] []
  pub most : length message ≤ n
  pub small : n ≤ 65536

abbrev pub rooms : List ℕ → List ℕ → List ℕ → Rooms
rooms scratch sheet output = record { scratch = length scratch; sheet = length sheet; output = length output }

-- "Rewriting checks the message, then 46, then 47."
unfoldable pub rewriting : List ℕ → List ℕ → List ℕ → ℕ → Rooms → Writing
rewriting t b st c r = onward (schema t) r.output (to_sheet t b (under st c r.scratch) r.sheet)

-- READING ONE FIELD
-- "After the message's own faults: 28 no such field, 29 absent, 28 no such item, 48 other kind (each at place 0)."

-- Item i of field f, as a number.
unfoldable pub number_answer : List ℕ → List ℕ → Under → ℕ → ℕ → Result Number Fault
number_answer t b u f i = also (message_verdict t b u) (number_at b (item_of (schema t) b f i))

-- Item i of field f, as a part of the message: where it lies. "On any refusal it is the empty part, and a twin question gives the number."
unfoldable pub part_answer : List ℕ → List ℕ → Under → ℕ → ℕ → Result Part Fault
part_answer t b u f i = also (message_verdict t b u) (part_at b (item_of (schema t) b f i))

unfoldable pub bytes_verdict : List ℕ → List ℕ → Under → ℕ → ℕ → Verdict
bytes_verdict t b u f i = also (message_verdict t b u) (part.verdict_of (part_at b (item_of (schema t) b f i)))

-- THE TYPE OF A MESSAGE, AND ITS FIRST FIELDS
-- For crates above: document 02, request 10, "The crate sees only what the lower one states."

-- The type id of the message b, or its first fault.
unfoldable pub message_type : List ℕ → List ℕ → Under → Result ℕ Fault
message_type t b u = also (message_verdict t b u) (Ok (type_id b))

-- What the separate questions answer of a message of this type whose group has these fields (`has`): its first field as bytes, the next three as numbers.
unfoldable pub front_under : Result ℕ Fault → ℕ → Bool → Result Part Fault → Result Number Fault → Result Number Fault → Result Number Fault → Result (Option Front) Fault
front_under (Err f) id has x y z w = Err f
front_under (Ok k) id has x y z w = need (eqb k id && has) (Ok None) (Ok (Some (record { first = x; second = y; third = z; fourth = w })))

unfoldable pub front_answer : List ℕ → List ℕ → Under → ℕ → List ℕ → Result (Option Front) Fault
front_answer t b u id signature =
    front_under (message_type t b u) id (has_fields t id signature) (part_answer t b u 0 0) (number_answer t b u 1 0) (number_answer t b u 2 0) (number_answer t b u 3 0)

-- The same of an accepted message.
unfoldable pub front_in : List Group → List ℕ → ℕ → List ℕ → Result (Option Front) Fault
front_in gs b id signature =
    need (eqb (type_id b) id && has_under gs id signature) (Ok None)
    (Ok (Some (record { first = part_at b (item_of gs b 0 0); second = number_at b (item_of gs b 1 0); third = number_at b (item_of gs b 2 0); fourth = number_at b (item_of gs b 3 0) })))
