-- What document 02's requests say of the questions, beyond the demands.
use Rattle.std.specs.Prelude.{Ok, ℕ, ◌+◌, ◌<◌, ◌≤◌, ◌≡◌, true, List, [], length}
use Rattle.schema.specs.Schema.{Field, kind_width, fields_of, width, find, under}
use Rattle.schema.specs.Table.{schema, table_verdict}
use Rattle.schema.specs.Forms.{Alike}
use Rattle.fields.specs.Fields.{field_shape, has_fields}
use Rattle.settings.specs.Store.{store_verdict, governing}
use Rattle.message.specs.Walk.{done}
use Rattle.meaning.specs.Conforms.{type_id}
use Rattle.meaning.specs.Ignorable.{SameValues}
use Rattle.reading.specs.Item.{item, item_from, item_of}
use Rattle.reading.specs.Listed.{Listed}
use Rattle.reading.specs.Number.{number_at}
use Rattle.reading.specs.Part.{part_at}
use Rattle.sheet.specs.Rewritten.{Rooms}
use Rattle.codec.specs.Demands.{Means}
use Rattle.opening.specs.Opening.{Under, message_reading, message_verdict, scratch_after}
use Rattle.codec.specs.Answers.{to_sheet, to_message, rewriting, number_answer, part_answer, bytes_verdict, message_type, front_answer}

-- The group of the message b is a, or has a above it.
abbrev pub Below : List ℕ → List ℕ → ℕ → Type 0
Below t b a = let g = find (schema t) (type_id b) in under (schema t) g a g ≡ true

-- Request 5, "One table did not, and we read density as speed": where a has a field n, reading field n of b reads that field, at its place.
pub record Supers (t b : List ℕ) : Type 0 where
  pub same_item : (a : ℕ) → Below t b a → (n i : ℕ) → n < length (fields_of (schema t) a) → item_of (schema t) b n i ≡ item_from (width (schema t) 4) (fields_of (schema t) a) b 16 n i

-- Request 8, "The sheet, rewriting and every message answer are the same": each public question's answer, whatever bytes and rooms it is given, and
-- what it leaves in lent bytes, which the same definitions say.
pub record SameAnswers (t u : List ℕ) : Type 0 where
  pub reading : (b : List ℕ) (x : Under) → message_reading t b x ≡ message_reading u b x
  pub check : (b : List ℕ) (x : Under) → message_verdict t b x ≡ message_verdict u b x
  pub scratch : (st b s : List ℕ) → scratch_after t st b s ≡ scratch_after u st b s
  pub sheet : (b : List ℕ) (x : Under) (room : ℕ) → to_sheet t b x room ≡ to_sheet u b x room
  pub message : (s : List ℕ) (room : ℕ) → to_message t s room ≡ to_message u s room
  pub rewrite : (b st : List ℕ) (c : ℕ) (r : Rooms) → rewriting t b st c r ≡ rewriting u b st c r
  pub number : (b : List ℕ) (x : Under) (f i : ℕ) → number_answer t b x f i ≡ number_answer u b x f i
  pub bytes : (b : List ℕ) (x : Under) (f i : ℕ) → part_answer t b x f i ≡ part_answer u b x f i
  pub bytes-verdict : (b : List ℕ) (x : Under) (f i : ℕ) → bytes_verdict t b x f i ≡ bytes_verdict u b x f i
  pub shape : (id n : ℕ) → field_shape t id n ≡ field_shape u id n
  pub fields : (id : ℕ) (signature : List ℕ) → has_fields t id signature ≡ has_fields u id signature
  pub type : (b : List ℕ) (x : Under) → message_type t b x ≡ message_type u b x
  pub front : (b : List ℕ) (x : Under) (id : ℕ) (signature : List ℕ) → front_answer t b x id signature ≡ front_answer u b x id signature

-- Request 10, "The crate sees only what the lower one states": what it may take of a message b that has the sheet s.
pub record Reads (t b : List ℕ) (u : Under) (s : List ℕ) : Type 0 where
  pub table : table_verdict t ≡ Ok tt
  pub type : message_type t b u ≡ Ok (type_id b)
  pub number : (n i : ℕ) → number_answer t b u n i ≡ number_at b (item_of (schema t) b n i)
  pub bytes : (n i : ℕ) → part_answer t b u n i ≡ part_at b (item_of (schema t) b n i)
  -- what is read lies in the message, and is what the sheet lists at its place
  pub inside : (n i : ℕ) (f : Field) (p : ℕ) → item_of (schema t) b n i ≡ item f p → p + kind_width (width (schema t) 4) f.kind ≤ length b
  pub listed : (n i : ℕ) (f : Field) (p : ℕ) → item_of (schema t) b n i ≡ item f p → Listed (governing u.store u.customer) (schema t) b s n i f p

pub record Claims : Type 0 where
  pub supers : (t b : List ℕ) → table_verdict t ≡ Ok tt → Supers t b
  -- request 7, "An ignored byte doesn't reach the sheet": two accepted messages that differ only in bytes of absent fields, pads and unused inline bytes
  -- have the same sheet, whatever settings each is accepted under
  pub ignored : (t st st' b d s s' : List ℕ) (c c' : ℕ) → table_verdict t ≡ Ok tt → store_verdict st ≡ Ok tt → store_verdict st' ≡ Ok tt
      → Means t st c b s → Means t st' c' d s' → SameValues (schema t) b d → s ≡ s'
  -- "for two accepted tables, `GR` and `GW`, alike but for marks and widths"
  pub forms : (t u : List ℕ) → table_verdict t ≡ Ok tt → table_verdict u ≡ Ok tt → Alike t u → SameAnswers t u
  pub reads : (t b : List ℕ) (u : Under) (s : List ℕ) → message_reading t b u ≡ done s [] → Reads t b u s
  -- a part that is handed out is a part of the message
  pub part-inside : (t b : List ℕ) (u : Under) (f i p n : ℕ) → part_answer t b u f i ≡ Ok (record { start = p; length = n }) → p + n ≤ length b
