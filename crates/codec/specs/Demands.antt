-- The request's demands, sentence by sentence, over the definitions that the public questions' contracts cite (Answers.antt).
-- proofs/Demands.antt shows each of them of every accepted table.
use Rattle.schema.specs.Faults.{fault_at}
use Rattle.std.specs.Prelude.{Ok, Err, ◌≡◌, ◌↔◌, List, [], ℕ, ◌+◌, ◌*◌, ◌≤◌, length, take}
use Rattle.wire.specs.Bytes.{le}
use Rattle.schema.specs.Schema.{Field}
use Rattle.schema.specs.Table.{schema, table_verdict}
use Rattle.fields.specs.Fields.{field_shape}
use Rattle.settings.specs.Store.{store_verdict, governing, setting_at, add_verdict}
use Rattle.message.specs.Walk.{done}
use Rattle.meaning.specs.Conforms.{Conforms}
use Rattle.meaning.specs.Lists.{sheet_of}
use Rattle.meaning.specs.Packed.{Packed, Unheld}
use Rattle.reading.specs.Item.{item, item_of}
use Rattle.reading.specs.Listed.{Listed, OwnCases}
use Rattle.reading.specs.Number.{number_at}
use Rattle.reading.specs.Part.{part_at, bytes_in}
use Rattle.sheet.specs.Written.{stopped, wrote, sheet_w}
use Rattle.sheet.specs.Rewritten.{Rooms, Enough}
use Rattle.opening.specs.Opening.{Under, under, message_reading, message_verdict}
use Rattle.codec.specs.Answers.{room_after, to_sheet, to_message, rewriting, number_answer, part_answer, bytes_verdict, message_type, front_answer}

-- DEMAND 1
-- "Any bytes may arrive as message, schema table or value sheet. Every public question answers or refuses with the first number and place that
-- document 01's order gives": that is the contracts of src/lib.rt, which have no premise and are equations with Answers.antt.

-- No refusal has the number 0, which for C is acceptance: of every public question.
pub record Numbered (t b s : List ℕ) (u : Under) : Type 0 where
  pub table : (p : ℕ) → table_verdict t ≡ Err (fault_at 0 p) → ⊥
  pub store : (p : ℕ) → store_verdict u.store ≡ Err (fault_at 0 p) → ⊥
  pub settings : (c v p : ℕ) → setting_at u.store c v ≡ Err (fault_at 0 p) → ⊥
  pub addition : (c v absent pads unused p : ℕ) → add_verdict u.store c v absent pads unused ≡ Err (fault_at 0 p) → ⊥
  pub message : (p : ℕ) → message_verdict t b u ≡ Err (fault_at 0 p) → ⊥
  pub number : (field item p : ℕ) → number_answer t b u field item ≡ Err (fault_at 0 p) → ⊥
  pub bytes : (field item p : ℕ) → bytes_verdict t b u field item ≡ Err (fault_at 0 p) → ⊥
  pub span : (field item p : ℕ) → part_answer t b u field item ≡ Err (fault_at 0 p) → ⊥
  pub shape : (id n p : ℕ) → field_shape t id n ≡ Err (fault_at 0 p) → ⊥
  pub type : (p : ℕ) → message_type t b u ≡ Err (fault_at 0 p) → ⊥
  pub front : (id : ℕ) (signature : List ℕ) (p : ℕ) → front_answer t b u id signature ≡ Err (fault_at 0 p) → ⊥
  pub to-sheet : (room p : ℕ) → to_sheet t b u room ≡ stopped 0 p → ⊥
  pub to-message : (room p : ℕ) → to_message t s room ≡ stopped 0 p → ⊥
  pub rewrite : (rooms : Rooms) (p : ℕ) → rewriting t b u.store u.customer rooms ≡ stopped 0 p → ⊥

-- "A refusal hands out no field, and writes nothing but the working room that document 01 names": of any table t, message b, sheet s.
pub record Demand1 (t b s : List ℕ) (u : Under) : Type 0 where
  pub no_number : (n p : ℕ) → message_verdict t b u ≡ Err (fault_at n p) → (field item : ℕ) → number_answer t b u field item ≡ Err (fault_at n p)
  pub no_bytes : (field item n p : ℕ) → bytes_verdict t b u field item ≡ Err (fault_at n p) → bytes_in b (part_answer t b u field item) ≡ []
  pub no-sheet : (n p : ℕ) (room : List ℕ) → to_sheet t b u (length room) ≡ stopped n p → room_after (to_sheet t b u (length room)) room ≡ room
  pub no-message : (n p : ℕ) (output : List ℕ) → to_message t s (length output) ≡ stopped n p → room_after (to_message t s (length output)) output ≡ output
  pub no-rewriting : (st : List ℕ) (c n p : ℕ) (rooms : Rooms) (output : List ℕ) → rewriting t b st c rooms ≡ stopped n p → room_after (rewriting t b st c rooms) output ≡ output
  pub numbered : Numbered t b s u
  -- "Rewriting checks the message, then 46, then 47": it is refused as the sheet is, and by 47 alone once the sheet is written
  pub as-the-sheet : (st : List ℕ) (c n p : ℕ) (rooms : Rooms) → to_sheet t b (under st c rooms.scratch) rooms.sheet ≡ stopped n p → rewriting t b st c rooms ≡ stopped n p
  pub then-room : (st : List ℕ) (c n p : ℕ) (rooms : Rooms) (s' D r : List ℕ) → to_sheet t b (under st c rooms.scratch) rooms.sheet ≡ wrote s' D r
      → rewriting t b st c rooms ≡ stopped n p → (n ≡ 47) × (p ≡ 0)

-- WORDS OF THE DEMANDS 2 AND 3

-- The message b is accepted under the table t and the settings of customer c in the store st, with any "scratch at least as long as the message", and s is
-- its sheet.
abbrev pub Means : List ℕ → List ℕ → ℕ → List ℕ → List ℕ → Type 0
Means t st c b s = (scratch : ℕ) → length b ≤ scratch → message_reading t b (under st c scratch) ≡ done s []

-- "Every sheet that document 01 allows": none of the sheet faults 40 to 45, 1, 2, 25, 24, 7 and 9 to 12. The message that the writing order makes of it is X.
abbrev pub Makes : List ℕ → List ℕ → List ℕ → Type 0
Makes t s X = sheet_w (schema t) s ≡ wrote X [] []

-- DEMAND 2

-- "demand 2 needs a store that passes and leaves the ignored rules out": under the settings of customer c in the store st.
pub record Demand2 (t st : List ℕ) (c : ℕ) : Type 0 where
  -- "Under an accepted table, and with scratch as long as the message, a message is accepted exactly when it meets all strong and weak constraints of
  -- Blink Native beta4 as document 01 reads them, and its house rules"
  pub accepted-exactly : (b : List ℕ) (scratch : ℕ) → length b ≤ scratch → (message_verdict t b (under st c scratch) ≡ Ok tt) ↔ Conforms (governing st c) (schema t) b
  -- "and its sheet then lists its values exactly": there is one, it is a record for each value that Conforms judges, in their order, and nothing else,
  -- and it is written wherever there is room for it
  pub sheet : (b : List ℕ) (scratch : ℕ) → length b ≤ scratch → message_verdict t b (under st c scratch) ≡ Ok tt → (s : List ℕ) × Means t st c b s
  pub lists : (b s : List ℕ) → Means t st c b s → s ≡ sheet_of (schema t) b
  pub sheet-written : (b s : List ℕ) → Means t st c b s → (scratch room : ℕ) → length b ≤ scratch → length s ≤ room → to_sheet t b (under st c scratch) room ≡ wrote s [] []
  pub sheet-short : (b s : List ℕ) → Means t st c b s → length s ≤ 11 * length b
  -- What is read of a field is the value that is listed at its place, and where nothing is read there is none: "28 no such field, 29 absent, 28 no such item".
  pub listed : (b s : List ℕ) → Means t st c b s → (n i : ℕ) (f : Field) (p : ℕ) → item_of (schema t) b n i ≡ item f p → Listed (governing st c) (schema t) b s n i f p
  pub unlisted : (b : List ℕ) (n i : ℕ) → OwnCases (schema t) b n i
  pub answers : (b s : List ℕ) → Means t st c b s → (scratch : ℕ) → length b ≤ scratch → (n i : ℕ)
      → (number_answer t b (under st c scratch) n i ≡ number_at b (item_of (schema t) b n i)) × (part_answer t b (under st c scratch) n i ≡ part_at b (item_of (schema t) b n i))
  -- "Every sheet that document 01 allows is written as a message that reads back as that sheet, or refused for room."
  pub reads-back : (s X Y r : List ℕ) (room : ℕ) → to_message t s room ≡ wrote X Y r → (length X ≤ room) × Means t st c X s
  pub only-room : (s X : List ℕ) → Makes t s X → (room n p : ℕ) → to_message t s room ≡ stopped n p → (n ≡ 47) × (p ≡ 0)
  -- "It is refused for room exactly if no accepted message with that sheet fits the room."
  pub room-exactly : (s X : List ℕ) → Makes t s X → (room : ℕ) → (to_message t s room ≡ stopped 47 0) ↔ ((d : List ℕ) → Means t st c d s → length d ≤ room → ⊥)
  -- every accepted message's sheet is allowed, and two different sheets are never written as the same message
  pub allowed : (b s : List ℕ) → Means t st c b s → (X : List ℕ) × Makes t s X
  pub read-one-way : (s s' X Y Y' r r' : List ℕ) (room room' : ℕ) → to_message t s room ≡ wrote X Y r → to_message t s' room' ≡ wrote X Y' r' → s ≡ s'

-- DEMAND 3

-- "Take any accepted table and any messages A and B accepted under it. Each rewriting has scratch at least as long as its message, sheet room at least
-- eleven times that long and output at least that long, whatever stood in them before." Of the message a with the sheet s:
pub record OneForm (t st : List ℕ) (c : ℕ) (a s : List ℕ) : Type 0 where
  pub form : List ℕ
  -- "Then rewriting A succeeds": it stands at the start of the output, as long as 4 + its size word
  pub succeeds : (rooms : Rooms) → Enough rooms a → rewriting t a st c rooms ≡ wrote form [] []
  pub stands : (rooms : Rooms) → Enough rooms a → (output : List ℕ) → length output ≡ rooms.output → take (length form) (room_after (rewriting t a st c rooms) output) ≡ form
  pub size : length form ≡ 4 + le (take 4 form)
  -- "and gives the message that document 01's writing order makes of A's sheet."
  pub in_order : Makes t s form
  -- the same with no word of the writer: in every group of it the values stand one straight behind the other, in their order
  pub packed : Packed (schema t) form
  -- "The rewritten A is accepted under the same table, and its sheet equals A's."
  pub keeps : Means t st c form s
  -- request 7: "the rewritten message is accepted with nothing ignored", and under every other setting
  pub keeps-strictly : Means t [] 0 form s
  pub keeps-anywhere : (st' : List ℕ) (c' : ℕ) → store_verdict st' ≡ Ok tt → Means t st' c' form s
  -- "Rewriting it succeeds too and gives the same bytes again."
  pub again : (rooms : Rooms) → Enough rooms form → rewriting t form st c rooms ≡ wrote form [] []
  -- "Every message accepted under this table whose sheet equals A's, A among them, has at least as many bytes as the rewritten A."
  pub least : (d : List ℕ) → Means t st c d s → length form ≤ length d

-- "Under any one setting demand 3 holds as written over what that setting accepts".
pub record Demand3 (t st : List ℕ) (c : ℕ) : Type 0 where
  pub one_form : (a s : List ℕ) → Means t st c a s → OneForm t st c a s
  -- "A and B rewrite to equal bytes exactly when their sheets are equal."
  pub same-form : (a b s s' : List ℕ) (A : Means t st c a s) (B : Means t st c b s') → ((one_form a s A).form ≡ (one_form b s' B).form) ↔ (s ≡ s')
  -- "Rewriting that copies its input fails demand 3 on any padded message"
  pub never-copied : (a s : List ℕ) (A : Means t st c a s) (i : ℕ) → Unheld (schema t) a i → (one_form a s A).form ≡ a → ⊥

-- Demand 1 of all bytes; the others of every accepted table, and every customer of a store that passes.
pub record Demands : Type 0 where
  pub first : (t b s : List ℕ) (u : Under) → Demand1 t b s u
  pub second : (t st : List ℕ) (c : ℕ) → table_verdict t ≡ Ok tt → store_verdict st ≡ Ok tt → Demand2 t st c
  pub third : (t st : List ℕ) (c : ℕ) → table_verdict t ≡ Ok tt → store_verdict st ≡ Ok tt → Demand3 t st c
