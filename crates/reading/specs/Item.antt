-- Where one value of an accepted message lies.
-- "A reading names a field of the message's group and an item (0 unless a sequence)." Both count from 0.
use Rattle.schema.specs.declared.Fault.{Fault}
use Rattle.std.specs.Prelude.{Ok, Err, Result, ◌≡◌, Bool, not, cond, ◌&&◌, List, [], ◌∷◌, ℕ, zero, suc, ◌+◌, ◌*◌, ◌≤◌, length, drop, ltb, eqb}
use Rattle.schema.specs.Faults.{need}
use Rattle.schema.specs.Schema.{Field, Group, kind_width, field_width, fields_of, width, find}
use Rattle.schema.specs.Table.{field_at, fields_at, enums, schema}
use Rattle.settings.specs.declared.Ignored.{Ignored}
use Rattle.message.specs.Walk.{byte, done, walk}
use Rattle.meaning.specs.Conforms.{target, count_at, type_id}
use Rattle.reading.specs.declared.Located.{Located}

-- "A message is accepted when its check under an accepted table .. gives none": where x is ignored, the walk of b under the table t has a sheet.
abbrev pub Accepted : Ignored → List ℕ → List ℕ → Type 0
Accepted x t b = (s : List ℕ) × (m : List ℕ) × (walk x (schema t) b ≡ done s m)

-- A refusal's number; or the field, and where its item's bytes start.
pub data Item : Type 0 where
  missing : ℕ → Item
  item : Field → ℕ → Item

-- Item i of the sequence whose offset stands at `at`: "28 no such item".
unfoldable pub sequence_item : (ℕ → ℕ) → Field → List ℕ → ℕ → ℕ → Item
sequence_item sw f b at i = need (ltb i (count_at b at)) (missing 28) (item f (target b at + 4 + i * kind_width sw f.kind))

-- Item i of the field whose value, or offset, stands at `at`.
unfoldable pub value_item : (ℕ → ℕ) → Field → List ℕ → ℕ → ℕ → Item
value_item sw f b at i = cond f.sequence (sequence_item sw f b at i) (need (eqb i 0) (missing 28) (item f at))

-- "an optional field has one flag byte more", which is 0 where the field is absent
unfoldable pub absent : Field → List ℕ → ℕ → Bool
absent f b at = f.optional && eqb (byte at b) 0

unfoldable pub value_place : Field → ℕ → ℕ
value_place f at = cond f.optional (at + 1) at

-- "29 absent, 28 no such item": item i of the field at `at`.
unfoldable pub field_item : (ℕ → ℕ) → Field → List ℕ → ℕ → ℕ → Item
field_item sw f b at i = need (not (absent f b at)) (missing 29) (value_item sw f b (value_place f at) i)

-- "28 no such field": field n of those from `at` on.
unfoldable pub item_from : (ℕ → ℕ) → List Field → List ℕ → ℕ → ℕ → ℕ → Item
item_from sw [] b at n i = missing 28
item_from sw (f ∷ fs) b at zero i = field_item sw f b at i
item_from sw (f ∷ fs) b at (suc n) i = item_from sw fs b (at + field_width sw f) n i

-- Item i of field n of the message b. "Size u32, type id u64, extension offset u32, fields": the first field stands at 16.
unfoldable pub item_of : List Group → List ℕ → ℕ → ℕ → Item
item_of gs b n i = item_from (width gs 4) (fields_of gs (find gs (type_id b))) b 16 n i

-- HOW THE CODE SAYS IT
-- A field is known by its row, which is the place of its record in the table t.

abbrev pub field_in : List ℕ → ℕ → Field
field_in t r = field_at (enums t) (drop r t)

-- The n fields from row r on.
abbrev pub fields_in : List ℕ → ℕ → ℕ → List Field
fields_in t r n = fields_at (enums t) n (drop r t)

unfoldable pub item_in : List ℕ → Result Located Fault → Item
item_in t (Err f) = missing f.number
item_in t (Ok x) = item (field_in t x.row) x.place

abbrev pub Recorded : List ℕ → Result Located Fault → Type 0
Recorded t (Err f) = f.place ≡ 0
Recorded t (Ok x) = x.row + 16 ≤ length t

-- The code's answer is this item, whose field's record is whole.
abbrev pub Finds : List ℕ → Result Located Fault → Item → Type 0
Finds t v x = (item_in t v ≡ x) × Recorded t v
