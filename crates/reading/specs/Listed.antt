-- What is read is the value that the message lists at the item's place: "and its sheet then lists its values exactly".
-- "A reading names a field of the message's group and an item (0 unless a sequence)."
use Rattle.std.specs.Prelude.{Ok, ◌≡◌, true, false, cond, List, [], ◌∷◌, ◌++◌, ℕ, zero, suc, ◌+◌, ◌≤◌, ◌<◌, length, take, drop}
use Rattle.wire.specs.Bytes.{part, bytes_of}
use Rattle.schema.specs.Schema.{Kind, plain, inline, indirect, static, dynamic, member, Field, Group, kind_width, value_width, field_width, fields_of, width, find}
use Rattle.settings.specs.declared.Ignored.{Ignored}
use Rattle.message.specs.Sheet.{VA, ST, SG, GB, mark_bytes, NO, GE}
use Rattle.message.specs.Walk.{byte, done, walk}
use Rattle.meaning.specs.Conforms.{Value, number, presence, inline_text, text, list, group, extension, extending, subgroup, Values, target, count_at, items_v, kind_v, field_v, fields_v, static_v, values_of, type_id}
use Rattle.meaning.specs.Lists.{record_of, records, group_records}
use Rattle.reading.specs.Item.{Item, missing, item, absent, value_place, item_of}
use Rattle.reading.specs.Number.{number_types, number_of, number_at}
use Rattle.reading.specs.Part.{part_at, bytes_in, verdict_of}

-- THE VALUES BEFORE AN ITEM

-- Of the value at `at`: where it is a sequence, that one and its first i items'.
unfoldable pub value_before : (ℕ → ℕ) → (ℕ → Values) → Field → ℕ → Values
value_before sw S f i b at =
    cond f.sequence (list (kind_width sw f.kind) at ∷ items_v (kind_width sw f.kind) (kind_v S f.kind) i b (target b at + 4)) []

-- Of the field at `at`: an optional field's flag comes first.
unfoldable pub field_before : (ℕ → ℕ) → (ℕ → Values) → Field → ℕ → Values
field_before sw S f i b at = cond f.optional (presence (value_width sw f) at ∷ value_before sw S f i b (at + 1)) (value_before sw S f i b at)

-- Of field n of those from `at` on: all values of the fields before it.
unfoldable pub fields_before : (ℕ → ℕ) → (ℕ → Values) → List Field → ℕ → ℕ → Values
fields_before sw S [] n i b at = []
fields_before sw S (f ∷ fs) zero i b at = field_before sw S f i b at
fields_before sw S (f ∷ fs) (suc n) i b at = field_v sw S f b at ++ fields_before sw S fs n i b (at + field_width sw f)

-- Item i of field n of the message b.
abbrev pub values_before : List Group → List ℕ → ℕ → ℕ → List Value
values_before gs b n i = fields_before (width gs 4) (static_v gs 4) (fields_of gs (find gs (type_id b))) n i b 16

-- THE ITEM'S OWN VALUE

-- Of this kind, at p. A static group's own values come behind it.
unfoldable pub item_value : Kind → ℕ → Value
item_value (plain w t) p = number w t p
item_value (inline u c) p = inline_text u c p
item_value (indirect u) p = text u p
item_value (static g) p = subgroup
item_value (dynamic g) p = group g p

-- The bytes that it is made of: "without the count for 17 and 18, for a dynamic group with its size word".
unfoldable pub contents : List ℕ → Value → List ℕ
contents b (number w t at) = part w at b
contents b (presence w at) = []
contents b (inline_text u c at) = part (byte at b) (at + 1) b
contents b (text u at) = part (count_at b at) (target b at + 4) b
contents b (list w at) = []
contents b (group g at) = part (4 + count_at b at) (target b at) b
contents b (extension at) = []
contents b (extending at) = []
contents b subgroup = []

-- "`VA` and the wire bytes", "`ST` count u32 and bytes": what stands before them in its record.
unfoldable pub heading : List ℕ → Kind → ℕ → List ℕ
heading b (plain w t) p = mark_bytes VA
heading b (inline u c) p = mark_bytes ST ++ bytes_of 4 (byte p b)
heading b (indirect u) p = mark_bytes ST ++ part 4 (target b p) b
heading b (static g) p = mark_bytes SG
heading b (dynamic g) p = []

abbrev pub record_in : List Group → List ℕ → Value → List ℕ
record_in gs b v = record_of (group_records gs 7) gs b v

abbrev pub records_in : List Group → List ℕ → List Value → List ℕ
records_in gs b vs = records (group_records gs 7) gs b vs

-- Item i of field n of the message b, whose sheet is s where y is ignored, is the value v: of the field f, at p.
pub record ListedAs (y : Ignored) (gs : List Group) (b s : List ℕ) (n i : ℕ) (f : Field) (p : ℕ) (v : Value) : Type 0 where
  pub within : List Value
  pub behind : List Value
  -- it is of the field's kind; a static group's own values come behind it
  pub own : kind_v (static_v gs 4) f.kind b p ≡ v ∷ within
  -- its place in the list, and its record's in the sheet
  pub place : values_of gs (find gs (type_id b)) b ≡ values_before gs b n i ++ (v ∷ (within ++ behind))
  pub sheet : s ≡ mark_bytes GB ++ (part 8 4 b ++ (records_in gs b (values_before gs b n i) ++ (record_in gs b v ++ (records_in gs b (within ++ behind) ++ GE))))
  -- what is read of it is the bytes that it is made of, and so is its record
  pub number : member f.type number_types ≡ true → number_at b (item f p) ≡ number_of f.type (contents b v)
  pub bytes : verdict_of (part_at b (item f p)) ≡ Ok tt → bytes_in b (part_at b (item f p)) ≡ contents b v
  pub headed : ((a : ℕ) → f.kind ≡ dynamic a → ⊥) → record_in gs b v ≡ heading b f.kind p ++ contents b v
  -- "so that it is a message too": a dynamic group is accepted, and its record is its own sheet
  pub message : (a : ℕ) → f.kind ≡ dynamic a → (m : List ℕ) × (walk y gs (contents b v) ≡ done (record_in gs b v) m)

abbrev pub Listed : Ignored → List Group → List ℕ → List ℕ → ℕ → ℕ → Field → ℕ → Type 0
Listed y gs b s n i f p = ListedAs y gs b s n i f p (item_value f.kind p)

-- WHICH ITEMS THERE ARE

-- Field n of those from a place on is f, and it lies at `at`.
pub data FieldAt (sw : ℕ → ℕ) : List Field → ℕ → ℕ → Field → ℕ → Type 0 where
  first : {f : Field} {fs : List Field} {at : ℕ} → FieldAt sw (f ∷ fs) at 0 f at
  later : {f g : Field} {fs : List Field} {from n at : ℕ} → FieldAt sw fs (from + field_width sw g) n f at → FieldAt sw (g ∷ fs) from (suc n) f at

-- Of a value at `at`; an item is "0 unless a sequence".
abbrev pub item_count : Field → List ℕ → ℕ → ℕ
item_count f b at = cond f.sequence (count_at b at) 1

-- The item x is read of field n: "28 no such field", "29 absent", "28 no such item", and else it is there. No two of these cases meet.
pub record ItemCases (sw : ℕ → ℕ) (S : ℕ → Values) (fs : List Field) (b : List ℕ) (from n i : ℕ) (x : Item) : Type 0 where
  pub no_field : length fs ≤ n → x ≡ missing 28
  pub some-field : n < length fs → (f : Field) × (at : ℕ) × FieldAt sw fs from n f at
  pub is-absent : (f : Field) (at : ℕ) → FieldAt sw fs from n f at → absent f b at ≡ true → x ≡ missing 29
  pub no_item : (f : Field) (at : ℕ) → FieldAt sw fs from n f at → absent f b at ≡ false → item_count f b (value_place f at) ≤ i → x ≡ missing 28
  pub is-there : (f : Field) (at : ℕ) → FieldAt sw fs from n f at → absent f b at ≡ false → i < item_count f b (value_place f at) → (p : ℕ) × (x ≡ item f p)
  -- all that is listed of an absent field is its flag, whose record is `NO`
  pub flag-only : (f : Field) (at : ℕ) → FieldAt sw fs from n f at → absent f b at ≡ true
      → fields_v sw S fs b from ≡ fields_v sw S (take n fs) b from ++ (presence (value_width sw f) at ∷ fields_v sw S (drop (suc n) fs) b (at + field_width sw f))
  pub flag-record : (G : List ℕ → List ℕ) (gs : List Group) (f : Field) (at w : ℕ) → absent f b at ≡ true → record_of G gs b (presence w at) ≡ NO

-- Of the message b.
abbrev pub OwnCases : List Group → List ℕ → ℕ → ℕ → Type 0
OwnCases gs b n i = ItemCases (width gs 4) (static_v gs 4) (fields_of gs (find gs (type_id b))) b 16 n i (item_of gs b n i)
