-- The schema table: its faults in document 01's order, and the schema that it holds.
-- The table (document 01's word for the encoded schema) is records of 16 bytes. What is defined record by record takes what is left of the
-- table's bytes, of which the first 16 are the record at hand, and the number of records left.
use Rattle.std.specs.Prelude.{Ok, Err, ℕ, zero, suc, ◌+◌, ◌-◌, ◌*◌, ◌/◌, ◌%◌, Bool, false, cond, not, ◌&&◌, ◌||◌, List, [], ◌∷◌, length, take, drop, ◌==◌, nat_le, nat_lt, slice_index, slice_index_or}
use Rattle.wire.specs.Bytes.{part, le, same, all_zero}
use Rattle.schema.specs.Faults.{Verdict, fault_at, need, also}
use Rattle.schema.specs.Schema.{Kind, plain, inline, indirect, static, dynamic, any, flag, below, symbol, Field, Group, width, shallow, known}
use Rattle.schema.specs.Symbols.{rank}

-- MARKS

abbrev pub EN : List ℕ
EN = 69 ∷ (78 ∷ [])

abbrev pub SY : List ℕ
SY = 83 ∷ (89 ∷ [])

abbrev pub GR : List ℕ
GR = 71 ∷ (82 ∷ [])

-- Document 02, request 8: "A new group record, mark `GW`, is `GR` with the width in bytes 14-15."
abbrev pub GW : List ℕ
GW = 71 ∷ (87 ∷ [])

abbrev pub FD : List ℕ
FD = 70 ∷ (68 ∷ [])

abbrev pub marked : List ℕ → List ℕ → Bool
marked m t = same (take 2 t) m

-- A group's record has either mark.
unfoldable pub group_marked : List ℕ → Bool
group_marked t = marked GR t || marked GW t

-- THE RECORDS' CONTENTS, BY BYTE

-- `EN`: "2-3 symbol count"
abbrev pub symbol_count : List ℕ → ℕ
symbol_count t = le (part 2 2 t)

-- `SY`: "2-5 value i32"
abbrev pub symbol_value : List ℕ → ℕ
symbol_value t = le (part 4 2 t)

-- `GR` and `GW`: "2-9 type id; 10 has an id; 11-12 super group number plus 1, or 0; 13 field count"
abbrev pub type_id : List ℕ → ℕ
type_id t = le (part 8 2 t)

abbrev pub id_flag : List ℕ → ℕ
id_flag t = slice_index t 10

abbrev pub super_number : List ℕ → ℕ
super_number t = le (part 2 11 t)

abbrev pub field_count : List ℕ → ℕ
field_count t = slice_index t 13

-- `GW`: "the width in bytes 14-15"
abbrev pub stored_width : List ℕ → ℕ
stored_width t = le (part 2 14 t)

-- `FD`: "2 type; 3 optional; 4 sequence; 5 size; 6-7 reference"
abbrev pub field_type : List ℕ → ℕ
field_type t = slice_index t 2

abbrev pub optional_flag : List ℕ → ℕ
optional_flag t = slice_index t 3

abbrev pub sequence_flag : List ℕ → ℕ
sequence_flag t = slice_index t 4

abbrev pub field_size : List ℕ → ℕ
field_size t = slice_index t 5

abbrev pub reference : List ℕ → ℕ
reference t = le (part 2 6 t)

-- THE SCHEMA OF A TABLE

-- "Types and widths in bytes: 1 u8 1, 2 i8 1, 3 u16 2, 4 i16 2, 5 u32 4, 6 i32 4, 7 u64 8, 8 i64 8, 9 f64 8, 10 decimal 9, 11 bool 1, 12 date 4,
-- 13 millitime 8, 14 nanotime 8, 15 time of day in ms 4, 16 in ns 8"; type 0 is none.
abbrev pub scalar_widths : List ℕ
scalar_widths = 1 ∷ (1 ∷ (1 ∷ (2 ∷ (2 ∷ (4 ∷ (4 ∷ (8 ∷ (8 ∷ (8 ∷ (9 ∷ (1 ∷ (4 ∷ (8 ∷ (8 ∷ (4 ∷ (8 ∷ []))))))))))))))))

unfoldable pub scalar_width : ℕ → ℕ
scalar_width n = slice_index_or scalar_widths n 4

-- es: the enumerations' values.
unfoldable pub kind_of : List (List ℕ) → ℕ → ℕ → ℕ → Kind
kind_of es type size ref =
    cond (type == 11) (plain 1 flag)
    (cond (type == 15) (plain 4 (below 86400000))
    (cond (type == 16) (plain 8 (below 86400000000000))
    (cond (nat_le type 16) (plain (scalar_width type) any)
    (cond (type == 17 || type == 18) (cond (size == 0) (indirect (type == 17)) (inline (type == 17) size))
    (cond (type == 19) (plain size any)
    (cond (type == 20) (plain 4 (symbol (slice_index_or es ref [])))
    (cond (type == 21) (static ref)
    (cond (type == 22) (dynamic (ref + 1)) (dynamic 0)))))))))

unfoldable pub field_at : List (List ℕ) → List ℕ → Field
field_at es t = record { type = field_type t; kind = kind_of es (field_type t) (field_size t) (reference t); optional = optional_flag t == 1; sequence = sequence_flag t == 1 }

-- The fields of the next n records.
unfoldable pub fields_at : List (List ℕ) → ℕ → List ℕ → List Field
fields_at es zero t = []
fields_at es (suc n) t = field_at es t ∷ fields_at es n (drop 16 t)

-- The values of the next n records.
unfoldable pub values_at : ℕ → List ℕ → List ℕ
values_at zero t = []
values_at (suc n) t = symbol_value t ∷ values_at n (drop 16 t)

-- The group whose record stands first: its fields are the records behind it.
unfoldable pub group_at : List (List ℕ) → List ℕ → Group
group_at es t = record { has_id = id_flag t == 1; id = type_id t; super = super_number t; fields = fields_at es (field_count t) (drop 16 t) }

-- "each kind is numbered from 0": the enumerations, the groups and the groups' places, of n records.
unfoldable pub enums_from : ℕ → List ℕ → List (List ℕ)
enums_from zero t = []
enums_from (suc n) t = let rest = enums_from n (drop 16 t) in cond (marked EN t) (values_at (symbol_count t) (drop 16 t) ∷ rest) rest

unfoldable pub groups_from : List (List ℕ) → ℕ → List ℕ → List Group
groups_from es zero t = []
groups_from es (suc n) t = let rest = groups_from es n (drop 16 t) in cond (group_marked t) (group_at es t ∷ rest) rest

unfoldable pub places_from : ℕ → ℕ → List ℕ → List ℕ
places_from zero p t = []
places_from (suc n) p t = let rest = places_from n (p + 16) (drop 16 t) in cond (group_marked t) (p ∷ rest) rest

abbrev pub record_count : List ℕ → ℕ
record_count t = length t / 16

unfoldable pub enums : List ℕ → List (List ℕ)
enums t = enums_from (record_count t) t

unfoldable pub schema : List ℕ → List Group
schema t = groups_from (enums t) (record_count t) t

unfoldable pub places : List ℕ → List ℕ
places t = places_from (record_count t) 0 t

-- 31, RECORD BY RECORD
-- "a mark is not the one due, a record is missing, a count is out of range, or there is a 65th enumeration or group"

-- How many enumerations and groups there were, how many records the last of them still has to come, and whether the groups store their widths.
pub record Due : Type 0 where
  pub enumerations : ℕ
  pub groups : ℕ
  pub owed : ℕ
  pub stored : Bool

-- "First the enumerations, then the groups"
unfoldable pub is_enum : Due → List ℕ → Bool
is_enum d t = d.groups == 0 && marked EN t

abbrev pub group_mark : Bool → List ℕ
group_mark stored = cond stored GW GR

-- "A table has all `GR` or all `GW`; a mix is 31": the first group says which mark is due.
unfoldable pub is_group : Due → List ℕ → Bool
is_group d t = cond (d.groups == 0) (group_marked t) (marked (group_mark d.stored) t)

unfoldable pub is_due : Due → List ℕ → Bool
is_due d t =
    cond (nat_lt 0 d.owed) (marked (cond (d.groups == 0) SY FD) t)
    (cond (is_enum d t) (nat_lt d.enumerations 64 && (nat_le 1 (symbol_count t) && nat_le (symbol_count t) 256))
    (is_group d t && (nat_lt d.groups 64 && nat_le (field_count t) 64)))

unfoldable pub due_after : Due → List ℕ → Due
due_after d t =
    cond (nat_lt 0 d.owed) (record { enumerations = d.enumerations; groups = d.groups; owed = d.owed - 1; stored = d.stored })
    (cond (is_enum d t) (record { enumerations = d.enumerations + 1; groups = d.groups; owed = symbol_count t; stored = d.stored })
    (record { enumerations = d.enumerations; groups = d.groups + 1; owed = field_count t; stored = marked GW t }))

unfoldable pub shape_from : ℕ → Due → ℕ → List ℕ → Verdict
shape_from zero d p t = need (d.owed == 0) (Err (fault_at 31 p)) (Ok tt)
shape_from (suc n) d p t = need (is_due d t) (Err (fault_at 31 p)) (shape_from n (due_after d t) (p + 16) (drop 16 t))

unfoldable pub shape_verdict : List ℕ → Verdict
shape_verdict t = shape_from (record_count t) (record { enumerations = 0; groups = 0; owed = 0; stored = false }) 0 t

-- 32, 33, 34, RECORD BY RECORD

unfoldable pub enum_verdict : ℕ → List ℕ → Verdict
enum_verdict p t = need (all_zero (part 12 4 t)) (Err (fault_at 32 p)) (Ok tt)

-- low: the least rank that rises.
unfoldable pub symbol_verdict : ℕ → ℕ → List ℕ → Verdict
symbol_verdict low p t =
    need (all_zero (part 10 6 t)) (Err (fault_at 32 p))
    (need (nat_le low (rank (symbol_value t))) (Err (fault_at 34 p)) (Ok tt))

-- own: the group's number. Bytes 14-15 are zero, or a stored width.
unfoldable pub group_verdict : List Group → ℕ → ℕ → List ℕ → Verdict
group_verdict gs own p t =
    need (nat_lt (id_flag t) 2 && ((id_flag t == 1 || all_zero (part 8 2 t)) && (marked GW t || all_zero (part 2 14 t)))) (Err (fault_at 32 p))
    (need (nat_le (super_number t) own) (Err (fault_at 33 p))
    (need (not (id_flag t == 1 && known (take own gs) (type_id t))) (Err (fault_at 34 p)) (Ok tt)))

-- "String and binary: size 1..255 is inline, size 0 is indirect. Fixed: size 1..255 is the width. Other types have size 0."
unfoldable pub size_ok : ℕ → ℕ → Bool
size_ok type size =
    cond (type == 17 || type == 18) (nat_le size 255) (cond (type == 19) (nat_le 1 size && nat_le size 255) (size == 0))

-- "Reference: an enumeration for 20; a group for 21 (lower than the group's own number) and 22 (any); else 0."
unfoldable pub reference_ok : ℕ → ℕ → ℕ → ℕ → ℕ → Bool
reference_ok ne ng own type ref =
    cond (type == 20) (nat_lt ref ne) (cond (type == 21) (nat_lt ref own) (cond (type == 22) (nat_lt ref ng) (ref == 0)))

unfoldable pub field_verdict : ℕ → ℕ → ℕ → ℕ → List ℕ → Verdict
field_verdict ne ng own p t =
    need (nat_lt (optional_flag t) 2 && (nat_lt (sequence_flag t) 2 && all_zero (part 8 8 t))) (Err (fault_at 32 p))
    (need (nat_le 1 (field_type t) && (nat_le (field_type t) 23 && (size_ok (field_type t) (field_size t) && reference_ok ne ng own (field_type t) (reference t))))
    (Err (fault_at 33 p)) (Ok tt))

-- next: the number of groups before this record, so that a field's own group is the one before; low: see symbol_verdict.
unfoldable pub record_verdict : ℕ → List Group → ℕ → ℕ → ℕ → List ℕ → Verdict
record_verdict ne gs next low p t =
    cond (marked FD t) (field_verdict ne (length gs) (next - 1) p t)
    (cond (marked SY t) (symbol_verdict low p t)
    (cond (group_marked t) (group_verdict gs next p t)
    (enum_verdict p t)))

unfoldable pub records_from : ℕ → List Group → ℕ → ℕ → ℕ → ℕ → List ℕ → Verdict
records_from ne gs zero next low p t = Ok tt
records_from ne gs (suc n) next low p t =
    also (record_verdict ne gs next low p t)
    (records_from ne gs n (cond (group_marked t) (next + 1) next) (cond (marked SY t) (rank (symbol_value t) + 1) 0) (p + 16) (drop 16 t))

unfoldable pub records_verdict : List ℕ → Verdict
records_verdict t = records_from (length (enums t)) (schema t) (record_count t) 0 0 0 t

-- 34 FOR NO ID

unfoldable pub any_id : List Group → Bool
any_id [] = false
any_id (g ∷ gs) = g.has_id || any_id gs

unfoldable pub id_verdict : List ℕ → Verdict
id_verdict t = need (any_id (schema t)) (Err (fault_at 34 (length t))) (Ok tt)

-- 35, 36 AND 37, GROUP BY GROUP

-- Fault n of the first group that fails its test, at its record. The groups' records stand at ps, the first of them that of group number g.
unfoldable pub each_group : ℕ → (ℕ → ℕ → Bool) → ℕ → List ℕ → Verdict
each_group n test g [] = Ok tt
each_group n test g (p ∷ ps) = need (test g p) (Err (fault_at n p)) (each_group n test (g + 1) ps)

-- 35: "width over 4,096, static depth over 4, or a type 21 field whose group has width 0". It "goes by the true widths".
unfoldable pub in_bounds : List Group → ℕ → Bool
in_bounds gs g = nat_le (width gs 5 g) 4096 && shallow gs 5 g

unfoldable pub widths_verdict : List ℕ → Verdict
widths_verdict t = each_group 35 (λ g _. in_bounds (schema t) g) 0 (places t)

-- Document 02, request 5: "A field list must begin with the super group's fields, record for record." t begins with the group's record, s with the
-- super's. They are compared by their bytes, so a reference to an equal enumeration is another field.
unfoldable pub begins_with : List ℕ → List ℕ → Bool
begins_with t s = nat_le (field_count s) (field_count t) && same (part (16 * field_count s) 16 t) (part (16 * field_count s) 16 s)

-- The group whose record stands at p has no super, or begins with the fields of its super.
unfoldable pub inherits : List ℕ → ℕ → Bool
inherits t p =
    let super = super_number (drop p t) in
    (super == 0) || begins_with (drop p t) (drop (slice_index (places t) (super - 1)) t)

unfoldable pub supers_verdict : List ℕ → Verdict
supers_verdict t = each_group 36 (λ _ p. inherits t p) 0 (places t)

-- Request 8: "A wrong stored width is 37". Group number g, whose record stands at p, stores no width, or its own.
unfoldable pub stores_own : List ℕ → ℕ → ℕ → Bool
stores_own t g p = not (marked GW (drop p t)) || stored_width (drop p t) == width (schema t) 5 g

unfoldable pub stored_verdict : List ℕ → Verdict
stored_verdict t = each_group 37 (stores_own t) 0 (places t)

-- THE TABLE'S VERDICT
-- "Table order: 30, then 31 over all records, then 32, 33, 34 record by record, then 34 for no id at all, then 35 group by group."
-- "New refusal 36, group by group, place the `GR` record, tested after every 35." "A wrong stored width is 37, group by group, place the `GW`
-- record, after 36."
unfoldable pub table_verdict : List ℕ → Verdict
table_verdict t =
    need (nat_lt 0 (length t) && (nat_le (length t) 65536 && length t % 16 == 0)) (Err (fault_at 30 0))
    (also (shape_verdict t)
    (also (records_verdict t)
    (also (id_verdict t)
    (also (widths_verdict t)
    (also (supers_verdict t)
    (stored_verdict t))))))
