-- Requests 5 and 8 (document 02) by example: groups that begin with the fields of their super or do not, and groups that store their widths.
use Rattle.std.specs.Prelude.{Ok, Err, ◌≡◌, ℕ, List, [], ◌∷◌, ◌++◌, map, refl}
use Rattle.wire.specs.Bytes.{bytes_of, le, same, all_zero}
use Rattle.schema.specs.Faults.{Verdict, fault_at, need, also}
use Rattle.schema.specs.Schema.{kind_width, value_width, field_width, fields_width, fields_of, width, shallow_kind, shallow_fields, shallow, find, known}
use Rattle.schema.specs.Symbols.{rank}
use Rattle.schema.specs.Table.{GR, GW, group_marked, scalar_width, kind_of, field_at, fields_at, values_at, group_at, enums_from, groups_from, places_from, enums, schema, places, is_enum, is_group, is_due, due_after, shape_from, shape_verdict, enum_verdict, symbol_verdict, group_verdict, size_ok, reference_ok, field_verdict, record_verdict, records_from, records_verdict, any_id, id_verdict, each_group, in_bounds, widths_verdict, begins_with, inherits, supers_verdict, stores_own, stored_verdict, table_verdict}
use Rattle.schema.specs.Forms.{plain_record, plain_from, to_gr, Alike}

-- A group's record, by its mark, its type id, its super's number plus 1, the number of its fields and the number in bytes 14-15.
abbrev group_record : List ℕ → ℕ → ℕ → ℕ → ℕ → List ℕ
group_record mark id super fields width = mark ++ (bytes_of 8 id ++ (1 ∷ (bytes_of 2 super ++ (fields ∷ bytes_of 2 width))))

abbrev pub group : ℕ → ℕ → ℕ → List ℕ
group id super fields = group_record GR id super fields 0

abbrev stored : ℕ → ℕ → ℕ → ℕ → List ℕ
stored = group_record GW

-- A field's record, by its bytes 2 to 6.
abbrev pub field : ℕ → ℕ → ℕ → ℕ → ℕ → List ℕ
field type optional sequence size reference = 0x46 ∷ 0x44 ∷ type ∷ optional ∷ sequence ∷ size ∷ reference ∷ 0 ∷ 0 ∷ 0 ∷ 0 ∷ 0 ∷ 0 ∷ 0 ∷ 0 ∷ 0 ∷ []

-- A string, a u32 and a u64.
abbrev text : List ℕ
text = field 17 0 0 0 0

abbrev word : List ℕ
word = field 5 0 0 0 0

abbrev long : List ℕ
long = field 7 0 0 0 0

-- A group of a string and a u32; below it, at 48, a group of n fields.
abbrev child : ℕ → List ℕ → List ℕ
child n fields = group 1 0 2 ++ (text ++ (word ++ (group 2 1 n ++ fields)))

-- Below that one, at 112, another of n fields.
abbrev grandchild : ℕ → List ℕ → List ℕ
grandchild n fields = child 3 (text ++ (word ++ (long ++ (group 3 2 n ++ fields))))

-- An enumeration of the one symbol 7.
abbrev seven : List ℕ
seven =
    0x45 ∷ 0x4e ∷ 1 ∷ 0 ∷ 0 ∷ 0 ∷ 0 ∷ 0 ∷ 0 ∷ 0 ∷ 0 ∷ 0 ∷ 0 ∷ 0 ∷ 0 ∷ 0
    ∷ 0x53 ∷ 0x59 ∷ 7 ∷ 0 ∷ 0 ∷ 0 ∷ 0 ∷ 0 ∷ 0 ∷ 0 ∷ 0 ∷ 0 ∷ 0 ∷ 0 ∷ 0 ∷ 0 ∷ []

-- A group of one field that names enumeration 0 of two equal ones; below it, at 96, a group whose field names enumeration e.
abbrev symbolic : ℕ → List ℕ
symbolic e = seven ++ (seven ++ (group 1 0 1 ++ (field 20 0 0 0 0 ++ (group 2 1 1 ++ field 20 0 0 0 e))))

-- A group without fields, and one below it.
abbrev empty : List ℕ
empty = group 1 0 0 ++ (group 2 1 1 ++ long)

-- 17 fields of 255 bytes
abbrev wide : List ℕ
wide = let f = field 19 0 0 255 0 in let four = f ++ (f ++ (f ++ f)) in f ++ (four ++ (four ++ (four ++ four)))

-- A group of a u32; behind it, at 32, a group whose one field, which is optional, is that group: they are 4 and 5 bytes wide.
abbrev pair : List ℕ → List ℕ → List ℕ
pair inner outer = inner ++ (word ++ (outer ++ field 21 1 0 0 0))

-- The same without the u32.
abbrev hollow : List ℕ → List ℕ → List ℕ
hollow inner outer = inner ++ (outer ++ field 21 1 0 0 0)

pub record Case : Type 0 where
  pub table : List ℕ
  pub verdict : Verdict

abbrev case : List ℕ → Verdict → Case
case t v = record { table = t; verdict = v }

abbrev pub cases : List Case
cases =
    case (child 3 (text ++ (word ++ long))) (Ok tt)
    ∷ case (child 2 (text ++ word)) (Ok tt)
    ∷ case empty (Ok tt)
    ∷ case (grandchild 3 (text ++ (word ++ long))) (Ok tt)
    ∷ case (symbolic 0) (Ok tt)
    -- a field is missing, the order is another, a u64 stands where the super has a u32
    ∷ case (child 1 text) (Err (fault_at 36 48))
    ∷ case (child 2 (word ++ text)) (Err (fault_at 36 48))
    ∷ case (child 3 (text ++ (long ++ word))) (Err (fault_at 36 48))
    -- the first group's fields are not enough
    ∷ case (grandchild 2 (text ++ word)) (Err (fault_at 36 112))
    -- "record for record", and not by what they mean
    ∷ case (symbolic 1) (Err (fault_at 36 96))
    -- 35 of a later group comes first
    ∷ case (child 1 (text ++ (group 3 0 17 ++ wide))) (Err (fault_at 35 80))
    -- both forms, and a mix
    ∷ case (pair (group 1 0 1) (group 2 0 1)) (Ok tt)
    ∷ case (pair (stored 1 0 1 4) (stored 2 0 1 5)) (Ok tt)
    ∷ case (pair (group 1 0 1) (stored 2 0 1 5)) (Err (fault_at 31 32))
    ∷ case (pair (stored 1 0 1 4) (group 2 0 1)) (Err (fault_at 31 32))
    -- bytes 14-15 of `GR`
    ∷ case (pair (group_record GR 1 0 1 4) (group 2 0 1)) (Err (fault_at 32 0))
    ∷ case (pair (group 1 0 1) (group_record GR 2 0 1 256)) (Err (fault_at 32 32))
    -- a width without the flag, one with a wrong high byte, and two wrong ones
    ∷ case (pair (stored 1 0 1 4) (stored 2 0 1 4)) (Err (fault_at 37 32))
    ∷ case (pair (stored 1 0 1 4) (stored 2 0 1 261)) (Err (fault_at 37 32))
    ∷ case (pair (stored 1 0 1 8) (stored 2 0 1 9)) (Err (fault_at 37 0))
    -- "35 goes by the true widths": the inner group has none, whatever it stores; the other stores more than it may have
    ∷ case (hollow (stored 1 0 0 1) (stored 2 0 1 2)) (Err (fault_at 35 16))
    ∷ case (pair (stored 1 0 1 4097) (stored 2 0 1 5)) (Err (fault_at 37 0))
    -- 35 and 36 of a later group come before 37
    ∷ case (stored 1 0 1 0 ++ (word ++ (stored 2 0 17 4335 ++ wide))) (Err (fault_at 35 32))
    ∷ case (stored 1 0 1 0 ++ (word ++ stored 2 1 0 0)) (Err (fault_at 36 32))
    ∷ []

pub cases-hold : map (λ c. table_verdict c.table) cases ≡ map (λ c. c.verdict) cases
unfolding bytes_of le same all_zero need also kind_width value_width field_width fields_width fields_of width shallow_kind shallow_fields shallow find known rank group_marked scalar_width kind_of field_at fields_at values_at group_at enums_from groups_from places_from enums schema places is_enum is_group is_due due_after shape_from shape_verdict enum_verdict symbol_verdict group_verdict size_ok reference_ok field_verdict record_verdict records_from records_verdict any_id id_verdict each_group in_bounds widths_verdict begins_with inherits supers_verdict stores_own stored_verdict table_verdict
cases-hold = refl

-- The two accepted forms of the pair are alike; so are the first and one that stores wrong widths, which 37 refuses.
pub forms-alike : Alike (pair (group 1 0 1) (group 2 0 1)) (pair (stored 1 0 1 4) (stored 2 0 1 5)) × Alike (pair (group 1 0 1) (group 2 0 1)) (pair (stored 1 0 1 8) (stored 2 0 1 9))
unfolding bytes_of same plain_record plain_from to_gr
forms-alike = (refl, refl)
