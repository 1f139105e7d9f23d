-- What a group's fields are, as the records of an accepted table say.
-- Document 02, request 10: "The crate sees only what the lower one states", so a crate above asks for it.
use Rattle.schema.specs.declared.Fault.{Fault}
use Rattle.std.specs.Prelude.{Ok, Err, Result, Bool, false, cond, ◌&&◌, List, [], ◌∷◌, ℕ, zero, suc, eqb}
use Rattle.wire.specs.Bytes.{same}
use Rattle.schema.specs.Faults.{Verdict, fault_at, need}
use Rattle.schema.specs.Schema.{Kind, plain, inline, indirect, static, dynamic, Field, Group, fields_of, find, known}
use Rattle.schema.specs.Table.{schema, table_verdict}
use Rattle.fields.specs.declared.FieldShape.{FieldShape}

-- ONE FIELD

-- "5 size": the capacity of an inline string or binary, the width of a fixed binary, and 0 of every other field.
unfoldable pub size_of : ℕ → Kind → ℕ
size_of type (plain w x) = cond (eqb type 19) w 0
size_of type (inline u c) = c
size_of type (indirect u) = 0
size_of type (static g) = 0
size_of type (dynamic g) = 0

abbrev pub shape_of : Field → Result FieldShape Fault
shape_of f = Ok (record { number = f.type; optional = f.optional; sequence = f.sequence; size = size_of f.type f.kind })

-- Field n of these: 28 where there is none.
unfoldable pub shape_in : List Field → ℕ → Result FieldShape Fault
shape_in [] n = Err (fault_at 28 0)
shape_in (f ∷ fs) zero = shape_of f
shape_in (f ∷ fs) (suc n) = shape_in fs n

-- Field n of the group with this id: 2 where the table has none.
unfoldable pub shape_under : List Group → ℕ → ℕ → Result FieldShape Fault
shape_under gs id n = need (known gs id) (Err (fault_at 2 0)) (shape_in (fields_of gs (find gs id)) n)

-- "20 first", each at place 0.
unfoldable pub shape_after : Verdict → Result FieldShape Fault → Result FieldShape Fault
shape_after (Ok _) x = x
shape_after (Err f) x = Err (fault_at 20 0)

unfoldable pub field_shape : List ℕ → ℕ → ℕ → Result FieldShape Fault
field_shape t id n = shape_after (table_verdict t) (shape_under (schema t) id n)

-- ALL FIELDS

-- The signature of fields, three bytes each: the type, then 1 where the field is optional, then 1 where it is a sequence.
unfoldable pub signature_of : List Field → List ℕ
signature_of [] = []
signature_of (f ∷ fs) = f.type ∷ (cond f.optional 1 0 ∷ (cond f.sequence 1 0 ∷ signature_of fs))

-- Whether the group with this id has the fields of this signature, in this order, and no other.
unfoldable pub has_under : List Group → ℕ → List ℕ → Bool
has_under gs id signature = known gs id && same (signature_of (fields_of gs (find gs id))) signature

unfoldable pub has_after : Verdict → Bool → Bool
has_after (Ok _) x = x
has_after (Err f) x = false

unfoldable pub has_fields : List ℕ → ℕ → List ℕ → Bool
has_fields t id signature = has_after (table_verdict t) (has_under (schema t) id signature)
