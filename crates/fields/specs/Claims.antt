-- What a crate above may take of a group's fields.
use Rattle.schema.specs.declared.Fault.{Fault}
use Rattle.schema.specs.Faults.{fault_at}
use Rattle.std.specs.Prelude.{Ok, Err, Result, ℕ, ◌+◌, ◌*◌, ◌<◌, ◌≤◌, ◌≡◌, ◌↔◌, true, List, [], ◌∷◌, length, get_or, eqb}
use Rattle.schema.specs.Schema.{Field, fields_of}
use Rattle.schema.specs.Table.{kind_of, enums, schema}
use Rattle.fields.specs.declared.FieldShape.{FieldShape}
use Rattle.fields.specs.Fields.{field_shape, has_fields}

-- A field's kind is that of its type, with some size and reference.
abbrev pub Typed : List (List ℕ) → List Field → Type 0
Typed es [] = Unit
Typed es (f ∷ fs) = ((size : ℕ) × (ref : ℕ) × (f.kind ≡ kind_of es f.type size ref)) × Typed es fs

-- The shape of field n is the one that the signature x names, of some size.
abbrev pub Named : List ℕ → ℕ → Result FieldShape Fault → Type 0
Named x n shape = (size : ℕ) × (shape ≡ Ok (record { number = (get_or x (3 * n) 0); optional = (eqb (get_or x (3 * n + 1) 0) 1); sequence = (eqb (get_or x (3 * n + 2) 0) 1); size = size }))

-- What `field_shape` says of each field is what the signature x of m fields names, and there is no field more.
pub record AllNamed (t : List ℕ) (id m : ℕ) (x : List ℕ) : Type 0 where
  pub each : (n : ℕ) → n < m → Named x n (field_shape t id n)
  pub last : field_shape t id m ≡ Err (fault_at 28 0)

pub record FieldsClaims : Type 0 where
  pub kinds : (t : List ℕ) (g : ℕ) → Typed (enums t) (fields_of (schema t) g)
  -- `has_fields` is what the separate questions say
  pub exactly : (t : List ℕ) (id m : ℕ) (x : List ℕ) → length x ≡ 3 * m → ((n : ℕ) → n < m → (get_or x (3 * n + 1) 0 ≤ 1) × (get_or x (3 * n + 2) 0 ≤ 1))
      → (has_fields t id x ≡ true) ↔ AllNamed t id m x
