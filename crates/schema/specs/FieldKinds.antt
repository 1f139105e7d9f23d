-- How the code sees a field's kind, and what it asks of the index for widths.
use Rattle.std.specs.Prelude.{◌≡◌, ℕ, ◌≤◌, Bool, false, cond, ◌||◌, List, [], length, take, ◌==◌, nat_le, slice_index_or}
use Rattle.schema.specs.Schema.{Kind, Field, passes, test_fault, plain, inline, indirect, static, dynamic, any, flag, below, symbol}
use Rattle.schema.specs.Table.{scalar_width}
use Rattle.schema.specs.Layout.{width_in}
use Rattle.schema.specs.declared.FieldKind.{FieldKind}
use Rattle.schema.specs.declared.FieldKind.TheVariants.{Plain, Number, Inline, Indirect, Static, Dynamic}
use Rattle.schema.specs.declared.Tested.{Tested}
use Rattle.schema.specs.declared.Tested.TheVariants.{Flag, Millis, Nanos, Symbol}

-- es: the enumerations' values.
unfoldable pub tested_kind : List (List ℕ) → Tested → Kind
tested_kind es Flag = plain 1 flag
tested_kind es Millis = plain 4 (below 86400000)
tested_kind es Nanos = plain 8 (below 86400000000000)
tested_kind es (Symbol e) = plain 4 (symbol (slice_index_or es e []))

unfoldable pub kind_from : List (List ℕ) → FieldKind → Kind
kind_from es (Plain w) = plain w any
kind_from es (Number t) = tested_kind es t
kind_from es (Inline u c) = inline u c
kind_from es (Indirect u) = indirect u
kind_from es (Static g) = static g
kind_from es (Dynamic a) = dynamic a

-- "String and binary: size 1..255 is inline; size 0 is indirect."
unfoldable pub text_kind : Bool → ℕ → Kind
text_kind u size = cond (size == 0) (indirect u) (inline u size)

-- The fault of a value's bytes, 0 where they pass; s begins with the value.
unfoldable pub kind_fault : Kind → List ℕ → ℕ
kind_fault (plain w t) s = cond (passes t (take w s)) 0 (test_fault t)
kind_fault (inline u c) s = 0
kind_fault (indirect u) s = 0
kind_fault (static g) s = 0
kind_fault (dynamic g) s = 0

-- A required value of this type and of w bytes, without a test.
abbrev pub plain_field : ℕ → ℕ → Field
plain_field n w = record { type = n; kind = plain w any; optional = false; sequence = false }

-- The width of such a value of the types 1..14, for which the code has a short way; 0 for every other field. Type 19 has a width of its own.
unfoldable pub plain_width : Field → ℕ
plain_width f = cond (f.optional || (f.sequence || (f.type == 11 || nat_le 15 f.type))) 0 (scalar_width f.type)

-- The index k has a width of every static group, each within the table check's bound.
pub record Widths (k : List ℕ) : Type 0 where
  pub long : length k ≡ 322
  pub narrow : (g : ℕ) → width_in k g ≤ 4096
