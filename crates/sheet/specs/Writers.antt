-- The writers of specs/Written.antt, as the code that follows a table calls them: by the table t, the levels left below the group, the static depth below which it lies,
-- and where the field's record stands.
use Rattle.std.specs.Prelude.{Bool, List, ℕ, drop}
use Rattle.schema.specs.Schema.{any, Kind, Field}
use Rattle.schema.specs.Table.{field_at, enums, schema}
use Rattle.schema.specs.FieldKinds.{kind_from}
use Rattle.schema.specs.declared.FieldKind.{FieldKind}
use Rattle.message.specs.Sheet.{VA, ST, kind_mark, field_mark}
use Rattle.message.specs.Check.{width_of}
use Rattle.sheet.specs.Written.{Writer, InnerW, marked_w, plain_w, indirect_w, text_b, inner_b, kind_w, value_w, field_w, static_w, extending_b, extension_w, group_w}

-- An item with its mark; a field's value with its mark.
abbrev pub item_w : InnerW → (ℕ → Writer) → Kind → Writer
item_w I S k = marked_w (kind_mark k) (kind_w I S k)

abbrev pub marked_value_w : InnerW → (ℕ → ℕ) → (ℕ → Writer) → Field → Writer
marked_value_w I sw S f = marked_w (field_mark f) (value_w I sw S f)

-- A group behind its mark, and the fields of one below a static depth.
abbrev pub inner_of : List ℕ → ℕ → InnerW
inner_of t levels = group_w (schema t) levels

abbrev pub static_of : List ℕ → ℕ → ℕ → ℕ → Writer
static_of t levels depth = static_w (schema t) (inner_of t levels) depth

abbrev pub plain_of : ℕ → Writer
plain_of w = marked_w VA (plain_w w any)

abbrev pub text_of : Bool → Writer
text_of u = marked_w ST (indirect_w (text_b u))

-- A value behind its mark, and an item with its mark.
abbrev pub kind_of : List ℕ → ℕ → ℕ → FieldKind → Writer
kind_of t levels depth kind = kind_w (inner_of t levels) (static_of t levels depth) (kind_from (enums t) kind)

abbrev pub item_of : List ℕ → ℕ → ℕ → FieldKind → Writer
item_of t levels depth kind = item_w (inner_of t levels) (static_of t levels depth) (kind_from (enums t) kind)

-- A field's value with its mark, and the field.
abbrev pub value_of : List ℕ → ℕ → ℕ → ℕ → Writer
value_of t levels depth field = marked_value_w (inner_of t levels) (width_of t depth) (static_of t levels depth) (field_at (enums t) (drop field t))

abbrev pub field_of : List ℕ → ℕ → ℕ → ℕ → Writer
field_of t levels depth field = field_w (inner_of t levels) (width_of t depth) (static_of t levels depth) (field_at (enums t) (drop field t))

-- A dynamic group behind its offset; an extension, and one of its groups.
abbrev pub nested_of : List ℕ → ℕ → ℕ → Writer
nested_of t levels allowed = indirect_w (inner_b (inner_of t levels) allowed)

abbrev pub extension_of : List ℕ → ℕ → Writer
extension_of t levels = extension_w (schema t) (inner_of t levels)

abbrev pub extending_of : List ℕ → ℕ → Writer
extending_of t levels = indirect_w (extending_b (schema t) (inner_of t levels))
