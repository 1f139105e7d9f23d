-- What the code that writes a sheet asks of its callers and what it leaves. It walks a message that the check accepted, so it tests nothing and keeps no occupancy:
-- it speaks of what a reader gives for some occupancy, wherever its group starts in the message.
use Rattle.std.specs.Prelude.{◌≡◌, List, [], ℕ, ◌+◌, ◌≤◌, length, drop}
use Rattle.wire.specs.Bytes.{part, splice, le}
use Rattle.schema.specs.Schema.{any, find}
use Rattle.schema.specs.Table.{field_at, enums, schema}
use Rattle.schema.specs.FieldKinds.{kind_from}
use Rattle.schema.specs.declared.FieldKind.{FieldKind}
use Rattle.schema.specs.declared.Scope.{Scope}
use Rattle.schema.specs.declared.Scope.TheVariants.{Whole, Fields}
use Rattle.message.specs.Sheet.{VA, GB, GE}
use Rattle.settings.specs.Store.{lax}
use Rattle.message.specs.Walk.{Reading, done, next, here, Reader, marked_r, plain_r, indirect_r, inner_r, field_r, extending_r, extension_r, group_r}
use Rattle.message.specs.Check.{item_r, marked_value_r, inner_of, width_of, static_of}

-- What is read at one place of a message, by the start of its group, the group's data area and its occupancy.
abbrev pub Passage : Type 0
Passage = ℕ → ℕ → List ℕ → Reading

-- What R reads at `at` of a group's bytes b; and the whole group b, with so many levels left for it.
abbrev pub passage : Reader → List ℕ → ℕ → Passage
passage R b at base area m = R (here lax b base area) at m

abbrev pub whole : List ℕ → ℕ → ℕ → List ℕ → Passage
whole t levels allowed b base area m = group_r lax (schema t) levels allowed base b

-- Fixed bytes; one passage and then another.
abbrev pub just : List ℕ → Passage
just x base area m = done x m

abbrev pub then : Passage → Passage → Passage
then F G base area m = next (F base area m) (λ m'. G base area m')

-- READERS, AS THE CODE CALLS THEM
-- by the table t, the levels left below the group, the static depth below which it lies, and where the field's record stands

abbrev pub plain_of : ℕ → Reader
plain_of w = marked_r VA (plain_r w any)

abbrev pub item_of : List ℕ → ℕ → ℕ → FieldKind → Reader
item_of t levels depth kind = item_r (inner_of lax t levels) (static_of lax t levels depth) (kind_from (enums t) kind)

abbrev pub value_of : List ℕ → ℕ → ℕ → ℕ → Reader
value_of t levels depth field = marked_value_r (inner_of lax t levels) (width_of t depth) (static_of lax t levels depth) (field_at (enums t) (drop field t))

abbrev pub field_of : List ℕ → ℕ → ℕ → ℕ → Reader
field_of t levels depth field = field_r (inner_of lax t levels) (width_of t depth) (static_of lax t levels depth) (field_at (enums t) (drop field t))

-- a dynamic group of 4 + n bytes; an extension, and one of its groups
abbrev pub nested_of : List ℕ → ℕ → ℕ → ℕ → Reader
nested_of t levels allowed n = marked_r GB (inner_r (inner_of lax t levels) allowed n)

abbrev pub extension_of : List ℕ → ℕ → Reader
extension_of t levels = extension_r (schema t) (inner_of lax t levels)

abbrev pub extending_of : List ℕ → ℕ → Reader
extending_of t levels = indirect_r 26 1 (extending_r (schema t) (inner_of lax t levels))

-- A GROUP, BY ITS SCOPE

-- What of it is shown: all of b, or a static group's fields at `at`.
unfoldable pub group_of : List ℕ → ℕ → ℕ → Scope → List ℕ → ℕ → Passage
group_of t levels depth (Whole allowed) b at = whole t levels allowed b
group_of t levels depth (Fields group) b at = passage (static_of lax t levels depth group) b at

-- How many levels it takes, and how many bytes it has before its fields.
unfoldable pub takes : Scope → ℕ
takes (Whole allowed) = 1
takes (Fields group) = 0

unfoldable pub head_of : Scope → ℕ
head_of (Whole allowed) = 16
head_of (Fields group) = 0

-- Its number; what stands before its fields in the sheet, and behind them.
unfoldable pub number_of : List ℕ → Scope → List ℕ → ℕ
number_of t (Whole allowed) b = find (schema t) (le (part 8 4 b))
number_of t (Fields group) b = group

unfoldable pub id_of : Scope → List ℕ → List ℕ
id_of (Whole allowed) b = part 8 4 b
id_of (Fields group) b = []

unfoldable pub end_of : List ℕ → ℕ → Scope → List ℕ → Passage
end_of t levels (Whole allowed) b = then (passage (extension_of t levels) b 12) (just GE)
end_of t levels (Fields group) b = just []

-- WHAT IS WRITTEN

-- s is the sheet of the passage.
pub record Reads (F : Passage) (s : List ℕ) : Type 0 where
  pub base : ℕ
  pub area : ℕ
  pub occupied : List ℕ
  pub taken : List ℕ
  pub is : F base area occupied ≡ done s taken

-- The passage has a sheet, and `out` has room for it from `pos` on.
pub record Fits (F : Passage) (pos : ℕ) (out : List ℕ) : Type 0 where
  pub sheet : List ℕ
  pub reads : Reads F sheet
  pub room : pos + length sheet ≤ length out

-- Its sheet stands in `out` from `pos` on, which became `left`, and ends at `end`. All else is what stood there.
pub record Shown (F : Passage) (pos : ℕ) (out left : List ℕ) (end : ℕ) : Type 0 where
  pub bytes : (s : List ℕ) → Reads F s → pos + length s ≤ length out → left ≡ splice (length s) pos s out
  pub ends : (s : List ℕ) → Reads F s → pos + length s ≤ length out → end ≡ pos + length s
