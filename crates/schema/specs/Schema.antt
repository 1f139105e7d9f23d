-- A schema: enumerations, and groups of fields, with their widths, static depth and lookups.
use Rattle.std.specs.Prelude.{ℕ, zero, suc, ◌+◌, ◌-◌, Bool, true, false, cond, ◌&&◌, ◌||◌, List, [], ◌∷◌, length, ◌==◌, nat_le, nat_lt}
use Rattle.wire.specs.Bytes.{le}
use Rattle.wire.specs.Utf8.{utf8}

-- VALUES

-- What a number's bytes must be.
pub data Test : Type 0 where
  any : Test
  flag : Test  -- a bool: 0 or 1
  below : ℕ → Test  -- a time of day, under 24 hours
  symbol : List ℕ → Test  -- one of an enumeration's values, taken as unsigned

-- Document 01's 23 types are five kinds. A string must be UTF-8, which the Bool says, and a binary need not.
pub data Kind : Type 0 where
  plain : ℕ → Test → Kind  -- a value of this width: types 1..16, 19 and 20
  inline : Bool → ℕ → Kind  -- a string or binary of this capacity, in place
  indirect : Bool → Kind  -- a string or binary in the data area
  static : ℕ → Kind  -- the group of this number, in place
  dynamic : ℕ → Kind  -- a group in the data area: below number n - 1, or any where n is 0

pub record Field : Type 0 where
  pub type : ℕ  -- document 01's number
  pub kind : Kind
  pub optional : Bool
  pub sequence : Bool

pub record Group : Type 0 where
  pub has_id : Bool
  pub id : ℕ
  pub super : ℕ  -- "super group number plus 1, or 0"
  pub fields : List Field

unfoldable pub member : ℕ → List ℕ → Bool
member x [] = false
member x (y ∷ ys) = x == y || member x ys

-- Whether bytes pass a test, and the fault where they do not: "10, 11, 12: no such symbol; bool or flag not 0, 1; 24 hours or more".
unfoldable pub passes : Test → List ℕ → Bool
passes any s = true
passes flag s = nat_lt (le s) 2
passes (below n) s = nat_lt (le s) n
passes (symbol vs) s = member (le s) vs

unfoldable pub test_fault : Test → ℕ
test_fault any = 0
test_fault flag = 11
test_fault (below n) = 12
test_fault (symbol vs) = 10

unfoldable pub text_ok : Bool → List ℕ → Bool
text_ok true s = utf8 s
text_ok false s = true

-- WIDTHS
-- sw gives the width of a static group: "a static subgroup's width is that of its own group".

unfoldable pub kind_width : (ℕ → ℕ) → Kind → ℕ
kind_width sw (plain w t) = w
kind_width sw (inline u c) = c + 1
kind_width sw (indirect u) = 4
kind_width sw (static g) = sw g
kind_width sw (dynamic g) = 4

-- "A sequence has width 4"; this is the width without the flag.
unfoldable pub value_width : (ℕ → ℕ) → Field → ℕ
value_width sw f = cond f.sequence 4 (kind_width sw f.kind)

-- "an optional field has one flag byte more"
unfoldable pub field_width : (ℕ → ℕ) → Field → ℕ
field_width sw f = cond f.optional (value_width sw f + 1) (value_width sw f)

-- "A group's width is the sum over its fields"
unfoldable pub fields_width : (ℕ → ℕ) → List Field → ℕ
fields_width sw [] = 0
fields_width sw (f ∷ fs) = field_width sw f + fields_width sw fs

-- The fields of group g, and its super.
unfoldable pub fields_of : List Group → ℕ → List Field
fields_of [] g = []
fields_of (x ∷ gs) zero = x.fields
fields_of (x ∷ gs) (suc g) = fields_of gs g

unfoldable pub super_of : List Group → ℕ → ℕ
super_of [] g = 0
super_of (x ∷ gs) zero = x.super
super_of (x ∷ gs) (suc g) = super_of gs g

-- The width of group g, whose static depth is below d.
unfoldable pub width : List Group → ℕ → ℕ → ℕ
width gs zero g = 0
width gs (suc d) g = fields_width (width gs d) (fields_of gs g)

-- Static depth. "Static depth is 0 without type 21 fields, else one more than the deepest of them (sequences of them count)."
-- `shallow gs d g` says that group g's static depth is below d and that it names no static group of width 0, at any depth:
-- what 35 asks beside the width.

unfoldable pub shallow_kind : (ℕ → Bool) → (ℕ → ℕ) → Kind → Bool
shallow_kind D sw (plain w t) = true
shallow_kind D sw (inline u c) = true
shallow_kind D sw (indirect u) = true
shallow_kind D sw (static g) = nat_le 1 (sw g) && D g
shallow_kind D sw (dynamic g) = true

unfoldable pub shallow_fields : (ℕ → Bool) → (ℕ → ℕ) → List Field → Bool
shallow_fields D sw [] = true
shallow_fields D sw (f ∷ fs) = shallow_kind D sw f.kind && shallow_fields D sw fs

unfoldable pub shallow : List Group → ℕ → ℕ → Bool
shallow gs zero g = false
shallow gs (suc d) g = shallow_fields (shallow gs d) (width gs d) (fields_of gs g)

-- LOOKUPS

-- The number of the group with this id; the number of groups where none has it.
unfoldable pub find : List Group → ℕ → ℕ
find [] id = 0
find (g ∷ gs) id = cond (g.has_id && g.id == id) 0 (suc (find gs id))

unfoldable pub known : List Group → ℕ → Bool
known gs id = nat_lt (find gs id) (length gs)

-- Whether group g is a, or has a above it: "the named group and all below it". n bounds the way up.
unfoldable pub under : List Group → ℕ → ℕ → ℕ → Bool
under gs zero a g = a == g
under gs (suc n) a g = a == g || nat_lt 0 (super_of gs g) && under gs n a (super_of gs g - 1)

-- Whether group g may stand for a dynamic field; a is the kind's number. "A super number is lower than the group's own", so g steps are enough.
unfoldable pub allows : List Group → ℕ → ℕ → Bool
allows gs zero g = true
allows gs (suc a) g = under gs g a g
