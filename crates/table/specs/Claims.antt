-- Of every accepted table, what document 02's requests 4, 5 and 8 say of it.
use Rattle.std.specs.Prelude.{Ok, ℕ, ◌-◌, ◌<◌, ◌≡◌, Bool, true, List, [], ◌++◌, length, take, drop, get_or}
use Rattle.schema.specs.Schema.{Field, Group, fields_width, fields_of, super_of, width, under}
use Rattle.schema.specs.Symbols.{Ordered, start, steps}
use Rattle.schema.specs.Table.{GW, marked, stored_width, enums, schema, places, group_mark, widths_verdict, table_verdict}
use Rattle.schema.specs.Forms.{to_gr}
use Rattle.schema.specs.Claims.{Decides}

-- Request 4: "symbols rise", and "nine steps decide any list".
pub record Lists (t : List ℕ) : Type 0 where
  pub ordered : (e : ℕ) → Ordered (get_or (enums t) e [])
  pub nine : (e v : ℕ) → Decides (get_or (enums t) e []) v (steps 9 (get_or (enums t) e []) v (start (get_or (enums t) e [])))

-- The fields xs begin with the fields ys.
abbrev pub Begins : List Field → List Field → Type 0
Begins xs ys = (rest : List Field) × (xs ≡ ys ++ rest)

-- Each group that has a super begins with its fields.
abbrev pub BeginsSuper : List Group → Type 0
BeginsSuper gs = (g : ℕ) → 0 < super_of gs g → Begins (fields_of gs g) (fields_of gs (super_of gs g - 1))

-- Field n of group g is field n of group a, and stands at the same place behind the head, whatever the widths of static groups.
pub record SameField (gs : List Group) (a g n : ℕ) : Type 0 where
  pub there : n < length (fields_of gs g)
  pub same : (none : Field) → get_or (fields_of gs g) n none ≡ get_or (fields_of gs a) n none
  pub place : (sw : ℕ → ℕ) → fields_width sw (take n (fields_of gs g)) ≡ fields_width sw (take n (fields_of gs a))

-- Request 5: "A field list must begin with the super group's fields", and so with those of every group above it.
pub record Inherits (gs : List Group) : Type 0 where
  pub super : BeginsSuper gs
  pub above : (a g : ℕ) → under gs g a g ≡ true → Begins (fields_of gs g) (fields_of gs a)
  -- "we read density as speed": what is read as a field of a is that field in every group below a too
  pub field : (a g n : ℕ) → under gs g a g ≡ true → n < length (fields_of gs a) → SameField gs a g n

-- The record of group number g, and what follows.
abbrev pub record_of : List ℕ → ℕ → List ℕ
record_of t g = drop (get_or (places t) g 0) t

-- Request 8: "A table has all `GR` or all `GW`", and the width that a `GW` stores is its group's.
pub record StoredWidths (t : List ℕ) : Type 0 where
  pub mark : (stored : Bool) × ((g : ℕ) → g < length (schema t) → marked (group_mark stored) (record_of t g) ≡ true)
  pub own : (g : ℕ) → g < length (schema t) → marked GW (record_of t g) ≡ true → stored_width (record_of t g) ≡ width (schema t) 5 g

pub record AcceptedTables : Type 0 where
  pub lists : (t : List ℕ) → table_verdict t ≡ Ok tt → Lists t
  pub inherits : (t : List ℕ) → table_verdict t ≡ Ok tt → Inherits (schema t)
  pub widths : (t : List ℕ) → table_verdict t ≡ Ok tt → StoredWidths t

-- "35 goes by the true widths": of every table, whatever it stores.
abbrev pub TrueWidths : Type 0
TrueWidths = (t : List ℕ) → widths_verdict (to_gr t) ≡ widths_verdict t
