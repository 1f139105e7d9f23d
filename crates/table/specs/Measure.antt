-- A group's width and static depth, as the index has them of the groups that were measured.
use Rattle.schema.specs.Faults.{Verdict}
use Rattle.std.specs.Prelude.{Ok, ◌≡◌, Bool, true, false, cond, ◌&&◌, List, [], ◌∷◌, ℕ, ◌+◌, ◌<◌, ◌≤◌, length, get_or, set, leb, ltb, eqb}
use Rattle.schema.specs.Schema.{Kind, plain, inline, indirect, static, dynamic, Field, Group, fields_of, width, shallow}
use Rattle.schema.specs.Table.{schema, in_bounds}
use Rattle.schema.specs.Layout.{width_in}
use Rattle.table.specs.Index.{Placing}

-- What 33 leaves of a kind, in a group of number own of ng groups.
unfoldable pub sound_kind : ℕ → ℕ → Kind → Bool
sound_kind ng own (plain w t) = leb 1 w
sound_kind ng own (inline u c) = leb 1 c && leb c 255
sound_kind ng own (indirect u) = true
sound_kind ng own (static g) = ltb g own
sound_kind ng own (dynamic n) = leb n ng

unfoldable pub sound_fields : ℕ → ℕ → List Field → Bool
sound_fields ng own [] = true
sound_fields ng own (f ∷ fs) = sound_kind ng own f.kind && sound_fields ng own fs

abbrev pub Sound : List Group → Type 0
Sound gs = (g : ℕ) → sound_fields (length gs) g (fields_of gs g) ≡ true

-- A group's levels, as the index k has them: its static depth plus one, 6 where it is out of 35's bounds or names a group that is, and 0 as long as
-- it is not measured.
abbrev pub levels : List ℕ → ℕ → ℕ
levels k g = get_or k (256 + g) 0

-- The levels of a group by one that it names, of width w and l levels; no group may name one of width 0.
unfoldable pub levels_over : ℕ → ℕ → ℕ
levels_over w l = cond (eqb w 0) 6 (l + 1)

-- Group g has the width w and l levels.
pub record Measured (gs : List Group) (g w l : ℕ) : Type 0 where
  pub deep : (d : ℕ) → shallow gs d g ≡ leb l d
  pub wide : (d : ℕ) → shallow gs d g ≡ true → width gs d g ≡ w

-- Group g or one before it is out of bounds: 35 is answered there.
abbrev pub Beyond : List Group → ℕ → Type 0
Beyond gs g = (h : ℕ) × (h ≤ g) × (in_bounds gs h ≡ false)

-- What the index may have of group g.
pub record Extent (gs : List Group) (g w l : ℕ) : Type 0 where
  pub narrow : w ≤ 4096
  pub there : 0 < l → g < length gs
  pub ahead : l ≡ 0 → w ≡ 0
  pub within : 0 < l → l ≤ 5 → Measured gs g w l
  pub beyond : 5 < l → Beyond gs g

-- What the index k has of the groups is true.
abbrev pub Kept : List ℕ → List ℕ → Type 0
Kept t k = (g : ℕ) → g < 64 → Extent (schema t) g (get_or k (64 + g) 0) (levels k g)

abbrev pub with_extent : List ℕ → ℕ → ℕ → ℕ → List ℕ
with_extent k g w l = set (set k (64 + g) w) (256 + g) l

-- The index k' is k with more groups measured, or none.
pub record Grown (t k k' : List ℕ) : Type 0 where
  pub placing : Placing t k'
  pub kept : Kept t k'
  pub more : (g : ℕ) → 0 < levels k g → 0 < levels k' g

abbrev pub AllMeasured : List ℕ → List ℕ → Type 0
AllMeasured t k = (g : ℕ) → g < length (schema t) → 0 < levels k g

-- Every group is within bounds, and the index k has its width.
pub record Sized (t k : List ℕ) : Type 0 where
  pub wide : (d g : ℕ) → shallow (schema t) d g ≡ true → width_in k g ≡ width (schema t) d g
  pub narrow : (g : ℕ) → width_in k g ≤ 4096
  pub shallows : (g : ℕ) → shallow (schema t) 5 g ≡ true

-- What a check of the groups answers, where the definition says v, and what it leaves in the index.
pub record Judged (v r : Verdict) (t k : List ℕ) : Type 0 where
  pub verdict : r ≡ v
  pub placing : r ≡ Ok tt → Placing t k
  pub known : r ≡ Ok tt → Sized t k
