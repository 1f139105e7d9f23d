-- The groups of a table whose records' places the index holds.
use Rattle.std.proofs.Common.{◌≡◌, ℕ, zero, suc, ◌+◌, ◌-◌, ◌<◌, ◌≤◌, Bool, true, false, ◌&&◌, eqb, ltb, leb, List, [], ◌∷◌, length, take, drop, refl, ap, ◌∙◌, arith, drop-drop, ltb-false, ltb-true, le-ltb, lt-ltb, eq-eqb, ne_eqb, leb-true}
use lib.Seq.{take-length}
use Rattle.schema.specs.Schema.{Group, fields_of, super_of, find, known, under, allows, width, fields_width}
use Rattle.schema.specs.Table.{field_count, super_number, id_flag, type_id, fields_at, group_at, enums, schema}
use Rattle.schema.specs.Layout.{group_place, width_in, Placed, Layout}
use Rattle.schema.specs.FieldKinds.{Widths}

-- THE NUMBERED GROUP

fields-drop : (gs : List Group) (g : ℕ) (x : Group) (r : List Group) → drop g gs ≡ x ∷ r → fields_of gs g ≡ x.fields
unfolding fields_of
fields-drop [] zero x r e = cc
fields-drop [] (suc g) x r e = cc
fields-drop (y ∷ gs) zero x r e = ap (λ z. fields_of z 0) e
fields-drop (y ∷ gs) (suc g) x r e = fields-drop gs g x r e

super-drop : (gs : List Group) (g : ℕ) (x : Group) (r : List Group) → drop g gs ≡ x ∷ r → super_of gs g ≡ x.super
unfolding super_of
super-drop [] zero x r e = cc
super-drop [] (suc g) x r e = cc
super-drop (y ∷ gs) zero x r e = ap (λ z. super_of z 0) e
super-drop (y ∷ gs) (suc g) x r e = super-drop gs g x r e

-- a number past the last group has no fields, and so no width
pub fields-past : (gs : List Group) (g : ℕ) → length gs ≤ g → fields_of gs g ≡ []
unfolding fields_of
fields-past [] g h = refl
fields-past (x ∷ gs) zero h = absurd (omega arith)
fields-past (x ∷ gs) (suc g) h = fields-past gs g (omega arith)

pub width-past : (gs : List Group) (d g : ℕ) → length gs ≤ g → width gs d g ≡ 0
unfolding width fields_width
width-past gs zero g h = refl
width-past gs (suc d) g h = rw (fields-past gs g h)

-- so a static group of some width is a group of the schema
pub static-inside : (gs : List Group) (d g : ℕ) → leb 1 (width gs d g) ≡ true → g < length gs
static-inside gs d g e = go (ltb g (length gs)) refl
  where
    go : (b : Bool) → ltb g (length gs) ≡ b → g < length gs
    go true q = ltb-true _ _ q
    go false q = absurd (let z : 1 ≤ width gs d g = leb-true _ _ e in let w = width-past gs d g (ltb-false _ _ q) in omega (arith, z, w))

-- THE GROUP AT ITS PLACE

module _ (t k : List ℕ) (n : ℕ) (P : Placed t k n) (g : ℕ) (h : g < n) where
  pub placed-inside : group_place k g + 16 ≤ length t
  placed-inside = let i = P.inside g h in omega arith

  pub placed-super : super_of (schema t) g ≡ super_number (drop (group_place k g) t)
  unfolding group_at
  placed-super = super-drop (schema t) g _ _ (P.group g h)

  pub placed-fields : fields_of (schema t) g ≡ fields_at (enums t) (field_count (drop (group_place k g) t)) (drop (group_place k g + 16) t)
  unfolding group_at
  placed-fields = fields-drop (schema t) g _ _ (P.group g h) ∙ rw (drop-drop 16 (group_place k g) t)

-- FIND

-- of the first n groups, those behind the first i
abbrev pub groups_in : List Group → ℕ → ℕ → List Group
groups_in gs n i = take (n - i) (drop i gs)

pub find-end : (gs : List Group) (n id i : ℕ) → n ≤ i → i + find (groups_in gs n i) id ≡ i
unfolding find
find-end gs n id i h = let e : n - i ≡ 0 = omega arith in rw e (omega arith)

module _ (t k : List ℕ) (n : ℕ) (P : Placed t k n) (id i : ℕ) (h : i < n) where
  groups-more : groups_in (schema t) n i ≡ group_at (enums t) (drop (group_place k i) t) ∷ groups_in (schema t) n (i + 1)
  groups-more = let e : n - i ≡ suc (n - (i + 1)) = omega arith in rw (e, P.group i h)

  pub find-hit : eqb (id_flag (drop (group_place k i) t)) 1 && eqb (type_id (drop (group_place k i) t)) id ≡ true → i + find (groups_in (schema t) n i) id ≡ i
  unfolding find group_at
  find-hit e = rw (groups-more, e) (omega arith)

  pub find-miss : eqb (id_flag (drop (group_place k i) t)) 1 && eqb (type_id (drop (group_place k i) t)) id ≡ false → i + find (groups_in (schema t) n i) id ≡ i + 1 + find (groups_in (schema t) n (i + 1)) id
  unfolding find group_at
  find-miss e = rw (groups-more, e) (omega arith)

-- the search of all groups, and whether it finds one
pub find-whole : (gs : List Group) (n id : ℕ) → n ≡ length gs → find (take n gs) id ≡ find gs id
find-whole gs n id e = rw (e, take-length gs)

pub known_is : (gs : List Group) (id g : ℕ) → g ≡ find gs id → known gs id ≡ ltb g (length gs)
unfolding known
known_is gs id g e = rw e

-- ALLOWS

pub allows-any : (gs : List Group) (a g : ℕ) → a ≡ 0 → true ≡ allows gs a g
unfolding allows
allows-any gs a g e = rw e

pub allows-under : (gs : List Group) (a b g : ℕ) → 1 ≤ a × (b ≡ a - 1) → allows gs a g ≡ under gs g b g
unfolding allows
allows-under gs zero b g (h, e) = absurd (omega arith)
allows-under gs (suc a) b g (h, e) = let q : b ≡ a = omega (arith, e) in rw q

module _ (gs : List Group) (n a g : ℕ) where
  pub under_same : a ≡ g → under gs n a g ≡ true
  unfolding under
  under_same e = go n
    where
      go : (n : ℕ) → under gs n a g ≡ true
      go zero = eq-eqb _ _ e
      go (suc n) = rw (eq-eqb _ _ e)

  module _ (s : ℕ) (is : s ≡ super_of gs g) (low : super_of gs g ≤ g) (d : a ≡ g → ⊥) (e : g ≤ n) where
    pub under_top : s ≡ 0 → under gs n a g ≡ false
    unfolding under
    under_top z = go n
      where
        go : (n : ℕ) → under gs n a g ≡ false
        go zero = ne_eqb _ _ d
        go (suc n) = rw (← is, ne_eqb _ _ d, le-ltb 0 s (omega arith))

    pub under_next : (s ≡ 0 → ⊥) → under gs n a g ≡ under gs (n - 1) a (s - 1)
    unfolding under
    under_next z = go n e
      where
        go : (n : ℕ) → g ≤ n → under gs n a g ≡ under gs (n - 1) a (s - 1)
        go zero e = absurd (omega arith)
        go (suc n) e = let q : suc n - 1 ≡ n = omega arith in rw (← is, ne_eqb _ _ d, lt-ltb 0 s (omega arith), q)

-- LAYOUT

module _ (t k : List ℕ) (P : Layout t k) where
  pub layout-widths : Widths k
  layout-widths = record { long = P.long; narrow = P.narrow }

  -- the width of a group, as the check of its static depth has it
  pub layout-width : (g : ℕ) → width_in k g ≡ width (schema t) 5 g
  layout-width g = P.wide 5 g (P.shallows g)
