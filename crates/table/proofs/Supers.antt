-- 36: how the check reads it, and what it gives of an accepted table's groups.
use Rattle.std.proofs.Common.{Ok}
use mathlib.Core.Path.{◌≡◌, refl, sym, ap, ◌∙◌}
use mathlib.Core.Bool.{Bool, true, false, cond}
use mathlib.Core.List.{List, [], ◌∷◌, ◌++◌, map}
use Prim.Native.Nat.{ℕ, zero, suc, ◌+◌, ◌-◌, ◌*◌, ◌<◌, ◌≤◌}
use native.Mathlib.Omega.{arith}
use lib.ListN.{length, take, drop, get_or, length-map, take-append-drop}
use lib.Seq.{drop-drop, get_or-take, take-take}
use lib.Dec.{leb}
use borrow.Author.Tests.{eq-eqb, ne_eqb, lt-leb, le-leb, leb-true}
use Rattle.wire.specs.Bytes.{part, same}
use Rattle.wire.proofs.Laws.{part-part, same-eq}
use Rattle.schema.specs.Schema.{Field, Group, fields_of, super_of}
use Rattle.schema.specs.Table.{group_marked, super_number, field_count, field_at, fields_at, group_at, groups_from, places_from, record_count, enums, schema, places, begins_with, inherits, supers_verdict}
use Rattle.schema.specs.Layout.{group_place}
use Rattle.schema.proofs.Depth.{and_both}
use Rattle.schema.proofs.Groups.{placed-super}
use Rattle.table.specs.Index.{Placing}
use Rattle.table.specs.Claims.{Begins, BeginsSuper}
use Rattle.table.proofs.Records.{drop-get_d}
use Rattle.table.proofs.Groups.{each-passed}

-- A GROUP AND ITS SUPER

module _ (t : List ℕ) (p q n m : ℕ) (own : n ≡ field_count (drop p t)) (above : m ≡ field_count (drop q t)) where
  pub begins-short : n < m → begins_with (drop p t) (drop q t) ≡ false
  unfolding begins_with
  begins-short h = rw (← own, ← above, lt-leb m n h)

  pub begins-long : m ≤ n → begins_with (drop p t) (drop q t) ≡ same (part (16 * m) (p + 16) t) (part (16 * m) (q + 16) t)
  unfolding begins_with
  begins-long h = rw (← own, ← above, le-leb m n h, drop-drop 16 p t, drop-drop 16 q t)

module _ (t : List ℕ) (p n : ℕ) (is : n ≡ super_number (drop p t)) where
  pub inherits-none : n ≡ 0 → inherits t p ≡ true
  unfolding inherits
  inherits-none e = rw (← is, eq-eqb n 0 e)

  inherits-some : (n ≡ 0 → ⊥) → inherits t p ≡ begins_with (drop p t) (drop (get_or (places t) (n - 1) 0) t)
  unfolding inherits
  inherits-some d = rw (← is, ne_eqb n 0 d)

-- the super's record stands where the index says
module _ (t k : List ℕ) (P : Placing t k) (g p n : ℕ) (l : g < length (schema t)) (low : super_of (schema t) g ≤ g) (at : p ≡ group_place k g) (is : n ≡ super_number (drop p t)) where
  pub super-below : n ≤ g
  super-below = let s = rw (← at) at (placed-super t k _ P.placed g l) in omega arith

  pub inherits-placed : (n ≡ 0 → ⊥) → (q : ℕ) → q ≡ group_place k (n - 1) → inherits t p ≡ begins_with (drop p t) (drop q t)
  inherits-placed d q e =
      let s = super-below in
      let f = drop-get_d (places t) _ 0 _ (n - 1) (P.start (n - 1) (omega arith)) in
      inherits-some t p n is d ∙ rw (f, ← e)

-- THE GROUPS AT THEIR PLACES

abbrev at_place : List (List ℕ) → List ℕ → ℕ → Group
at_place es t p = group_at es (drop p t)

groups-at : (es : List (List ℕ)) (t : List ℕ) (n p : ℕ) → groups_from es n (drop p t) ≡ map (at_place es t) (places_from n p (drop p t))
unfolding groups_from places_from
groups-at es t zero p = refl
groups-at es t (suc n) p = rw (drop-drop 16 p t) (go (group_marked (drop p t)) _ _ (groups-at es t n (p + 16)))
  where
    go : (c : Bool) (gs : List Group) (ps : List ℕ) → gs ≡ map (at_place es t) ps → cond c (group_at es (drop p t) ∷ gs) gs ≡ map (at_place es t) (cond c (p ∷ ps) ps)
    go true gs ps e = rw e
    go false gs ps e = e

schema-at : (t : List ℕ) → schema t ≡ map (at_place (enums t) t) (places t)
unfolding schema places
schema-at t = groups-at (enums t) t (record_count t) 0

pub groups-placed : (t : List ℕ) → length (schema t) ≡ length (places t)
groups-placed t = ap length (schema-at t) ∙ length-map (places t) (at_place (enums t) t)

numbered : (F : ℕ → Group) (ps : List ℕ) (g : ℕ) → g < length ps → (fields_of (map F ps) g ≡ (F (get_or ps g 0)).fields) × (super_of (map F ps) g ≡ (F (get_or ps g 0)).super)
unfolding fields_of super_of
numbered F [] g l = absurd (omega arith)
numbered F (p ∷ ps) zero l = (refl, refl)
numbered F (p ∷ ps) (suc g) l = numbered F ps g (omega arith)

-- WHAT 36 GIVES

field-take : (es : List (List ℕ)) (s : List ℕ) → field_at es (take 16 s) ≡ field_at es s
unfolding field_at
field-take es s = rw (get_or-take 16 s 2 0 (omega arith), get_or-take 16 s 3 0 (omega arith), get_or-take 16 s 4 0 (omega arith), get_or-take 16 s 5 0 (omega arith), part-part 2 6 16 0 s (omega arith))

-- equal records hold equal fields
fields-same : (es : List (List ℕ)) (n : ℕ) (s r : List ℕ) → take (16 * n) s ≡ take (16 * n) r → fields_at es n s ≡ fields_at es n r
unfolding fields_at
fields-same es zero s r e = refl
fields-same es (suc n) s r e =
    let first : take 16 s ≡ take 16 r = sym (take-take 16 (16 * suc n) s (omega arith)) ∙ ap (take 16) e ∙ take-take 16 (16 * suc n) r (omega arith) in
    let rest : part (16 * n) 16 s ≡ part (16 * n) 16 r = sym (part-part (16 * n) 16 (16 * suc n) 0 s (omega arith)) ∙ ap (part (16 * n) 16) e ∙ part-part (16 * n) 16 (16 * suc n) 0 r (omega arith) in
    let head : field_at es s ≡ field_at es r = sym (field-take es s) ∙ ap (field_at es) first ∙ field-take es r in
    rw (head, fields-same es n (drop 16 s) (drop 16 r) rest)

fields-first : (es : List (List ℕ)) (m n : ℕ) (s : List ℕ) → m ≤ n → take m (fields_at es n s) ≡ fields_at es m s
unfolding fields_at
fields-first es zero n s l = refl
fields-first es (suc m) zero s l = absurd (omega arith)
fields-first es (suc m) (suc n) s l = rw (fields-first es m n (drop 16 s) (omega arith))

begins-fields : (es : List (List ℕ)) (t s : List ℕ) → begins_with t s ≡ true → Begins (group_at es t).fields (group_at es s).fields
unfolding begins_with group_at
begins-fields es t s h =
    let a = and_both (leb (field_count s) (field_count t)) _ h in
    let all = fields_at es (field_count t) (drop 16 t) in
    let first = fields-first es (field_count s) (field_count t) (drop 16 t) (leb-true _ _ a.0) ∙ fields-same es (field_count s) (drop 16 t) (drop 16 s) (same-eq _ _ a.1) in
    (drop (field_count s) all, sym (take-append-drop (field_count s) all) ∙ ap (λ (l : List Field). l ++ drop (field_count s) all) first)

has-super : (gs : List Group) (g : ℕ) → 0 < super_of gs g → g < length gs
unfolding super_of
has-super [] g h = absurd (omega arith)
has-super (x ∷ gs) zero h = omega arith
has-super (x ∷ gs) (suc g) h = omega (arith, has-super gs g h)

module _ (t : List ℕ) (low : (g : ℕ) → super_of (schema t) g ≤ g) (passed : supers_verdict t ≡ Ok tt) where
  pub begins-super : BeginsSuper (schema t)
  unfolding supers_verdict group_at
  begins-super g h =
      let l = has-super (schema t) g h in
      let many = groups-placed t in
      let own = numbered (at_place (enums t) t) (places t) g (omega arith) in
      let s = super_of (schema t) g in
      let up = numbered (at_place (enums t) t) (places t) (s - 1) (omega (arith, low g)) in
      let is : s ≡ super_number (drop (get_or (places t) g 0) t) = ap (λ gs. super_of gs g) (schema-at t) ∙ own.1 in
      let b = begins-fields (enums t) _ _ (sym (inherits-some t _ s is (λ z. omega arith)) ∙ each-passed 36 _ 0 (places t) passed g (omega arith)) in
      rw (ap (λ gs. fields_of gs g) (schema-at t) ∙ own.0, ap (λ gs. fields_of gs (s - 1)) (schema-at t) ∙ up.0) b
