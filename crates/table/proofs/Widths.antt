-- 35: a group's width and levels, field by field, and the index that has them.
use Rattle.std.proofs.Common.{Ok}
use mathlib.Core.Path.{◌≡◌, refl, sym, ap, ◌∙◌}
use mathlib.Core.Bool.{Bool, true, false, cond, ◌&&◌, ◌||◌, and-true}
use mathlib.Core.List.{List, [], ◌∷◌}
use Prim.Native.Nat.{ℕ, zero, suc, ◌+◌, ◌-◌, ◌*◌, ◌<◌, ◌≤◌, max}
use native.Mathlib.Omega.{arith}
use native.Mathlib.Numerals.{add-one}
use lib.ListN.{length, drop, get_or, set, length-set}
use lib.Seq.{drop-drop, drop-nil, get_or-set_same, get_or-set_other}
use lib.Dec.{leb, ltb, eqb, leb-suc-suc}
use borrow.Author.Tests.{eqb-true, eqb-false, leb-true, leb-false, le-leb, lt-leb, ltb-true, ltb-false, lt-ltb}
use Rattle.schema.specs.Schema.{Kind, plain, inline, indirect, static, dynamic, Field, Group, kind_width, value_width, field_width, fields_width, fields_of, width, shallow_kind, shallow_fields, shallow}
use Rattle.schema.specs.Table.{field_count, field_type, field_size, reference, kind_of, field_at, fields_at, group_at, enums, schema, places, in_bounds, widths_verdict}
use Rattle.schema.specs.Layout.{group_place, width_in}
use Rattle.schema.specs.FieldKinds.{Widths}
use Rattle.schema.proofs.Depth.{and_both}
use Rattle.schema.proofs.Groups.{fields-past, width-past}
use Rattle.table.specs.Index.{Placing}
use Rattle.table.proofs.Groups.{each-passed}
use Rattle.table.proofs.Supers.{groups-placed}
use Rattle.table.specs.Measure.{sound_kind, sound_fields, levels, levels_over, Measured, Beyond, Extent, Kept, with_extent, Grown, AllMeasured, Sized}

-- TRUTH

and_no : (c : Bool) → (c && false) ≡ false
and_no true = refl
and_no false = refl

and_assoc : (a b c : Bool) → (a && (b && c)) ≡ ((a && b) && c)
and_assoc true b c = refl
and_assoc false b c = refl

max-leb : (a b d : ℕ) → leb (max a b) d ≡ (leb a d && leb b d)
max-leb a b d = go (leb a d) (leb b d) refl refl
  where
    go : (c e : Bool) → leb a d ≡ c → leb b d ≡ e → leb (max a b) d ≡ (c && e)
    go true true p q = le-leb (max a b) d (omega (arith, leb-true a d p, leb-true b d q))
    go true false p q = lt-leb (max a b) d (omega (arith, leb-false b d q))
    go false e p q = lt-leb (max a b) d (omega (arith, leb-false a d p))

-- KINDS

is_static : Kind → Bool
is_static (plain w t) = false
is_static (inline u c) = false
is_static (indirect u) = false
is_static (static g) = true
is_static (dynamic g) = false

flat : (D : ℕ → Bool) (sw : ℕ → ℕ) (k : Kind) → is_static k ≡ false → shallow_kind D sw k ≡ true
unfolding shallow_kind is_static
flat D sw (plain w t) e = refl
flat D sw (inline u c) e = refl
flat D sw (indirect u) e = refl
flat D sw (static g) e = absurd (let z : ◌≡◌ {A = ℕ} 0 1 = cc in omega arith)
flat D sw (dynamic g) e = refl

free : (sw sw' : ℕ → ℕ) (k : Kind) → is_static k ≡ false → kind_width sw k ≡ kind_width sw' k
unfolding kind_width is_static
free sw sw' (plain w t) e = refl
free sw sw' (inline u c) e = refl
free sw sw' (indirect u) e = refl
free sw sw' (static g) e = absurd (let z : ◌≡◌ {A = ℕ} 0 1 = cc in omega arith)
free sw sw' (dynamic g) e = refl

field-as : (sw sw' : ℕ → ℕ) (x : Field) → kind_width sw x.kind ≡ kind_width sw' x.kind → field_width sw x ≡ field_width sw' x
unfolding field_width value_width
field-as sw sw' x e = rw e

as-static : (sw : ℕ → ℕ) (wi : ℕ) (x : Field) (h : ℕ) → x.kind ≡ static h → sw h ≡ wi → field_width sw x ≡ field_width (λ _. wi) x
unfolding kind_width
as-static sw wi x h k e = field-as sw (λ _. wi) x (ap (kind_width sw) k ∙ e ∙ sym (ap (kind_width (λ _. wi)) k))

pick : {X : Type 0} (F : Kind → X) {v : X} (c : Bool) (x y : Kind) → (c ≡ true → F x ≡ v) → (c ≡ false → F y ≡ v) → F (cond c x y) ≡ v
pick F true x y f g = f refl
pick F false x y f g = g refl

module _ (es : List (List ℕ)) (type size ref : ℕ) where
  not_static : (type ≡ 21 → ⊥) → is_static (kind_of es type size ref) ≡ false
  unfolding kind_of is_static
  not_static h =
      pick is_static (eqb type 11) _ _ (λ _. refl) (λ _. pick is_static (eqb type 15) _ _ (λ _. refl) (λ _. pick is_static (eqb type 16) _ _ (λ _. refl)
      (λ _. pick is_static (leb type 16) _ _ (λ _. refl) (λ _. pick is_static (eqb type 17 || eqb type 18) _ _ (λ _. pick is_static (eqb size 0) _ _ (λ _. refl) (λ _. refl))
      (λ _. pick is_static (eqb type 19) _ _ (λ _. refl) (λ _. pick is_static (eqb type 20) _ _ (λ _. refl)
      (λ _. pick is_static (eqb type 21) _ _ (λ e. absurd (h (eqb-true type 21 e))) (λ _. pick is_static (eqb type 22) _ _ (λ _. refl) (λ _. refl)))))))))

  is-static : type ≡ 21 → kind_of es type size ref ≡ static ref
  unfolding kind_of
  is-static e = rw e

  pub static-is : (sw : ℕ → ℕ) → type ≡ 21 → kind_width sw (kind_of es type size ref) ≡ sw ref
  unfolding kind_width
  static-is sw e = rw (is-static e)

-- FIELDS IN A ROW

-- A group that names a group of width wi and li levels.
one-static : (gs : List Group) (d h wi li : ℕ) → Measured gs h wi li → (leb 1 (width gs d h) && shallow gs d h) ≡ (leb 1 wi && leb li d)
one-static gs d h wi li m = rw (m.deep d) (go (leb li d) refl)
  where
    go : (c : Bool) → leb li d ≡ c → (leb 1 (width gs d h) && c) ≡ (leb 1 wi && c)
    go true q = rw (m.wide d (m.deep d ∙ q))
    go false q = and_no (leb 1 (width gs d h)) ∙ sym (and_no (leb 1 wi))

module _ (gs : List Group) (g : ℕ) where
  -- Of group g's fields, those before `rest` have the width w and give it l levels.
  pub record Summed (rest : List Field) (w l : ℕ) : Type 0 where
    pub deep : (d : ℕ) → shallow_fields (shallow gs d) (width gs d) (fields_of gs g) ≡ (leb l (suc d) && shallow_fields (shallow gs d) (width gs d) rest)
    pub wide : (d : ℕ) → shallow_fields (shallow gs d) (width gs d) (fields_of gs g) ≡ true → fields_width (width gs d) (fields_of gs g) ≡ w + fields_width (width gs d) rest
    pub some : 0 < l

  pub summed-none : Summed (fields_of gs g) 0 1
  summed-none = record { deep = λ d. rw (le-leb 1 (suc d) (omega arith)); wide = λ d e. omega arith; some = omega arith }

  module _ (x : Field) (rest : List Field) (w v l : ℕ) (sw : ℕ → ℕ) (is : v ≡ field_width sw x) (s : Summed (x ∷ rest) w l) where
    summed-other : is_static x.kind ≡ false → Summed rest (w + v) l
    unfolding shallow_fields fields_width
    summed-other n = record {
      deep = λ d. s.deep d ∙ rw (flat (shallow gs d) (width gs d) x.kind n);
      wide = λ d e. omega (arith, s.wide d e, field-as (width gs d) sw x (free _ _ x.kind n), is);
      some = s.some;
    }

  -- a field is a static group h, of a lower number, that the index has
  module _ (x : Field) (rest : List Field) (w l h wi li : ℕ) (k : x.kind ≡ static h) (low : h < g) (m : 0 < li) (e : Extent gs h wi li) (s : Summed (x ∷ rest) w l) where
    split : (d : ℕ) → shallow_fields (shallow gs d) (width gs d) (fields_of gs g)
        ≡ (leb l (suc d) && ((leb 1 (width gs d h) && shallow gs d h) && shallow_fields (shallow gs d) (width gs d) rest))
    unfolding shallow_fields shallow_kind
    split d = s.deep d ∙ ap (λ (y : Kind). leb l (suc d) && (shallow_kind (shallow gs d) (width gs d) y && shallow_fields (shallow gs d) (width gs d) rest)) k

    fails : (leb 1 (width gs 4 h) && shallow gs 4 h) ≡ false → Beyond gs g
    unfolding in_bounds shallow
    fails z = (g, omega arith, rw (split 4, z, and_no (leb l 5)) (and_no (leb (width gs 5 g) 4096)))

    summed-beyond : 5 < levels_over wi li → Beyond gs g
    unfolding levels_over
    summed-beyond q = go (eqb wi 0) (leb li 5) refl refl
      where
        go : (c d : Bool) → eqb wi 0 ≡ c → leb li 5 ≡ d → Beyond gs g
        go c false y z = let o = e.beyond (leb-false li 5 z) in (o.0, omega (arith, o.1), o.2)
        go true true y z = fails (one-static gs 4 h wi li (e.within m (leb-true li 5 z)) ∙ rw (eqb-true wi 0 y))
        go false true y z =
            let o : 5 < li + 1 = rw y at q in
            fails (one-static gs 4 h wi li (e.within m (leb-true li 5 z)) ∙ rw (lt-leb li 4 (omega arith)) (and_no (leb 1 wi)))

    over-within : levels_over wi li ≤ 5 → (1 ≤ wi) × (levels_over wi li ≡ li + 1)
    unfolding levels_over
    over-within q = go (eqb wi 0) refl
      where
        go : (c : Bool) → eqb wi 0 ≡ c → (1 ≤ wi) × (cond (eqb wi 0) 6 (li + 1) ≡ li + 1)
        go true y = absurd (let o : 6 ≤ 5 = rw y at q in omega arith)
        go false y = (omega (arith, eqb-false wi 0 y), rw y)

    summed-static : (v l' : ℕ) → levels_over wi li ≤ 5 → v ≡ field_width (λ _. wi) x → l' ≡ max l (levels_over wi li) → Summed rest (w + v) l'
    unfolding fields_width
    summed-static v l' q is new = record { deep = deep; wide = wide; some = omega (arith, s.some) }
      where
        o : (1 ≤ wi) × (levels_over wi li ≡ li + 1)
        o = over-within q

        m5 : Measured gs h wi li
        m5 = e.within m (omega (arith, o.1))

        deep : (d : ℕ) → shallow_fields (shallow gs d) (width gs d) (fields_of gs g) ≡ (leb l' (suc d) && shallow_fields (shallow gs d) (width gs d) rest)
        deep d = split d ∙ rw (one-static gs d h wi li m5, le-leb 1 wi o.0, new, o.1, max-leb l (li + 1) (suc d), add-one li, leb-suc-suc li d) (and_assoc (leb l (suc d)) (leb li d) _)

        wide : (d : ℕ) → shallow_fields (shallow gs d) (width gs d) (fields_of gs g) ≡ true → fields_width (width gs d) (fields_of gs g) ≡ w + v + fields_width (width gs d) rest
        wide d y =
            let r = (and_both (leb l (suc d)) _ (sym (split d) ∙ y)).1 in
            let t = (and_both (leb 1 (width gs d h)) _ (and_both (leb 1 (width gs d h) && shallow gs d h) _ r).0).1 in
            omega (arith, s.wide d y, as-static (width gs d) wi x h k (m5.wide d t), is)

  -- all of them
  summed-all : (w l : ℕ) → Summed [] w l → Measured gs g w l
  summed-all w l s = record { deep = deep; wide = wide }
    where
      deep : (d : ℕ) → shallow gs d g ≡ leb l d
      deep zero = unfold shallow in sym (lt-leb l 0 s.some)
      deep (suc n) = unfold shallow shallow_fields in s.deep n ∙ and-true (leb l (suc n))

      wide : (d : ℕ) → shallow gs d g ≡ true → width gs d g ≡ w
      wide zero q = unfold shallow in absurd (let z : ◌≡◌ {A = ℕ} 0 1 = cc in omega arith)
      wide (suc n) q = unfold shallow width fields_width in s.wide n q ∙ omega arith

-- a group's width in the index
pub width-at : (k : List ℕ) (g : ℕ) → g < 64 → width_in k g ≡ get_or k (64 + g) 0
unfolding width_in
width-at k g l = rw (lt-ltb g 64 l)

-- THE TABLE'S FIELDS

fields-of : (gs : List Group) (g : ℕ) (x : Group) (r : List Group) → drop g gs ≡ x ∷ r → fields_of gs g ≡ x.fields
unfolding fields_of
fields-of [] g x r e = absurd (let a = sym (drop-nil g) ∙ e in let z : ◌≡◌ {A = ℕ} 0 1 = cc in omega arith)
fields-of (y ∷ gs) zero x r e = let z : y ≡ x = cc in rw z
fields-of (y ∷ gs) (suc g) x r e = fields-of gs g x r e

pub fields-inside : (t k : List ℕ) (g p c : ℕ) → Placing t k → g < length (schema t) → p ≡ group_place k g → c ≡ field_count (drop p t) → p + 16 + 16 * c ≤ length t
fields-inside t k g p c P l at is = rw (is, at) (P.placed.inside g l)

pub fields-start : (t k : List ℕ) (g p c : ℕ) → Placing t k → g < length (schema t) → p ≡ group_place k g → c ≡ field_count (drop p t)
    → fields_of (schema t) g ≡ fields_at (enums t) (c - 0) (drop (p + 16 + 16 * 0) t)
unfolding group_at
fields-start t k g p c P l at is =
    let n : c - 0 ≡ c = omega arith in
    let q : p + 16 + 16 * 0 ≡ p + 16 = omega arith in
    fields-of (schema t) g _ _ (P.placed.group g l) ∙ rw (n, q, is, at, drop-drop 16 (group_place k g) t)

module _ (t : List ℕ) (es : List (List ℕ)) (c first i : ℕ) (l : i < c) where
  abbrev at : List ℕ
  at = drop (first + 16 * i) t

  fields-more : fields_at es (c - i) at ≡ field_at es at ∷ fields_at es (c - (i + 1)) (drop (first + 16 * (i + 1)) t)
  unfolding fields_at
  fields-more =
      let n : c - i ≡ suc (c - (i + 1)) = omega arith in
      let q : first + 16 * i + 16 ≡ first + 16 * (i + 1) = omega arith in
      rw (n, drop-drop 16 (first + 16 * i) t, q)

  module _ (gs : List Group) (g w n : ℕ) (s : Summed gs g (fields_at es (c - i) at) w n) where
    pub other-turn : (v : ℕ) → (field_type at ≡ 21 → ⊥) → (sw : ℕ → ℕ) → v ≡ field_width sw (field_at es at) → Summed gs g (fields_at es (c - (i + 1)) (drop (first + 16 * (i + 1)) t)) (w + v) n
    unfolding field_at
    other-turn v y sw is = summed-other gs g (field_at es at) _ w v n sw is (rw fields-more at s) (not_static es (field_type at) (field_size at) (reference at) y)

    module _ (h wi li : ℕ) (y : field_type at ≡ 21) (to : h ≡ reference at) (low : h < g) (m : 0 < li) (e : Extent gs h wi li) where
      names : (field_at es at).kind ≡ static h
      unfolding field_at
      names = is-static es (field_type at) (field_size at) (reference at) y ∙ ap static (sym to)

      pub static-beyond : 5 < levels_over wi li → Beyond gs g
      static-beyond = summed-beyond gs g (field_at es at) _ w n h wi li names low m e (rw fields-more at s)

      pub static-turn : (v n' : ℕ) → levels_over wi li ≤ 5 → v ≡ field_width (λ _. wi) (field_at es at) → n' ≡ max n (levels_over wi li)
          → Summed gs g (fields_at es (c - (i + 1)) (drop (first + 16 * (i + 1)) t)) (w + v) n'
      static-turn = summed-static gs g (field_at es at) _ w n h wi li names low m e (rw fields-more at s)

  module _ (ng own : ℕ) (s : sound_fields ng own (fields_at es (c - i) at) ≡ true) where
    parts : (sound_kind ng own (field_at es at).kind && sound_fields ng own (fields_at es (c - (i + 1)) (drop (first + 16 * (i + 1)) t))) ≡ true
    unfolding sound_fields
    parts = rw fields-more at s

    pub sound-turn : sound_fields ng own (fields_at es (c - (i + 1)) (drop (first + 16 * (i + 1)) t)) ≡ true
    sound-turn = (and_both (sound_kind ng own (field_at es at).kind) (sound_fields ng own (fields_at es (c - (i + 1)) (drop (first + 16 * (i + 1)) t))) parts).1

    pub sound-here : (h : ℕ) → field_type at ≡ 21 → h ≡ reference at → h < own
    unfolding field_at sound_kind
    sound-here h y to =
        let e = is-static es (field_type at) (field_size at) (reference at) y ∙ ap static (sym to) in
        ltb-true h own (rw e at (and_both (sound_kind ng own (field_at es at).kind) _ parts).0)

pub fields-none : (es : List (List ℕ)) (c i : ℕ) (s : List ℕ) → c ≤ i → fields_at es (c - i) s ≡ []
unfolding fields_at
fields-none es c i s h = let z : c - i ≡ 0 = omega arith in rw z

-- THE INDEX

-- what a group's width and levels in it leave as it was
module _ (t k k' : List ℕ) (g w l : ℕ) (few : g < 64) (new : k' ≡ with_extent k g w l) (p : Placing t k) where
  other : (j : ℕ) → (j ≡ 64 + g → ⊥) → (j ≡ 256 + g → ⊥) → get_or k' j 0 ≡ get_or k j 0
  other j a b = rw new (get_or-set_other (set k (64 + g) w) (256 + g) j l 0 b ∙ get_or-set_other k (64 + g) j w 0 a)

  placing-kept : Placing t k'
  placing-kept = record {
    long = rw new (simp length-set p.long);
    few = p.few;
    lists = p.lists;
    total = other 320 (omega arith) (omega arith) ∙ p.total;
    enumerations = other 321 (omega arith) (omega arith) ∙ p.enumerations;
    placed = record {
      group = λ h q. rw (other h (omega (arith, p.few)) (omega (arith, p.few))) (p.placed.group h q);
      inside = λ h q. rw (other h (omega (arith, p.few)) (omega (arith, p.few))) (p.placed.inside h q);
    };
    start = λ h q. rw (other h (omega (arith, p.few)) (omega (arith, p.few))) (p.start h q);
    last = p.last;
    symbols = λ e q. let a = other (192 + e) (omega arith) (omega arith) in let b = other (128 + e) (omega arith) (omega arith) in rw (a, b) (p.symbols e q);
    held = λ e q. let a = other (192 + e) (omega arith) (omega arith) in let b = other (128 + e) (omega arith) (omega arith) in rw (a, b) (p.held e q);
  }

  at_width : get_or k' (64 + g) 0 ≡ w
  at_width = rw new (get_or-set_other (set k (64 + g) w) (256 + g) (64 + g) l 0 (omega arith) ∙ get_or-set_same k (64 + g) w 0 (omega (arith, p.long)))

  at-levels : levels k' g ≡ l
  at-levels = rw new (get_or-set_same (set k (64 + g) w) (256 + g) l 0 (simp length-set (omega (arith, p.long))))

  kept_more : Extent (schema t) g w l → Kept t k → Kept t k'
  kept_more e K h q = go (eqb h g) refl
    where
      go : (c : Bool) → eqb h g ≡ c → Extent (schema t) h (get_or k' (64 + h) 0) (levels k' h)
      go true y = rw (eqb-true h g y, at_width, at-levels) e
      go false y =
          let n = eqb-false h g y in
          rw (other (64 + h) (omega (arith, n)) (omega (arith, n)), other (256 + h) (omega (arith, n)) (omega (arith, n))) (K h q)

  grown : 0 < l → Extent (schema t) g w l → (k₀ : List ℕ) → Grown t k₀ k → (Grown t k₀ k') × (0 < levels k' g)
  grown some e k₀ G = (record { placing = placing-kept; kept = kept_more e G.kept; more = λ h q. more h (G.more h q) }, rw at-levels some)
    where
      more : (h : ℕ) → 0 < levels k h → 0 < levels k' h
      more h q = go (eqb h g) refl
        where
          go : (c : Bool) → eqb h g ≡ c → 0 < levels k' h
          go true y = rw (eqb-true h g y, at-levels) some
          go false y = let n = eqb-false h g y in rw (other (256 + h) (omega (arith, n)) (omega (arith, n))) q

pub grown-none : (t k : List ℕ) → Placing t k → Kept t k → Grown t k k
grown-none t k p K = record { placing = p; kept = K; more = λ _ q. q }

pub grown-more : (t k k' k'' : List ℕ) → Grown t k k' → Grown t k' k'' → Grown t k k''
grown-more t k k' k'' G H = record { placing = H.placing; kept = H.kept; more = λ g q. H.more g (G.more g q) }

module _ (t k₀ k k' : List ℕ) (g : ℕ) (G : Grown t k₀ k) (there : g < length (schema t)) where
  few : g < 64
  few = omega (arith, G.placing.few)

  -- a group is out of bounds
  pub measured-beyond : Beyond (schema t) g → k' ≡ with_extent k g 0 6 → (Grown t k₀ k') × (0 < levels k' g)
  measured-beyond b new =
      grown t k k' g 0 6 few new G.placing (omega arith)
      (record { narrow = omega arith; there = λ _. there; ahead = λ q. absurd (omega arith); within = λ q r. absurd (omega arith); beyond = λ _. b }) k₀ G

  -- its fields are added up
  pub measured : (w l : ℕ) → l ≤ 5 → Summed (schema t) g [] w l → k' ≡ cond (leb w 4096) (with_extent k g w l) (with_extent k g 0 6) → (Grown t k₀ k') × (0 < levels k' g)
  measured w l z s new = go (leb w 4096) refl
    where
      m : Measured (schema t) g w l
      m = summed-all (schema t) g w l s

      go : (c : Bool) → leb w 4096 ≡ c → (Grown t k₀ k') × (0 < levels k' g)
      go true q =
          let some = s.some in
          grown t k k' g w l few (rw q at new) G.placing some
          (record { narrow = leb-true w 4096 q; there = λ _. there; ahead = λ y. absurd (omega arith); within = λ _ _. m; beyond = λ y. absurd (omega arith) }) k₀ G
      go false q = measured-beyond (g, omega arith, unfold in_bounds in rw (m.wide 5 (m.deep 5 ∙ le-leb l 5 z), q)) (rw q at new)

-- where the ways meet: the group h that a field names is measured
module _ (t k₀ k k'' : List ℕ) (h : ℕ) (G : Grown t k₀ k) where
  pub ready-now : (k' : List ℕ) → (Grown t k k') × (0 < levels k' h) → k'' ≡ k' → (Grown t k₀ k'') × (0 < levels k'' h)
  ready-now k' m e = rw e (grown-more t k₀ k k' G m.0, m.1)

  pub ready-before : (levels k h ≡ 0 → ⊥) → k'' ≡ k → (Grown t k₀ k'') × (0 < levels k'' h)
  ready-before n e = rw e (G, omega (arith, n))

pub kept-none : (t k : List ℕ) → ((h : ℕ) → h < 64 → (get_or k (64 + h) 0 ≡ 0) × (levels k h ≡ 0)) → Kept t k
kept-none t k z h q =
    let a = (z h q).0 in
    let b = (z h q).1 in
    record { narrow = omega arith; there = λ x. absurd (omega arith); ahead = λ _. a; within = λ x. absurd (omega arith); beyond = λ x. absurd (omega arith) }

-- the index serves for every field's width, whatever groups are measured
pub kept-widths : (t k : List ℕ) → length k ≡ 322 → Kept t k → Widths k
kept-widths t k l K = record { long = l; narrow = λ g. unfold width_in in go g (ltb g 64) refl }
  where
    go : (g : ℕ) (c : Bool) → ltb g 64 ≡ c → cond c (get_or k (64 + g) 0) 0 ≤ 4096
    go g true q = (K g (ltb-true g 64 q)).narrow
    go g false q = omega arith

pub down : (k k' : List ℕ) (g n : ℕ) → ((h : ℕ) → g ≤ h → h < n → 0 < levels k h) → ((h : ℕ) → 0 < levels k h → 0 < levels k' h) → 0 < levels k' (g - 1)
    → (h : ℕ) → g - 1 ≤ h → h < n → 0 < levels k' h
down k k' g n all more this h a b = go (leb g h) refl
  where
    go : (c : Bool) → leb g h ≡ c → 0 < levels k' h
    go true q = more h (all h (leb-true g h q) b)
    go false q = let z : h ≡ g - 1 = omega (arith, leb-false g h q) in rw z this

-- THE TEST OF 35

pub shallow-out : (gs : List Group) (d g : ℕ) → length gs ≤ g → shallow gs (suc d) g ≡ true
unfolding shallow shallow_fields
shallow-out gs d g l = rw (fields-past gs g l)

-- the groups of a table that passes 35
pub all-bounded : (t : List ℕ) → widths_verdict t ≡ Ok tt → (g : ℕ) → g < length (schema t) → in_bounds (schema t) g ≡ true
unfolding widths_verdict
all-bounded t e g l = let z : 0 + g ≡ g = omega arith in rw z at (each-passed 35 _ 0 (places t) e g (omega (arith, groups-placed t)))

module _ (t k₀ k : List ℕ) (G : Grown t k₀ k) (all : AllMeasured t k) where
  extent : (g : ℕ) → g < length (schema t) → Extent (schema t) g (get_or k (64 + g) 0) (levels k g)
  extent g l = G.kept g (omega (arith, G.placing.few))

  pub in-bounds : (g : ℕ) → g < length (schema t) → levels k g ≤ 5 → in_bounds (schema t) g ≡ true
  unfolding in_bounds
  in-bounds g l q =
      let m = (extent g l).within (all g l) q in
      let s = m.deep 5 ∙ le-leb (levels k g) 5 q in
      rw (s, m.wide 5 s, le-leb _ 4096 (extent g l).narrow)

  -- the first of them
  -- what the index has of a group decides 35, as long as no group before is out of bounds
  pub bounds-tested : (g : ℕ) → g < length (schema t) → ((h : ℕ) → h < g → in_bounds (schema t) h ≡ true) → leb (levels k g) 5 ≡ in_bounds (schema t) g
  bounds-tested g l before = go (leb (levels k g) 5) refl
    where
      out : Beyond (schema t) g → in_bounds (schema t) g ≡ false
      out (h, a, f) = at (ltb h g) refl
        where
          at : (c : Bool) → ltb h g ≡ c → in_bounds (schema t) g ≡ false
          at true y = let p = before h (ltb-true h g y) in cc
          at false y = let z : h ≡ g = omega (arith, ltb-false h g y) in rw z at f

      go : (c : Bool) → leb (levels k g) 5 ≡ c → c ≡ in_bounds (schema t) g
      go true q = sym (in-bounds g l (leb-true _ 5 q))
      go false q = sym (out ((extent g l).beyond (leb-false _ 5 q)))

  pub all-sized : ((g : ℕ) → g < length (schema t) → levels k g ≤ 5) → Sized t k
  all-sized low = record {
    wide = λ d g s. wide d g (ltb g (length (schema t))) refl s;
    narrow = (kept-widths t k G.placing.long G.kept).narrow;
    shallows = λ g. shallows g (ltb g (length (schema t))) refl;
  }
    where
      past : (g : ℕ) → length (schema t) ≤ g → width_in k g ≡ 0
      past g l = unfold width_in in go (ltb g 64) (leb 1 (levels k g)) refl refl
        where
          go : (a b : Bool) → ltb g 64 ≡ a → leb 1 (levels k g) ≡ b → cond a (get_or k (64 + g) 0) 0 ≡ 0
          go false b x y = refl
          go true false x y = (G.kept g (ltb-true g 64 x)).ahead (omega (arith, leb-false 1 (levels k g) y))
          go true true x y = absurd (omega (arith, (G.kept g (ltb-true g 64 x)).there (leb-true 1 (levels k g) y)))

      wide : (d g : ℕ) (c : Bool) → ltb g (length (schema t)) ≡ c → shallow (schema t) d g ≡ true → width_in k g ≡ width (schema t) d g
      wide d g true q s =
          let l = ltb-true g (length (schema t)) q in
          width-at k g (omega (arith, G.placing.few)) ∙ sym (((extent g l).within (all g l) (low g l)).wide d s)
      wide d g false q s = let l = ltb-false g (length (schema t)) q in past g l ∙ sym (width-past (schema t) d g l)

      shallows : (g : ℕ) (c : Bool) → ltb g (length (schema t)) ≡ c → shallow (schema t) 5 g ≡ true
      shallows g true q = let l = ltb-true g (length (schema t)) q in ((extent g l).within (all g l) (low g l)).deep 5 ∙ le-leb (levels k g) 5 (low g l)
      shallows g false q = shallow-out (schema t) 4 g (ltb-false g (length (schema t)) q)
