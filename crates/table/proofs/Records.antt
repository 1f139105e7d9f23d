-- 31: what is due, and what a record that is due puts into the index.
use Rattle.std.proofs.Common.{Ok, Err}
use mathlib.Core.Path.{◌≡◌, refl, sym, ap, ◌∙◌}
use mathlib.Core.Bool.{Bool, true, false, cond, ◌&&◌}
use mathlib.Core.List.{List, [], ◌∷◌}
use Prim.Native.Nat.{ℕ, suc, ◌+◌, ◌-◌, ◌*◌, ◌%◌, ◌<◌, ◌≤◌}
use native.Mathlib.Omega.{arith}
use native.Mathlib.Nat.{mod-eq_of_lt}
use lib.ListN.{length, take, drop, get_or, set, replicate, length-set, length-drop, get_or-replicate, get_or-eq_default}
use lib.Seq.{drop-drop, get_or-set_same, get_or-set_other, drop-cons}
use lib.Dec.{leb, ltb, eqb}
use borrow.Author.Tests.{eq-eqb, ne_eqb, eqb-true, eqb-false, leb-true, ltb-true, ltb-false, lt-ltb, le-ltb}
use Rattle.wire.specs.Bytes.{same}
use Rattle.wire.proofs.Laws.{same-eq}
use Rattle.schema.specs.Schema.{Group}
use Rattle.schema.specs.Symbols.{rank}
use Rattle.schema.specs.Table.{EN, SY, GR, GW, FD, marked, group_marked, symbol_count, symbol_value, field_count, values_at, group_at, enums_from, groups_from, places_from, record_count, enums, schema, places, Due, is_enum, group_mark, is_group, is_due, due_after, shape_from, shape_verdict, record_verdict, records_from, records_verdict}
use Rattle.schema.specs.declared.Fault.{Fault}
use Rattle.schema.specs.Faults.{Verdict, fault_at, need, also}
use Rattle.schema.proofs.Depth.{and_both}
use Rattle.schema.proofs.Forms.{group-form, form-group}
use Rattle.schema.specs.Layout.{group_place, symbol_place, symbol_total}
use Rattle.table.specs.Index.{Whole, Begun, Placing, Shaped}
use Rattle.table.proofs.Laws.{never}

-- MARKS

-- a record has one mark
pub other-mark : (t m n : List ℕ) → marked m t ≡ true → marked n t ≡ same m n
other-mark t m n e = rw (same-eq (take 2 t) m e)

module _ (t : List ℕ) where
  no-group : (m : List ℕ) → same m GR ≡ false → same m GW ≡ false → marked m t ≡ true → group_marked t ≡ false
  unfolding group_marked
  no-group m a b e = rw (other-mark t m GR e, other-mark t m GW e, a, b)

  group-no : (m : List ℕ) → same GR m ≡ false → same GW m ≡ false → group_marked t ≡ true → marked m t ≡ false
  group-no m a b e = go (group-form t e)
    where
      go : (s : Bool) × (marked (group_mark s) t ≡ true) → marked m t ≡ false
      go (false, f) = other-mark t GR m f ∙ a
      go (true, f) = other-mark t GW m f ∙ b

  pub enum-no-group : marked EN t ≡ true → group_marked t ≡ false
  unfolding same
  enum-no-group = no-group EN refl refl

  pub enum-no-symbol : marked EN t ≡ true → marked SY t ≡ false
  unfolding same
  enum-no-symbol = other-mark t EN SY

  pub group-no-enum : group_marked t ≡ true → marked EN t ≡ false
  unfolding same
  group-no-enum = group-no EN refl refl

  pub symbol-no-group : marked SY t ≡ true → group_marked t ≡ false
  unfolding same
  symbol-no-group = no-group SY refl refl

  pub symbol-no-enum : marked SY t ≡ true → marked EN t ≡ false
  unfolding same
  symbol-no-enum = other-mark t SY EN

  pub field-no-group : marked FD t ≡ true → group_marked t ≡ false
  unfolding same
  field-no-group = no-group FD refl refl

  pub field-no-enum : marked FD t ≡ true → marked EN t ≡ false
  unfolding same
  field-no-enum = other-mark t FD EN

  pub group-no-field : group_marked t ≡ true → marked FD t ≡ false
  unfolding same
  group-no-field = group-no FD refl refl

  pub group-no-symbol : group_marked t ≡ true → marked SY t ≡ false
  unfolding same
  group-no-symbol = group-no SY refl refl

  pub symbol-no-field : marked SY t ≡ true → marked FD t ≡ false
  unfolding same
  symbol-no-field = other-mark t SY FD

  pub is-mark : (s : Bool) → marked (group_mark s) t ≡ true → marked GW t ≡ s
  unfolding same
  is-mark true e = e
  is-mark false e = other-mark t GR GW e

  pub own-mark : group_marked t ≡ true → marked (group_mark (marked GW t)) t ≡ true
  own-mark e = let f = group-form t e in rw (is-mark f.0 f.1) f.1

-- WHAT IS DUE

module _ (d : Due) (t : List ℕ) where
  pub due-symbol : 0 < d.owed → d.groups ≡ 0 → is_due d t ≡ marked SY t
  unfolding is_due
  due-symbol h e = rw (lt-ltb 0 d.owed h, eq-eqb d.groups 0 e)

  pub due-field : 0 < d.owed → (d.groups ≡ 0 → ⊥) → is_due d t ≡ marked FD t
  unfolding is_due
  due-field h e = rw (lt-ltb 0 d.owed h, ne_eqb d.groups 0 e)

  pub due-enum : d.owed ≤ 0 → is_enum d t ≡ true → is_due d t ≡ (ltb d.enumerations 64 && (leb 1 (symbol_count t) && leb (symbol_count t) 256))
  unfolding is_due
  due-enum h e = rw (le-ltb 0 d.owed h, e)

  pub due-group : d.owed ≤ 0 → is_enum d t ≡ false → is_due d t ≡ (is_group d t && (ltb d.groups 64 && leb (field_count t) 64))
  unfolding is_due
  due-group h e = rw (le-ltb 0 d.owed h, e)

  pub group-first : d.groups ≡ 0 → is_group d t ≡ group_marked t
  unfolding is_group
  group-first e = rw (eq-eqb d.groups 0 e)

  pub group-next : (d.groups ≡ 0 → ⊥) → (s : Bool) → d.stored ≡ s → is_group d t ≡ marked (group_mark s) t
  unfolding is_group
  group-next e s is = rw (ne_eqb d.groups 0 e, is)

  pub after-owed : 0 < d.owed → due_after d t ≡ record { enumerations = d.enumerations; groups = d.groups; owed = d.owed - 1; stored = d.stored }
  unfolding due_after
  after-owed h = rw (lt-ltb 0 d.owed h)

  pub after-enum : d.owed ≤ 0 → is_enum d t ≡ true → due_after d t ≡ record { enumerations = d.enumerations + 1; groups = d.groups; owed = symbol_count t; stored = d.stored }
  unfolding due_after
  after-enum h e = rw (le-ltb 0 d.owed h, e)

  pub after-group : d.owed ≤ 0 → is_enum d t ≡ false → due_after d t ≡ record { enumerations = d.enumerations; groups = d.groups + 1; owed = field_count t; stored = marked GW t }
  unfolding due_after
  after-group h e = rw (le-ltb 0 d.owed h, e)

-- LISTS

module _ {A : Type 0} (l : List A) where
  pub drop-next : (x : A) (r : List A) (n : ℕ) → drop n l ≡ x ∷ r → drop (n + 1) l ≡ r
  drop-next x r n e = sym (drop-drop 1 n l) ∙ rw e

  pub drop-less : (x : A) (r : List A) (n : ℕ) → drop n l ≡ x ∷ r → n < length l
  drop-less x r n e = let a = length-drop n l in let b = ap length e in omega arith

pub drop-get_d : {A : Type 0} (l : List A) (x d : A) (r : List A) (n : ℕ) → drop n l ≡ x ∷ r → get_or l n d ≡ x
drop-get_d l x d r n e = let h = drop-less l x r n e in let f = drop-cons l n d h in cc

-- ONE RECORD

module _ (t : List ℕ) (w : Whole t) (i : ℕ) (h : 16 * i + 16 ≤ length t) where
  abbrev here : List ℕ
  here = drop (16 * i) t

  abbrev left : ℕ
  left = record_count t - (i + 1)

  one_less : record_count t - i ≡ suc left
  one_less = omega (arith, w.whole)

  further : drop 16 here ≡ drop (16 * (i + 1)) t
  further = let e : 16 * i + 16 ≡ 16 * (i + 1) = omega arith in drop-drop 16 (16 * i) t ∙ rw e

  groups-skip : group_marked here ≡ false → groups_from (enums t) (record_count t - i) here ≡ groups_from (enums t) left (drop (16 * (i + 1)) t)
  unfolding groups_from
  groups-skip e = rw (one_less, groups_from, e, further)

  groups-take : group_marked here ≡ true → groups_from (enums t) (record_count t - i) here ≡ group_at (enums t) here ∷ groups_from (enums t) left (drop (16 * (i + 1)) t)
  unfolding groups_from
  groups-take e = rw (one_less, groups_from, e, further)

  enums-skip : marked EN here ≡ false → enums_from (record_count t - i) here ≡ enums_from left (drop (16 * (i + 1)) t)
  unfolding enums_from
  enums-skip e = rw (one_less, enums_from, e, further)

  enums-take : marked EN here ≡ true → enums_from (record_count t - i) here ≡ values_at (symbol_count here) (drop 16 here) ∷ enums_from left (drop (16 * (i + 1)) t)
  unfolding enums_from
  enums-take e = rw (one_less, enums_from, e, further)

  places-skip : group_marked here ≡ false → places_from (record_count t - i) (16 * i) here ≡ places_from left (16 * (i + 1)) (drop (16 * (i + 1)) t)
  unfolding places_from
  places-skip e = let n : 16 * i + 16 ≡ 16 * (i + 1) = omega arith in rw (one_less, places_from, e, further, n)

  places-take : group_marked here ≡ true → places_from (record_count t - i) (16 * i) here ≡ 16 * i ∷ places_from left (16 * (i + 1)) (drop (16 * (i + 1)) t)
  unfolding places_from
  places-take e = let n : 16 * i + 16 ≡ 16 * (i + 1) = omega arith in rw (one_less, places_from, e, further, n)

  -- one of the records that were announced
  pub begun-owed : (k : List ℕ) (e g o : ℕ) → group_marked here ≡ false → marked EN here ≡ false → 0 < o → Begun t k i e g o → Begun t k (i + 1) e g (o - 1)
  begun-owed k e g o ng ne l b = record {
    long = b.long;
    lists64 = b.lists64;
    groups64 = b.groups64;
    listed = b.listed;
    grouped = b.grouped;
    groups = b.groups ∙ groups-skip ng;
    starts = b.starts ∙ places-skip ng;
    lists = b.lists ∙ enums-skip ne;
    group = b.group;
    start = b.start;
    inside = λ h q. omega (arith, b.inside h q);
    symbols = λ x q r. b.symbols x q (omega arith);
    held = λ x q. omega (arith, b.held x q);
    none = b.none;
    clear = b.clear;
  }

  -- an enumeration
  pub begun-enum : (k k' : List ℕ) (e g o count : ℕ) → marked EN here ≡ true → g ≡ 0 → e < 64 → o ≤ 0 → count ≡ symbol_count here → 1 ≤ count
      → k' ≡ set (set k (128 + e) ((16 * i + 16) % 65536)) (192 + e) count → Begun t k i e g o → Begun t k' (i + 1) (e + 1) g count
  begun-enum k k' e g o count me g0 l z is least new b = record {
    long = ap length new ∙ simp length-set b.long;
    lists64 = omega arith;
    groups64 = omega arith;
    listed = omega (arith, drop-less (enums t) _ _ e all);
    grouped = omega arith;
    groups = b.groups ∙ groups-skip ng;
    starts = b.starts ∙ places-skip ng;
    lists = drop-next (enums t) _ _ e all;
    group = λ h q. absurd (omega arith);
    start = λ h q. absurd (omega arith);
    inside = λ h q. absurd (omega arith);
    symbols = λ x q r. symbols (eqb x e) x refl q r;
    held = λ x q. held (eqb x e) x refl q;
    none = λ x q r. other (192 + x) (omega arith) (omega arith) ∙ b.none x (omega arith) r;
    clear = λ x q. (other (64 + x) (omega arith) (omega arith) ∙ (b.clear x q).0, other (256 + x) (omega arith) (omega arith) ∙ (b.clear x q).1);
  }
    where
      q' : ℕ
      q' = (16 * i + 16) % 65536

      ng : group_marked here ≡ false
      ng = enum-no-group here me

      all : drop e (enums t) ≡ values_at (symbol_count here) (drop 16 here) ∷ enums_from left (drop (16 * (i + 1)) t)
      all = b.lists ∙ enums-take me

      other : (j : ℕ) → (j ≡ 128 + e → ⊥) → (j ≡ 192 + e → ⊥) → get_or k' j 0 ≡ get_or k j 0
      other j p q = rw new (get_or-set_other (set k (128 + e) q') (192 + e) j count 0 q ∙ get_or-set_other k (128 + e) j q' 0 p)

      place : get_or k' (128 + e) 0 ≡ q'
      place = rw new (get_or-set_other (set k (128 + e) q') (192 + e) (128 + e) count 0 (omega arith) ∙ get_or-set_same k (128 + e) q' 0 (omega (arith, b.long)))

      total : get_or k' (192 + e) 0 ≡ count
      total = rw new (get_or-set_same (set k (128 + e) q') (192 + e) count 0 (simp length-set (omega (arith, b.long))))

      symbols : (c : Bool) (x : ℕ) → eqb x e ≡ c → x < e + 1 → i + 1 + count ≤ record_count t → get_or (enums t) x [] ≡ values_at (symbol_total k' x) (drop (symbol_place k' x) t)
      symbols true x q r fits =
          let y = eqb-true x e q in
          let s : q' ≡ 16 * i + 16 = mod-eq_of_lt (omega (arith, w.whole, w.small)) in
          rw (y, total, place, s, is) (drop-get_d (enums t) _ [] _ e all ∙ rw (drop-drop 16 (16 * i) t))
      symbols false x q r fits =
          let y = eqb-false x e q in
          let a = other (192 + x) (omega arith) (omega arith) in
          let d = other (128 + x) (omega arith) (omega arith) in
          rw (a, d) (b.symbols x (omega arith) (omega (arith, w.whole)))

      held : (c : Bool) (x : ℕ) → eqb x e ≡ c → x < 64 → symbol_place k' x + 16 * symbol_total k' x ≤ 16 * (i + 1 + count)
      held true x q r = let y = eqb-true x e q in let m : q' ≤ 16 * i + 16 = omega arith in rw (y, total, place) (omega arith)
      held false x q r =
          let y = eqb-false x e q in
          let a = other (192 + x) (omega arith) (omega arith) in
          let d = other (128 + x) (omega arith) (omega arith) in
          rw (a, d) (omega (arith, b.held x r))

  -- a group
  pub begun-group : (k k' : List ℕ) (e g o count : ℕ) → group_marked here ≡ true → g < 64 → o ≤ 0 → count ≡ field_count here
      → k' ≡ set k g (16 * i) → Begun t k i e g o → Begun t k' (i + 1) e (g + 1) count
  begun-group k k' e g o count mg l z is new b = record {
    long = ap length new ∙ simp length-set b.long;
    lists64 = b.lists64;
    groups64 = omega arith;
    listed = b.listed;
    grouped = omega (arith, drop-less (schema t) _ _ g all);
    groups = drop-next (schema t) _ _ g all;
    starts = drop-next (places t) _ _ g begins;
    lists = b.lists ∙ enums-skip (group-no-enum here mg);
    group = λ h q. group (eqb h g) h refl q;
    start = λ h q. start (eqb h g) h refl q;
    inside = λ h q. inside (eqb h g) h refl q;
    symbols = λ x q r. symbols x q;
    held = λ x q. held x q;
    none = λ x q r. other (192 + x) (omega arith) ∙ b.none x q r;
    clear = λ x q. (other (64 + x) (omega arith) ∙ (b.clear x q).0, other (256 + x) (omega arith) ∙ (b.clear x q).1);
  }
    where
      all : drop g (schema t) ≡ group_at (enums t) here ∷ groups_from (enums t) left (drop (16 * (i + 1)) t)
      all = b.groups ∙ groups-take mg

      begins : drop g (places t) ≡ 16 * i ∷ places_from left (16 * (i + 1)) (drop (16 * (i + 1)) t)
      begins = b.starts ∙ places-take mg

      other : (j : ℕ) → (j ≡ g → ⊥) → get_or k' j 0 ≡ get_or k j 0
      other j p = rw new (get_or-set_other k g j (16 * i) 0 p)

      place : get_or k' g 0 ≡ 16 * i
      place = rw new (get_or-set_same k g (16 * i) 0 (omega (arith, b.long)))

      group : (c : Bool) (h : ℕ) → eqb h g ≡ c → h < g + 1 → drop h (schema t) ≡ group_at (enums t) (drop (group_place k' h) t) ∷ drop (h + 1) (schema t)
      group true h q r = let y = eqb-true h g q in rw (y, place) (all ∙ ap (λ (x : List Group). group_at (enums t) here ∷ x) (sym (drop-next (schema t) _ _ g all)))
      group false h q r = let y = eqb-false h g q in rw (other h y) (b.group h (omega arith))

      start : (c : Bool) (h : ℕ) → eqb h g ≡ c → h < g + 1 → drop h (places t) ≡ group_place k' h ∷ drop (h + 1) (places t)
      start true h q r = let y = eqb-true h g q in rw (y, place) (begins ∙ ap (λ (x : List ℕ). 16 * i ∷ x) (sym (drop-next (places t) _ _ g begins)))
      start false h q r = let y = eqb-false h g q in rw (other h y) (b.start h (omega arith))

      inside : (c : Bool) (h : ℕ) → eqb h g ≡ c → h < g + 1 → group_place k' h + 16 + 16 * field_count (drop (group_place k' h) t) ≤ 16 * (i + 1 + count)
      inside true h q r = let y = eqb-true h g q in rw (y, place) (omega (arith, is))
      inside false h q r = let y = eqb-false h g q in rw (other h y) (omega (arith, b.inside h (omega arith)))

      symbols : (x : ℕ) → x < e → get_or (enums t) x [] ≡ values_at (symbol_total k' x) (drop (symbol_place k' x) t)
      symbols x q = let a = other (192 + x) (omega arith) in let d = other (128 + x) (omega arith) in rw (a, d) (b.symbols x q (omega (arith, w.whole)))

      held : (x : ℕ) → x < 64 → symbol_place k' x + 16 * symbol_total k' x ≤ 16 * (i + 1 + count)
      held x q = let a = other (192 + x) (omega arith) in let d = other (128 + x) (omega arith) in rw (a, d) (omega (arith, b.held x q))

-- THE ENDS

-- no record yet
pub begun-none : (t : List ℕ) → Begun t (replicate 322 0) 0 0 0 0
unfolding schema enums places
begun-none t = record {
  long = refl;
  lists64 = omega arith;
  groups64 = omega arith;
  listed = omega arith;
  grouped = omega arith;
  groups = ap (λ (n : ℕ). groups_from (enums t) n t) none;
  starts = ap (λ (n : ℕ). places_from n 0 t) none;
  lists = ap (λ (n : ℕ). enums_from n t) none;
  group = λ h q. absurd (omega arith);
  start = λ h q. absurd (omega arith);
  inside = λ h q. absurd (omega arith);
  symbols = λ x q r. absurd (omega arith);
  held = λ x q. let a = zero-at (128 + x) (omega arith) in let b = zero-at (192 + x) (omega arith) in rw (a, b) (omega arith);
  none = λ x q r. zero-at (192 + x) (omega arith);
  clear = λ x q. (zero-at (64 + x) (omega arith), zero-at (256 + x) (omega arith));
}
  where
    none : record_count t ≡ record_count t - 0
    none = omega arith

    zero-at : (j : ℕ) → j < 322 → ◌≡◌ {A = ℕ} (get_or (replicate 322 0) j 0) 0
    zero-at j h = get_or-replicate 322 j 0 0 h

-- every record
pub begun_all : (t k : List ℕ) (e g : ℕ) → Whole t → Begun t k (record_count t) e g 0 → Placing t (set (set k 320 g) 321 e)
unfolding groups_from enums_from places_from values_at
begun_all t k e g w b = record {
  long = simp length-set b.long;
  few = rw (← many) b.groups64;
  lists = rw (← listed) b.lists64;
  total = get_or-set_other (set k 320 g) 321 320 e 0 (omega arith) ∙ get_or-set_same k 320 g 0 (omega (arith, b.long)) ∙ many;
  enumerations = get_or-set_same (set k 320 g) 321 e 0 (simp length-set (omega (arith, b.long))) ∙ listed;
  placed = rw (← many) (record { group = λ h q. group h q; inside = λ h q. inside h q });
  start = λ h q. start h (rw (← many) at q);
  last = rw (← many) (b.starts ∙ rw none);
  symbols = λ x q. symbols (ltb x e) x refl q;
  held = λ x q. held x q;
}
  where
    k' : List ℕ
    k' = set (set k 320 g) 321 e

    none : record_count t - record_count t ≡ 0
    none = omega arith

    many : g ≡ length (schema t)
    many = let a = ap length b.groups in let c = rw none at a in omega (arith, c, length-drop g (schema t), b.grouped)

    listed : e ≡ length (enums t)
    listed = let a = ap length b.lists in let c = rw none at a in omega (arith, c, length-drop e (enums t), b.listed)

    other : (j : ℕ) → j < 320 → get_or k' j 0 ≡ get_or k j 0
    other j p = get_or-set_other (set k 320 g) 321 j e 0 (omega arith) ∙ get_or-set_other k 320 j g 0 (omega arith)

    group : (h : ℕ) → h < g → drop h (schema t) ≡ group_at (enums t) (drop (group_place k' h) t) ∷ drop (h + 1) (schema t)
    group h q = rw (other h (omega (arith, b.groups64))) (b.group h q)

    inside : (h : ℕ) → h < g → group_place k' h + 16 + 16 * field_count (drop (group_place k' h) t) ≤ length t
    inside h q = rw (other h (omega (arith, b.groups64))) (omega (arith, b.inside h q, w.whole))

    start : (h : ℕ) → h < g → drop h (places t) ≡ group_place k' h ∷ drop (h + 1) (places t)
    start h q = rw (other h (omega (arith, b.groups64))) (b.start h q)

    symbols : (c : Bool) (x : ℕ) → ltb x e ≡ c → x < 64 → get_or (enums t) x [] ≡ values_at (symbol_total k' x) (drop (symbol_place k' x) t)
    symbols true x q r = let a = other (192 + x) (omega arith) in let d = other (128 + x) (omega arith) in rw (a, d) (b.symbols x (ltb-true x e q) (omega arith))
    symbols false x q r =
        let l = ltb-false x e q in
        let a = other (192 + x) (omega arith) ∙ b.none x l r in
        rw a (get_or-eq_default (enums t) [] (omega (arith, listed)))

    held : (x : ℕ) → x < 64 → symbol_place k' x + 16 * symbol_total k' x ≤ length t
    held x q = let a = other (192 + x) (omega arith) in let d = other (128 + x) (omega arith) in rw (a, d) (omega (arith, b.held x q, w.whole))

pub stopped : (v : Verdict) (f : Fault) (t k : List ℕ) → Err f ≡ v → length k ≡ 322 → Shaped v (Err f) t k
stopped v f t k e l = record { verdict = e; long = l; placing = λ q. absurd (never q); blank = λ q. absurd (never q) }

pub placed-all : (t k k' k'' : List ℕ) (i e g o : ℕ) → Whole t → i ≡ record_count t → o ≡ 0 → k' ≡ set k 320 g → k'' ≡ set k' 321 e → Begun t k i e g o
    → Ok tt ≡ shape_verdict t → Shaped (shape_verdict t) (Ok tt) t k''
placed-all t k k' k'' i e g o w at none p q b v = record {
  verdict = v;
  long = rw all (simp length-set b.long);
  placing = λ _. rw all (begun_all t k e g w (rw (none, at) at b));
  blank = λ _ x l. (other (64 + x) (omega arith) ∙ (b.clear x l).0, other (256 + x) (omega arith) ∙ (b.clear x l).1);
}
  where
    all : k'' ≡ set (set k 320 g) 321 e
    all = rw p at q

    other : (j : ℕ) → j < 320 → get_or k'' j 0 ≡ get_or k j 0
    other j l = rw all (get_or-set_other (set k 320 g) 321 j e 0 (omega arith) ∙ get_or-set_other k 320 j g 0 (omega arith))

-- what follows for a record that is due

module _ (d : Due) (t : List ℕ) where
  pub owed-marks : 0 < d.owed → is_due d t ≡ true → (group_marked t ≡ false) × (marked EN t ≡ false)
  owed-marks h e = go (eqb d.groups 0) refl
    where
      go : (c : Bool) → eqb d.groups 0 ≡ c → (group_marked t ≡ false) × (marked EN t ≡ false)
      go true q = let m = sym (due-symbol d t h (eqb-true d.groups 0 q)) ∙ e in (symbol-no-group t m, symbol-no-enum t m)
      go false q = let m = sym (due-field d t h (eqb-false d.groups 0 q)) ∙ e in (field-no-group t m, field-no-enum t m)

  pub enum_is : is_enum d t ≡ true → (d.groups ≡ 0) × (marked EN t ≡ true)
  unfolding is_enum
  enum_is e = let b = and_both (eqb d.groups 0) (marked EN t) e in (eqb-true d.groups 0 b.0, b.1)

  pub enum-due : d.owed ≤ 0 → is_enum d t ≡ true → is_due d t ≡ true → (d.enumerations < 64) × (1 ≤ symbol_count t) × (symbol_count t ≤ 256)
  enum-due h e u =
      let b = and_both _ _ (sym (due-enum d t h e) ∙ u) in
      let f = and_both _ _ b.1 in
      (ltb-true d.enumerations 64 b.0, leb-true 1 (symbol_count t) f.0, leb-true (symbol_count t) 256 f.1)

  pub group-marked : is_group d t ≡ true → group_marked t ≡ true
  unfolding is_group
  group-marked e = go (eqb d.groups 0) e
    where
      go : (c : Bool) → cond c (group_marked t) (marked (group_mark d.stored) t) ≡ true → group_marked t ≡ true
      go true e = e
      go false e = form-group t d.stored e

  pub group-due : d.owed ≤ 0 → is_enum d t ≡ false → is_due d t ≡ true → (is_group d t ≡ true) × (d.groups < 64) × (field_count t ≤ 64)
  group-due h e u =
      let b = and_both _ _ (sym (due-group d t h e) ∙ u) in
      let f = and_both _ _ b.1 in
      (b.0, ltb-true d.groups 64 f.0, leb-true (field_count t) 64 f.1)

-- THE VERDICT

pub shape-start : (t : List ℕ) → shape_verdict t ≡ shape_from (record_count t - 0) (record { enumerations = 0; groups = 0; owed = 0; stored = false }) (16 * 0) (drop (16 * 0) t)
unfolding shape_verdict
shape-start t = let z : record_count t ≡ record_count t - 0 = omega arith in ap (λ (n : ℕ). shape_from n (record { enumerations = 0; groups = 0; owed = 0; stored = false }) 0 t) z

module _ (t : List ℕ) (w : Whole t) (d : Due) (i : ℕ) where
  pub shape-turn : 16 * i + 16 ≤ length t → shape_from (record_count t - i) d (16 * i) (drop (16 * i) t)
      ≡ need (is_due d (drop (16 * i) t)) (Err (fault_at 31 (16 * i))) (shape_from (record_count t - (i + 1)) (due_after d (drop (16 * i) t)) (16 * (i + 1)) (drop (16 * (i + 1)) t))
  unfolding shape_from
  shape-turn h = let n : 16 * i + 16 ≡ 16 * (i + 1) = omega arith in rw (one_less t w i h, shape_from, further t w i h, n)

  pub shape-end : i ≡ record_count t → shape_from (record_count t - i) d (16 * i) (drop (16 * i) t) ≡ need (eqb d.owed 0) (Err (fault_at 31 (length t))) (Ok tt)
  unfolding shape_from
  shape-end e = let z : record_count t - i ≡ 0 = omega arith in let p : 16 * i ≡ length t = omega (arith, w.whole) in rw (z, shape_from, p)

-- 32, 33, 34

module _ (t : List ℕ) (w : Whole t) (ne : ℕ) (gs : List Group) (next low i : ℕ) (h : 16 * i + 16 ≤ length t) where
  pub records-turn : (v : Verdict) → v ≡ record_verdict ne gs next low (16 * i) (drop (16 * i) t)
      → records_from ne gs (record_count t - i) next low (16 * i) (drop (16 * i) t)
      ≡ also v (records_from ne gs (record_count t - (i + 1)) (cond (group_marked (drop (16 * i) t)) (next + 1) next) (cond (marked SY (drop (16 * i) t)) (rank (symbol_value (drop (16 * i) t)) + 1) 0) (16 * (i + 1)) (drop (16 * (i + 1)) t))
  unfolding records_from
  records-turn v e = let n : 16 * i + 16 ≡ 16 * (i + 1) = omega arith in rw (one_less t w i h, ← e, further t w i h, n)

pub records-start : (t : List ℕ) → records_verdict t ≡ records_from (length (enums t)) (schema t) (record_count t - 0) 0 0 (16 * 0) (drop (16 * 0) t)
unfolding records_verdict
records-start t = let z : record_count t ≡ record_count t - 0 = omega arith in ap (λ (n : ℕ). records_from (length (enums t)) (schema t) n 0 0 0 t) z

pub records-end : (t : List ℕ) (ne : ℕ) (gs : List Group) (next low i : ℕ) → record_count t ≤ i → records_from ne gs (record_count t - i) next low (16 * i) (drop (16 * i) t) ≡ Ok tt
unfolding records_from
records-end t ne gs next low i h = let z : record_count t - i ≡ 0 = omega arith in rw z

-- the groups that are left, after one record more
pub record Left (t : List ℕ) (next i : ℕ) : Type 0 where
  pub groups : drop next (schema t) ≡ groups_from (enums t) (record_count t - i) (drop (16 * i) t)
  pub counted : next ≤ length (schema t)

pub left-start : (t : List ℕ) → Left t 0 0
unfolding schema
left-start t = let z : record_count t ≡ record_count t - 0 = omega arith in record { groups = ap (λ (n : ℕ). groups_from (enums t) n t) z; counted = omega arith }

pub left-turn : (t : List ℕ) → Whole t → (next i : ℕ) → 16 * i + 16 ≤ length t → Left t next i → Left t (cond (group_marked (drop (16 * i) t)) (next + 1) next) (i + 1)
left-turn t w next i h l = go (group_marked (drop (16 * i) t)) refl
  where
    go : (c : Bool) → group_marked (drop (16 * i) t) ≡ c → Left t (cond c (next + 1) next) (i + 1)
    go true e = let all = l.groups ∙ groups-take t w i h e in record { groups = drop-next (schema t) _ _ next all; counted = omega (arith, drop-less (schema t) _ _ next all) }
    go false e = record { groups = l.groups ∙ groups-skip t w i h e; counted = l.counted }
