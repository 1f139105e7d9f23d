-- The shape of a table that passed 31, what 32 to 34 leave of its schema, its index, and the phases in a row.
use Rattle.std.proofs.Common.{Ok, Err}
use mathlib.Core.Path.{◌≡◌, refl, sym, ap, ◌∙◌}
use mathlib.Core.Bool.{Bool, true, false, cond, ◌&&◌, ◌||◌}
use mathlib.Core.List.{List, [], ◌∷◌}
use Prim.Native.Nat.{ℕ, zero, suc, ◌+◌, ◌-◌, ◌%◌, ◌<◌, ◌≤◌}
use native.Mathlib.Omega.{arith}
use lib.ListN.{length, drop, get_or}
use lib.Seq.{drop-drop}
use lib.Dec.{leb, ltb, eqb}
use borrow.Author.Tests.{eqb-true, eqb-false, ltb-true, ltb-false, leb-true, le-leb}
use Rattle.schema.specs.declared.Fault.{Fault}
use Rattle.schema.specs.Faults.{Verdict, fault_at, need, also}
use Rattle.schema.specs.Schema.{Kind, Group, fields_of, super_of}
use Rattle.schema.specs.Table.{EN, SY, GW, FD, marked, group_marked, symbol_count, super_number, field_count, field_type, field_size, reference, scalar_widths, scalar_width, kind_of, field_at, fields_at, group_at, groups_from, places_from, record_count, enums, schema, places, Due, is_enum, group_mark, is_due, due_after, shape_from, shape_verdict, size_ok, reference_ok, field_verdict, group_verdict, records_from, records_verdict, any_id, id_verdict, widths_verdict, supers_verdict, stored_verdict, table_verdict}
use Rattle.schema.specs.Symbols.{Ordered}
use Rattle.schema.specs.Layout.{Layout}
use Rattle.table.specs.Index.{Whole, Placing}
use Rattle.table.specs.Measure.{sound_kind, sound_fields, Sound, Sized}
use Rattle.table.proofs.Laws.{cond_yes, need-accepted, also-accepted, need-yes, need-stop, also-pass, also-stop, record-field, record-group}
use Rattle.table.proofs.Records.{due-symbol, due-field, after-owed, after-enum, after-group, enum_is, enum-due, group-due, group-next, group-marked, own-mark, is-mark, symbol-no-group, field-no-group, enum-no-group, group-no-field, group-no-symbol}
use Rattle.schema.proofs.Depth.{and_both}
use Rattle.table.proofs.Stored.{stored_at}

-- THE SHAPE: n records from t on, when e enumerations and g groups came before, which store their widths or not, and o records are owed

pub data Formed : ℕ → ℕ → ℕ → ℕ → Bool → List ℕ → Type 0 where
  end : {e g o : ℕ} {s : Bool} {t : List ℕ} → o ≡ 0 → Formed 0 e g o s t
  symbol : {n e g o : ℕ} {s : Bool} {t : List ℕ} → 0 < o → g ≡ 0 → marked SY t ≡ true → Formed n e g (o - 1) s (drop 16 t) → Formed (suc n) e g o s t
  field : {n e g o : ℕ} {s : Bool} {t : List ℕ} → 0 < o → (g ≡ 0 → ⊥) → marked FD t ≡ true → Formed n e g (o - 1) s (drop 16 t) → Formed (suc n) e g o s t
  enum : {n e g o : ℕ} {s : Bool} {t : List ℕ} → o ≤ 0 → g ≡ 0 → marked EN t ≡ true → e < 64 → symbol_count t ≤ 256 → Formed n (e + 1) g (symbol_count t) s (drop 16 t) → Formed (suc n) e g o s t
  group : {n e g o : ℕ} {s : Bool} {t : List ℕ} → o ≤ 0 → group_marked t ≡ true → ((g ≡ 0 → ⊥) → marked (group_mark s) t ≡ true) → g < 64
      → Formed n e (g + 1) (field_count t) (marked GW t) (drop 16 t) → Formed (suc n) e g o s t

abbrev FormedDue : ℕ → Due → List ℕ → Type 0
FormedDue n d = Formed n d.enumerations d.groups d.owed d.stored

pub formed : (n : ℕ) (d : Due) (p : ℕ) (t : List ℕ) → shape_from n d p t ≡ Ok tt → FormedDue n d t
unfolding shape_from
formed zero d p t h = end (eqb-true d.owed 0 (need-accepted (eqb d.owed 0) 31 p (Ok tt) h).0)
formed (suc n) d p t h =
    let a = need-accepted (is_due d t) 31 p (shape_from n (due_after d t) (p + 16) (drop 16 t)) h in
    go (λ d' q. formed n d' (p + 16) (drop 16 t) q) a.0 a.1 (ltb 0 d.owed) refl
  where
    go : ((d' : Due) → shape_from n d' (p + 16) (drop 16 t) ≡ Ok tt → FormedDue n d' (drop 16 t)) → is_due d t ≡ true
        → shape_from n (due_after d t) (p + 16) (drop 16 t) ≡ Ok tt → (c : Bool) → ltb 0 d.owed ≡ c → FormedDue (suc n) d t
    go ih is r true q = more (eqb d.groups 0) refl
      where
        l : 0 < d.owed
        l = ltb-true 0 d.owed q

        rest : Formed n d.enumerations d.groups (d.owed - 1) d.stored (drop 16 t)
        rest = ih _ (rw (after-owed d t l) at r)

        more : (c : Bool) → eqb d.groups 0 ≡ c → FormedDue (suc n) d t
        more true z = let y = eqb-true d.groups 0 z in symbol l y (sym (due-symbol d t l y) ∙ is) rest
        more false z = let y = eqb-false d.groups 0 z in field l y (sym (due-field d t l y) ∙ is) rest
    go ih is r false q = begin (is_enum d t) refl
      where
        l : d.owed ≤ 0
        l = ltb-false 0 d.owed q

        begin : (c : Bool) → is_enum d t ≡ c → FormedDue (suc n) d t
        begin true z =
            let m = enum_is d t z in
            let c = enum-due d t l z is in
            enum l m.0 m.1 c.0 c.2 (ih _ (rw (after-enum d t l z) at r))
        begin false z =
            let m = group-due d t l z is in
            group l (group-marked d t m.0) (λ h. sym (group-next d t h _ refl) ∙ m.0) m.1 (ih _ (rw (after-group d t l z) at r))

-- ONE MARK

-- the groups of u at the places ps have one mark; where g groups came before, that of the last
abbrev OneMark : List ℕ → ℕ → Bool → List ℕ → Type 0
OneMark u g s ps = (b : Bool) × ((g ≡ 0 → ⊥) → b ≡ s) × ((i : ℕ) → i < length ps → marked (group_mark b) (drop (get_or ps i 0) u) ≡ true)

next-at : {t : List ℕ} (u : List ℕ) (p : ℕ) → t ≡ drop p u → drop 16 t ≡ drop (p + 16) u
next-at u p at = ap (drop 16) at ∙ drop-drop 16 p u

one-mark : {n e g o : ℕ} {s : Bool} {t : List ℕ} → Formed n e g o s t → (u : List ℕ) (p : ℕ) → t ≡ drop p u → OneMark u g s (places_from n p t)
unfolding places_from
one-mark {s = s} (end z) u p at = (s, λ _. refl, λ i l. absurd (omega arith))
one-mark {t = t} (symbol _ _ m f) u p at = rw (symbol-no-group t m) (one-mark f u (p + 16) (next-at u p at))
one-mark {t = t} (field _ _ m f) u p at = rw (field-no-group t m) (one-mark f u (p + 16) (next-at u p at))
one-mark {t = t} (enum _ _ m _ _ f) u p at = rw (enum-no-group t m) (one-mark f u (p + 16) (next-at u p at))
one-mark {n = suc n} {g = g} {s = s} {t = t} (group _ m alike _ f) u p at = rw m (more (one-mark f u (p + 16) (next-at u p at)))
  where
    more : OneMark u (g + 1) (marked GW t) (places_from n (p + 16) (drop 16 t)) → OneMark u g s (p ∷ places_from n (p + 16) (drop 16 t))
    more (b, is, rest) = (b, (λ q. own ∙ is-mark t s (alike q)), each)
      where
        own : b ≡ marked GW t
        own = is (λ z. omega arith)

        each : (i : ℕ) → i < length (p ∷ places_from n (p + 16) (drop 16 t)) → marked (group_mark b) (drop (get_or (p ∷ places_from n (p + 16) (drop 16 t)) i 0) u) ≡ true
        each zero l = rw (own, ← at) (own-mark t m)
        each (suc i) l = rest i (omega arith)

pub all-marked : (t : List ℕ) → shape_verdict t ≡ Ok tt → (b : Bool) × ((g : ℕ) → g < length (places t) → marked (group_mark b) (drop (get_or (places t) g 0) t) ≡ true)
unfolding shape_verdict places
all-marked t s = let r = one-mark (formed (record_count t) _ 0 t s) t 0 refl in (r.0, r.2)

-- A FIELD

positive : List ℕ → Bool
positive [] = true
positive (x ∷ xs) = leb 1 x && positive xs

positive-at : (l : List ℕ) (n : ℕ) → positive l ≡ true → 1 ≤ get_or l n 4
unfolding positive
positive-at [] n e = omega arith
positive-at (x ∷ xs) zero e = leb-true 1 x (and_both (leb 1 x) (positive xs) e).0
positive-at (x ∷ xs) (suc n) e = positive-at xs n (and_both (leb 1 x) (positive xs) e).1

scalar-wide : (n : ℕ) → leb 1 (scalar_width n) ≡ true
unfolding scalar_width positive
scalar-wide n = le-leb 1 _ (positive-at scalar_widths n refl)

nonzero : (n : ℕ) → (n ≡ 0 → ⊥) → leb 1 n ≡ true
nonzero n h = le-leb 1 n (omega arith)

module _ (ne ng own : ℕ) (es : List (List ℕ)) (type size ref : ℕ) (z : size_ok type size ≡ true) (r : reference_ok ne ng own type ref ≡ true) where
  pick : (c : Bool) (x y : Kind) → (c ≡ true → sound_kind ng own x ≡ true) → (c ≡ false → sound_kind ng own y ≡ true) → sound_kind ng own (cond c x y) ≡ true
  pick true x y f g = f refl
  pick false x y f g = g refl

  fixed : eqb type 19 ≡ true → leb 1 size ≡ true
  unfolding size_ok
  fixed e = (and_both (leb 1 size) (leb size 255) (rw (eqb-true type 19 e) at z)).0

  capacity : (eqb type 17 || eqb type 18) ≡ true → eqb size 0 ≡ false → (leb 1 size && leb size 255) ≡ true
  unfolding size_ok
  capacity t e = rw (nonzero size (eqb-false size 0 e)) (sym (cond_yes _ _ _ t) ∙ z)

  lower : eqb type 21 ≡ true → ltb ref own ≡ true
  unfolding reference_ok
  lower e = rw (eqb-true type 21 e) at r

  among : eqb type 22 ≡ true → leb (ref + 1) ng ≡ true
  unfolding reference_ok
  among e = le-leb (ref + 1) ng (omega (arith, ltb-true ref ng (rw (eqb-true type 22 e) at r)))

  pub kind-sound : sound_kind ng own (kind_of es type size ref) ≡ true
  unfolding kind_of sound_kind
  kind-sound =
      pick (eqb type 11) _ _ (λ _. refl) (λ _. pick (eqb type 15) _ _ (λ _. refl) (λ _. pick (eqb type 16) _ _ (λ _. refl)
      (λ _. pick (leb type 16) _ _ (λ _. scalar-wide type) (λ _. pick (eqb type 17 || eqb type 18) _ _ (λ t. pick (eqb size 0) _ _ (λ _. refl) (capacity t))
      (λ _. pick (eqb type 19) _ _ fixed (λ _. pick (eqb type 20) _ _ (λ _. refl)
      (λ _. pick (eqb type 21) _ _ lower (λ _. pick (eqb type 22) _ _ among (λ _. le-leb 0 ng (omega arith))))))))))

field-sound : (es : List (List ℕ)) (ne ng own p : ℕ) (t : List ℕ) → field_verdict ne ng own p t ≡ Ok tt → sound_kind ng own (field_at es t).kind ≡ true
unfolding field_verdict field_at
field-sound es ne ng own p t e =
    let a = (need-accepted _ _ _ _ (need-accepted _ _ _ _ e).1).0 in
    let b = (and_both (leb (field_type t) 23) (size_ok (field_type t) (field_size t) && reference_ok ne ng own (field_type t) (reference t)) (and_both (leb 1 (field_type t)) _ a).1).1 in
    let c = and_both (size_ok (field_type t) (field_size t)) (reference_ok ne ng own (field_type t) (reference t)) b in
    kind-sound ne ng own es (field_type t) (field_size t) (reference t) c.0 c.1

super-low : (gs : List Group) (own p : ℕ) (t : List ℕ) → group_verdict gs own p t ≡ Ok tt → super_number t ≤ own
unfolding group_verdict
super-low gs own p t e = leb-true (super_number t) own (need-accepted _ _ _ _ (need-accepted _ _ _ _ e).1).0

-- THE GROUPS, the first of which has number own

sound_from : ℕ → ℕ → List Group → Bool
sound_from ng own [] = true
sound_from ng own (x ∷ gs) = (sound_fields ng own x.fields && leb x.super own) && sound_from ng (own + 1) gs

module _ (es : List (List ℕ)) (ne : ℕ) (gs : List Group) where
  sounds : {n e g o : ℕ} {s : Bool} {t : List ℕ} → Formed n e g o s t → (low p : ℕ) → records_from ne gs n g low p t ≡ Ok tt
      → (sound_from (length gs) g (groups_from es n t) ≡ true) × ((g ≡ 0 → ⊥) → sound_fields (length gs) (g - 1) (fields_at es o t) ≡ true)
  unfolding records_from groups_from fields_at sound_from sound_fields group_at
  sounds (end z) low p h = (refl, λ _. rw z)
  sounds {t = t} (symbol l z m f) low p h =
      let n = symbol-no-group t m in
      let r = sounds f _ _ (rw n at (also-accepted _ _ h).1) in
      (rw n r.0, λ q. absurd (q z))
  sounds {g = g} {o = o} {t = t} (field l z m f) low p h =
      let n = field-no-group t m in
      let v = also-accepted _ _ h in
      let r = sounds f _ _ (rw n at v.1) in
      let s = field-sound es ne (length gs) (g - 1) p t (sym (record-field ne gs g low p t m) ∙ v.0) in
      let k : o ≡ suc (o - 1) = omega arith in
      (rw n r.0, λ q. rw (k, s) (r.1 q))
  sounds {t = t} (enum l z m _ _ f) low p h =
      let n = enum-no-group t m in
      let r = sounds f _ _ (rw n at (also-accepted _ _ h).1) in
      (rw n r.0, λ q. absurd (q z))
  sounds {g = g} {o = o} {t = t} (group l m _ _ f) low p h =
      let v = also-accepted _ _ h in
      let r = sounds f _ _ (rw m at v.1) in
      let s = super-low gs g p t (sym (record-group ne gs g low p t (group-no-field t m) (group-no-symbol t m) m) ∙ v.0) in
      let back : g + 1 - 1 ≡ g = omega arith in
      let a = rw back at (r.1 (omega arith)) in
      let k : o ≡ 0 = omega arith in
      (rw (m, a, le-leb (super_number t) g s) r.0, λ q. rw k)

from-sound : (ng own : ℕ) (gs : List Group) → sound_from ng own gs ≡ true → (g : ℕ) → (sound_fields ng (own + g) (fields_of gs g) ≡ true) × (super_of gs g ≤ own + g)
unfolding sound_from fields_of super_of sound_fields
from-sound ng own [] e g = (refl, omega arith)
from-sound ng own (x ∷ gs) e zero =
    let a = and_both (sound_fields ng own x.fields) (leb x.super own) (and_both (sound_fields ng own x.fields && leb x.super own) (sound_from ng (own + 1) gs) e).0 in
    let z : own + 0 ≡ own = omega arith in
    (rw z a.0, omega (arith, leb-true x.super own a.1))
from-sound ng own (x ∷ gs) e (suc g) =
    let r = from-sound ng (own + 1) gs (and_both (sound_fields ng own x.fields && leb x.super own) (sound_from ng (own + 1) gs) e).1 g in
    let z : own + 1 + g ≡ own + suc g = omega arith in
    (rw z at r.0, omega (arith, r.1))

module _ (t : List ℕ) (s : shape_verdict t ≡ Ok tt) (r : records_verdict t ≡ Ok tt) where
  all_sound : sound_from (length (schema t)) 0 (schema t) ≡ true
  unfolding shape_verdict records_verdict schema
  all_sound = (sounds (enums t) (length (enums t)) (schema t) (formed (record_count t) _ 0 t s) 0 0 r).0

  pub schema-sound : Sound (schema t)
  schema-sound g = let z : 0 + g ≡ g = omega arith in rw z at (from-sound (length (schema t)) 0 (schema t) all_sound g).0

  pub supers-low : (g : ℕ) → super_of (schema t) g ≤ g
  supers-low g = omega (arith, (from-sound (length (schema t)) 0 (schema t) all_sound g).1)

-- THE INDEX

pub layout_of : (t k : List ℕ) → Placing t k → Sized t k → Whole t → ((g : ℕ) → super_of (schema t) g ≤ g) → ((e : ℕ) → Ordered (get_or (enums t) e []))
    → stored_verdict t ≡ Ok tt → Layout t k
layout_of t k p z w low ordered own = record {
  long = p.long;
  small = w.small;
  few = p.few;
  total = p.total;
  placed = p.placed;
  wide = z.wide;
  stored = λ g l m. z.wide 5 g (z.shallows g) ∙ sym (stored_at t k p own g l m);
  narrow = z.narrow;
  shallows = z.shallows;
  symbols = p.symbols;
  held = p.held;
  ordered = ordered;
  lists = p.lists;
  supers = low;
}

-- THE PHASES IN A ROW

module _ (t : List ℕ) where
  abbrev pub sized : Bool
  sized = ltb 0 (length t) && (leb (length t) 65536 && eqb (length t % 16) 0)

  pub whole_of : sized ≡ true → Whole t
  whole_of e =
      let a = and_both (leb (length t) 65536) (eqb (length t % 16) 0) (and_both (ltb 0 (length t)) _ e).1 in
      record { whole = omega (arith, eqb-true (length t % 16) 0 a.1); small = leb-true (length t) 65536 a.0 }

  pub after-30 : (f : Fault) → Err f ≡ need {X = Verdict} sized (Err (fault_at 30 0)) (Ok tt) → Err f ≡ table_verdict t
  unfolding table_verdict
  after-30 f e = need-stop _ _ refl e

  module _ (z : sized ≡ true) where
    pub after-31 : (f : Fault) → Err f ≡ shape_verdict t → Err f ≡ table_verdict t
    unfolding table_verdict
    after-31 f e = also-stop _ _ f e ∙ sym (need-yes _ _ _ z)

    module _ (s : shape_verdict t ≡ Ok tt) where
      pub after-34 : (f : Fault) → Err f ≡ records_verdict t → Err f ≡ table_verdict t
      unfolding table_verdict
      after-34 f e = also-stop _ _ f e ∙ sym (need-yes _ _ _ z ∙ also-pass _ _ (sym s))

      module _ (r : records_verdict t ≡ Ok tt) where
        pub after-ids : (f : Fault) → Err f ≡ need {X = Verdict} (any_id (schema t)) (Err (fault_at 34 (length t))) (Ok tt) → Err f ≡ table_verdict t
        unfolding table_verdict id_verdict
        after-ids f e = also-stop _ _ f e ∙ sym (need-yes _ _ _ z ∙ also-pass _ _ (sym s) ∙ also-pass _ _ (sym r))

        pub by-groups : any_id (schema t) ≡ true → also (widths_verdict t) (also (supers_verdict t) (stored_verdict t)) ≡ table_verdict t
        unfolding table_verdict id_verdict
        by-groups e = sym (need-yes _ _ _ z ∙ also-pass _ _ (sym s) ∙ also-pass _ _ (sym r) ∙ also-pass _ _ (sym (need-yes _ _ _ e)))

-- an accepted table passed each of them
pub record Passed (t : List ℕ) : Type 0 where
  pub shape : shape_verdict t ≡ Ok tt
  pub records : records_verdict t ≡ Ok tt
  pub widths : widths_verdict t ≡ Ok tt
  pub supers : supers_verdict t ≡ Ok tt
  pub stored : stored_verdict t ≡ Ok tt

pub passed : (t : List ℕ) → table_verdict t ≡ Ok tt → Passed t
unfolding table_verdict
passed t e =
    let a = also-accepted _ _ (need-accepted _ _ _ _ e).1 in
    let b = also-accepted _ _ a.1 in
    let c = also-accepted _ _ (also-accepted _ _ b.1).1 in
    let d = also-accepted _ _ c.1 in
    record { shape = a.0; records = b.0; widths = c.0; supers = d.0; stored = d.1 }
