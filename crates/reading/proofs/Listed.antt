-- What is read of an item is the value that the message lists at the item's place.
use Rattle.std.proofs.Common.{Ok, Err}
use mathlib.Core.Path.{◌≡◌, refl, sym, ap, ◌∙◌, subst}
use mathlib.Core.Bool.{Bool, true, false, cond, and-eq-true_iff}
use mathlib.Core.List.{List, [], ◌∷◌, ◌++◌, append_assoc, append-nil}
use Prim.Native.Nat.{ℕ, zero, suc, ◌+◌, ◌*◌, ◌<◌, ◌≤◌}
use native.Mathlib.Omega.{arith}
use native.Mathlib.Nat.{add-zero}
use lib.ListN.{length, take, drop}
use lib.Dec.{ltb, eqb}
use borrow.Author.Tests.{eq-eqb, ne_eqb, lt-ltb, le-ltb, le-leb, eqb-true, ltb-true, not-true}
use Rattle.wire.specs.Bytes.{part}
use Rattle.wire.proofs.Laws.{length_part, part-part, part-add}
use Rattle.schema.specs.Faults.{fault_at, need}
use Rattle.schema.specs.Schema.{Kind, plain, inline, indirect, static, dynamic, member, Field, Group, kind_width, value_width, field_width, fields_of, width, find}
use Rattle.schema.specs.Table.{group_marked, scalar_width, kind_of, field_type, field_size, reference, field_at, fields_at, group_at, groups_from, record_count, enums, schema}
use Rattle.settings.specs.declared.Ignored.{Ignored}
use Rattle.message.specs.Sheet.{ST, GB, mark_bytes, GE}
use Rattle.message.specs.Walk.{Reader, done, byte, word, prefixed, kind_r, inner_r, group_r, walk}
use Rattle.message.proofs.Tests.{true-false}
use Rattle.meaning.specs.Conforms.{Value, list, presence, Values, target, count_at, items_v, kind_v, value_v, field_v, fields_v, static_v, extension_v, values_of, type_id}
use Rattle.meaning.specs.Lists.{record_of, records, group_records, sheet_of}
use Rattle.meaning.proofs.Lists.{records-both, group-lists, walk-lists}
use Rattle.reading.specs.Item.{Item, missing, item, sequence_item, value_item, absent, value_place, field_item, item_from, item_of}
use Rattle.reading.specs.Number.{number_types, number_width, number_of, number_at}
use Rattle.reading.specs.Part.{part_of, part_at, bytes_in, verdict_of}
use Rattle.reading.specs.Listed.{value_before, field_before, fields_before, values_before, item_value, contents, heading, record_in, records_in, Listed, FieldAt, first, later, item_count, ItemCases, OwnCases}
use Rattle.reading.proofs.Done.{next-done, indirect-done}
use Rattle.reading.proofs.Read.{Read, OnItem, need-item, cond-item, Flags, fields-flags}
use Rattle.reading.proofs.Opened.{inner, statics, own_fields, top, opened, OwnRead, item-read}
use Rattle.reading.proofs.Found.{every, among}
use Rattle.reading.proofs.Alike.{alike-done, deeper_alike, any-alike}

-- THE ITEM'S PLACE IN THE LIST

-- us stand in vs, right behind ws
pub record Stands (vs ws us : List Value) : Type 0 where
  pub behind : List Value
  pub is : vs ≡ ws ++ (us ++ behind)

module _ {vs ws us : List Value} (h : Stands vs ws us) where
  pub before : (xs : List Value) → Stands (xs ++ vs) (xs ++ ws) us
  before xs = record { behind = h.behind; is = ap (λ v. xs ++ v) h.is ∙ sym (append_assoc xs ws (us ++ h.behind)) }

  pub after : (xs : List Value) → Stands (vs ++ xs) ws us
  after xs = record { behind = h.behind ++ xs; is = ap (λ v. v ++ xs) h.is ∙ simp append_assoc }

module _ (sw : ℕ → ℕ) (T : ℕ → Values) (b : List ℕ) where
  abbrev FieldIn : List Value → List Value → Field → ℕ → Type 0
  FieldIn vs ws f p = Stands vs ws (kind_v T f.kind b p)

  abbrev pub ItemIn : List Value → List Value → Item → Type 0
  ItemIn vs ws x = OnItem (FieldIn vs ws) x

  item-before : (xs vs ws : List Value) (x : Item) → ItemIn vs ws x → ItemIn (xs ++ vs) (xs ++ ws) x
  item-before xs vs ws (missing n) h = tt
  item-before xs vs ws (item f p) h = before h xs

  pub item-after : (xs vs ws : List Value) (x : Item) → ItemIn vs ws x → ItemIn (vs ++ xs) ws x
  item-after xs vs ws (missing n) h = tt
  item-after xs vs ws (item f p) h = after h xs

  items-in : (v : Values) (w n i at p : ℕ) → i < n → p ≡ at + i * w → Stands (items_v w v n b at) (items_v w v i b at) (v b p)
  unfolding items_v
  items-in v w zero i at p l e = absurd (omega arith)
  items-in v w (suc n) zero at p l e = let z : p ≡ at = omega arith in record { behind = items_v w v n b (at + w); is = rw z }
  items-in v w (suc n) (suc i) at p l e = before (items-in v w n i (at + w) p (omega arith) (omega arith)) (v b at)

  value_in : (f : Field) (at i : ℕ) → ItemIn (value_v sw T f b at) (value_before sw T f i b at) (value_item sw f b at i)
  unfolding value_v value_before value_item sequence_item
  value_in f at i = go (kind_width sw f.kind) f.sequence
    where
      go : (w : ℕ) (c : Bool) → ItemIn (cond c (list w at ∷ items_v w (kind_v T f.kind) (count_at b at) b (target b at + 4)) (kind_v T f.kind b at))
          (cond c (list w at ∷ items_v w (kind_v T f.kind) i b (target b at + 4)) [])
          (cond c (need (ltb i (count_at b at)) (missing 28) (item f (target b at + 4 + i * w))) (need (eqb i 0) (missing 28) (item f at)))
      go w true = need-item _ _ 28 _ (λ t. before (items-in (kind_v T f.kind) w (count_at b at) i (target b at + 4) _ (ltb-true _ _ t) refl) (list w at ∷ []))
      go w false = need-item _ _ 28 _ (λ _. record { behind = []; is = sym (append-nil _) })

  field-in : (f : Field) (at i : ℕ) → (absent f b at ≡ false → f.optional ≡ true → eqb (byte at b) 1 ≡ true) → ItemIn (field_v sw T f b at) (field_before sw T f i b at) (field_item sw f b at i)
  unfolding field_v field_before field_item value_place
  field-in f at i flag = need-item _ _ 29 _ (λ t. go f.optional (flag (not-true _ t)))
    where
      go : (c : Bool) → (c ≡ true → eqb (byte at b) 1 ≡ true)
          → ItemIn (cond c (presence (value_width sw f) at ∷ cond (eqb (byte at b) 1) (value_v sw T f b (at + 1)) []) (value_v sw T f b at))
          (cond c (presence (value_width sw f) at ∷ value_before sw T f i b (at + 1)) (value_before sw T f i b at)) (value_item sw f b (cond c (at + 1) at) i)
      go true e = rw (e refl) (item-before (presence (value_width sw f) at ∷ []) (value_v sw T f b (at + 1)) (value_before sw T f i b (at + 1)) (value_item sw f b (at + 1) i) (value_in f (at + 1) i))
      go false e = value_in f at i

  -- item i of field n of the fields fs, which lie from `at` on
  pub fields-in : (fs : List Field) (at n i : ℕ) → Flags sw b fs at → ItemIn (fields_v sw T fs b at) (fields_before sw T fs n i b at) (item_from sw fs b at n i)
  unfolding fields_v fields_before item_from
  fields-in [] at n i e = tt
  fields-in (f ∷ fs) at zero i e = item-after (fields_v sw T fs b (at + field_width sw f)) (field_v sw T f b at) (field_before sw T f i b at) (field_item sw f b at i) (field-in f at i e.0)
  fields-in (f ∷ fs) at (suc n) i e =
      let to : ℕ = at + field_width sw f in
      item-before (field_v sw T f b at) (fields_v sw T fs b to) (fields_before sw T fs n i b to) (item_from sw fs b to n i) (fields-in fs to n i e.1)

-- A NUMBER'S KIND

unfoldable is_plain : ℕ → Kind → Bool
is_plain n (plain w t) = eqb w n
is_plain n (inline u c) = false
is_plain n (indirect u) = false
is_plain n (static g) = false
is_plain n (dynamic g) = false

-- a field of a number's type is of as many bytes
abbrev Fits : Field → ℕ → Type 0
Fits f p = member f.type number_types ≡ true → is_plain (number_width f.type) f.kind ≡ true

record-fits : (es : List (List ℕ)) (x : List ℕ) (p : ℕ) → Fits (field_at es x) p
unfolding every member scalar_width number_width kind_of field_at is_plain
record-fits es x p e = among (λ (t : ℕ). is_plain (number_width t) (kind_of es t (field_size x) (reference x))) (field_type x) number_types refl e

module _ (es : List (List ℕ)) (sw : ℕ → ℕ) (b : List ℕ) (i : ℕ) where
  field_fits : (x : List ℕ) (at : ℕ) → OnItem Fits (field_item sw (field_at es x) b at i)
  unfolding field_item value_item sequence_item
  field_fits x at =
      need-item Fits _ 29 _ (λ _. cond-item Fits (field_at es x).sequence _ _ (λ _. need-item Fits _ 28 _ (λ _. record-fits es x 0)) (λ _. need-item Fits _ 28 _ (λ _. record-fits es x 0)))

  fields_fit : (m : ℕ) (x : List ℕ) (at n : ℕ) → OnItem Fits (item_from sw (fields_at es m x) b at n i)
  unfolding fields_at item_from
  fields_fit zero x at n = tt
  fields_fit (suc m) x at zero = field_fits x at
  fields_fit (suc m) x at (suc n) = fields_fit m (drop 16 x) _ n

  module _ (at n : ℕ) where
    group-fits : (c : Bool) (x : List ℕ) (gs : List Group) → ((g : ℕ) → OnItem Fits (item_from sw (fields_of gs g) b at n i))
        → (g : ℕ) → OnItem Fits (item_from sw (fields_of (cond c (group_at es x ∷ gs) gs) g) b at n i)
    unfolding group_at fields_of
    group-fits true x gs h zero = fields_fit _ (drop 16 x) at n
    group-fits true x gs h (suc g) = h g
    group-fits false x gs h g = h g

    groups-fit : (m : ℕ) (x : List ℕ) (g : ℕ) → OnItem Fits (item_from sw (fields_of (groups_from es m x) g) b at n i)
    unfolding groups_from fields_of item_from
    groups-fit zero x g = tt
    groups-fit (suc m) x g = group-fits (group_marked x) x _ (λ g. groups-fit m (drop 16 x) g) g

-- THE VALUE

module _ (b : List ℕ) (p : ℕ) where
  kind-first : (T : ℕ → Values) (k : Kind) → (vs : List Value) × (kind_v T k b p ≡ item_value k p ∷ vs)
  unfolding kind_v item_value
  kind-first T (plain w t) = (_, refl)
  kind-first T (inline u c) = (_, refl)
  kind-first T (indirect u) = (_, refl)
  kind-first T (static g) = (_, refl)
  kind-first T (dynamic g) = (_, refl)

  number-contents : (n : ℕ) (k : Kind) → is_plain n k ≡ true → part n p b ≡ contents b (item_value k p)
  unfolding is_plain item_value contents
  number-contents n (plain w t) e = rw (eqb-true w n e)
  number-contents n (inline u c) e = absurd (true-false false e refl)
  number-contents n (indirect u) e = absurd (true-false false e refl)
  number-contents n (static g) e = absurd (true-false false e refl)
  number-contents n (dynamic g) e = absurd (true-false false e refl)

  fixed-contents : (c : Bool) (w : ℕ) → verdict_of (cond c (Ok (record { start = p; length = w })) (Err (fault_at 48 0))) ≡ Ok tt → bytes_in b (cond c (Ok (record { start = p; length = w })) (Err (fault_at 48 0))) ≡ part w p b
  unfolding verdict_of bytes_in
  fixed-contents true w e = refl
  fixed-contents false w e = let z : ◌≡◌ {A = ℕ} 0 1 = cc in absurd (omega arith)

  bytes-contents : (t : ℕ) (k : Kind) → verdict_of (part_of t k b p) ≡ Ok tt → bytes_in b (part_of t k b p) ≡ contents b (item_value k p)
  unfolding verdict_of part_of bytes_in item_value contents
  bytes-contents t (plain w x) e = fixed-contents (eqb t 19) w e
  bytes-contents t (inline u c) e = refl
  bytes-contents t (indirect u) e = refl
  bytes-contents t (static g) e = let z : ◌≡◌ {A = ℕ} 0 1 = cc in absurd (omega arith)
  bytes-contents t (dynamic g) e = refl

  record-contents : (G : List ℕ → List ℕ) (gs : List Group) (k : Kind) → ((a : ℕ) → k ≡ dynamic a → ⊥) → record_of G gs b (item_value k p) ≡ heading b k p ++ contents b (item_value k p)
  unfolding record_of item_value heading contents
  record-contents G gs (plain w t) e = refl
  record-contents G gs (inline u c) e = sym (append_assoc (mark_bytes ST) _ _)
  record-contents G gs (indirect u) e = ap (λ x. mark_bytes ST ++ x) (part-add 4 (count_at b p) (target b p) b) ∙ sym (append_assoc (mark_bytes ST) _ _)
  record-contents G gs (static g) e = sym (append-nil _)
  record-contents G gs (dynamic g) e = absurd (e g refl)

-- "for a dynamic group with its size word, so that it is a message too": and its own sheet is its record in the outer message's.
module _ (y : Ignored) (gs : List Group) (b : List ℕ) (sw : ℕ → ℕ) (S : ℕ → Reader) (a p : ℕ) (r : Read (inner y gs b) sw S (top y gs b) (dynamic a) p) where
  abbrev sub : List ℕ
  sub = part (4 + count_at b p) (target b p) b

  inside : target b p + (4 + count_at b p) ≤ length b
  unfolding kind_r
  inside = omega (arith, (indirect-done 26 1 (inner_r (inner y gs b) a) (top y gs b) p r.before r.is).whole)

  group-done : (m : List ℕ) × (group_r y gs 8 0 0 sub ≡ done (group_records gs 7 sub) m)
  unfolding kind_r inner_r
  group-done =
      let q = next-done _ _ (indirect-done 26 1 (inner_r (inner y gs b) a) (top y gs b) p r.before r.is).is in
      (q.between, alike-done (any-alike y gs 8 a 0 sub) (alike-done (deeper_alike y gs 7 a _ 0 sub) q.before) ∙ ap (λ s. done s q.between) (group-lists y gs 7 a _ sub _ _ q.before))

  pub group-message : (m : List ℕ) × (walk y gs (contents b (item_value (dynamic a) p)) ≡ done (record_in gs b (item_value (dynamic a) p)) m)
  unfolding walk need prefixed item_value contents record_of
  group-message =
      let l : length sub ≡ 4 + count_at b p = length_part _ _ b inside in
      let w : word 0 sub ≡ count_at b p = rw (part-part 4 0 (4 + count_at b p) (target b p) b (omega arith), add-zero) in
      (group-done.0, rw (le-leb 4 (length sub) (omega (arith, l)), eq-eqb (length sub) (4 + word 0 sub) (omega (arith, l, w)), group-done.1))

-- THE ITEM

module _ (y : Ignored) (t b s m : List ℕ) (d : walk y (schema t) b ≡ done s m) (n i : ℕ) where
  abbrev gs : List Group
  gs = schema t

  abbrev OwnIn : Item → Type 0
  OwnIn x = ItemIn (width gs 4) (static_v gs 4) b (values_of gs (find gs (type_id b)) b) (values_before gs b n i) x

  own_in : OwnIn (item_of gs b n i)
  unfolding static_v item_of
  own_in =
      let o = opened y gs b s m d in
      item-after (width gs 4) (static_v gs 4) b (extension_v b 12) (fields_v (width gs 4) (static_v gs 4) (own_fields y gs b) b 16) (values_before gs b n i) (item_of gs b n i)
      (fields-in (width gs 4) (static_v gs 4) b (own_fields y gs b) 16 n i (fields-flags (inner y gs b) (width gs 4) (statics y gs b) (top y gs b) (own_fields y gs b) 16 o.before o.is))

  own-fits : OnItem Fits (item_of gs b n i)
  unfolding schema item_of
  own-fits = groups-fit (enums t) (width gs 4) b i 16 n (record_count t) t (find gs (type_id b))

  sheet-at : (ws vs : List Value) (v : Value) → values_of gs (find gs (type_id b)) b ≡ ws ++ (v ∷ vs)
      → s ≡ mark_bytes GB ++ (part 8 4 b ++ (records_in gs b ws ++ (record_in gs b v ++ (records_in gs b vs ++ GE))))
  unfolding sheet_of group_records records
  sheet-at ws vs v e =
      walk-lists y gs b s m d ∙ ap (λ us. mark_bytes GB ++ (part 8 4 b ++ (records_in gs b us ++ GE))) e
      ∙ ap (λ x. mark_bytes GB ++ (part 8 4 b ++ (x ++ GE))) (sym (records-both (group_records gs 7) gs b ws (v ∷ vs))) ∙ simp append_assoc

  pub listed : (f : Field) (p : ℕ) → item_of gs b n i ≡ item f p → Listed y gs b s n i f p
  unfolding number_at part_at
  listed f p e =
      let h : Stands (values_of gs (find gs (type_id b)) b) (values_before gs b n i) (kind_v (static_v gs 4) f.kind b p) = subst OwnIn e own_in in
      let k = kind-first b p (static_v gs 4) f.kind in
      let q : values_of gs (find gs (type_id b)) b ≡ values_before gs b n i ++ (item_value f.kind p ∷ (k.0 ++ h.behind)) = h.is ∙ ap (λ vs. values_before gs b n i ++ (vs ++ h.behind)) k.1 in
      record {
        within = k.0;
        behind = h.behind;
        own = k.1;
        place = q;
        sheet = sheet-at _ _ _ q;
        number = λ x. ap (number_of f.type) (number-contents b p (number_width f.type) f.kind (subst (OnItem Fits) e own-fits x));
        bytes = bytes-contents b p f.type f.kind;
        headed = record-contents b p (group_records gs 7) gs f.kind;
        message = λ a x. rw x (group-message y gs b (width gs 4) (statics y gs b) a p (rw x at (subst (OwnRead y gs b) e (item-read y gs b s m d n i))));
      }

-- WHICH ITEMS THERE ARE

module _ (sw : ℕ → ℕ) (b : List ℕ) where
  none-item : (fs : List Field) (from n i : ℕ) → length fs ≤ n → item_from sw fs b from n i ≡ missing 28
  unfolding item_from
  none-item [] from n i l = refl
  none-item (f ∷ fs) from zero i l = absurd (omega arith)
  none-item (f ∷ fs) from (suc n) i l = none-item fs _ n i (omega arith)

  some-field : (fs : List Field) (from n : ℕ) → n < length fs → (f : Field) × (at : ℕ) × FieldAt sw fs from n f at
  some-field [] from n l = absurd (omega arith)
  some-field (f ∷ fs) from zero l = (f, from, first)
  some-field (f ∷ fs) from (suc n) l = let q = some-field fs (from + field_width sw f) n (omega arith) in (q.0, q.1, later q.2)

  field-item : (i : ℕ) {fs : List Field} {from n : ℕ} {f : Field} {at : ℕ} → FieldAt sw fs from n f at → item_from sw fs b from n i ≡ field_item sw f b at i
  unfolding item_from
  field-item i first = refl
  field-item i (later x) = field-item i x

  absent-item : (f : Field) (at i : ℕ) → absent f b at ≡ true → field_item sw f b at i ≡ missing 29
  unfolding field_item need
  absent-item f at i e = rw e

  present-item : (f : Field) (at i : ℕ) → absent f b at ≡ false → (p : ℕ) × (field_item sw f b at i ≡ need (ltb i (item_count f b (value_place f at))) (missing 28) (item f p))
  unfolding field_item value_item sequence_item need
  present-item f at i e = rw e (go f.sequence i (value_place f at))
    where
      go : (c : Bool) (i at : ℕ) → (p : ℕ) × (cond c (need (ltb i (count_at b at)) (missing 28) (item f (target b at + 4 + i * kind_width sw f.kind))) (need (eqb i 0) (missing 28) (item f at))
          ≡ need (ltb i (cond c (count_at b at) 1)) (missing 28) (item f p))
      go true i at = (target b at + 4 + i * kind_width sw f.kind, refl)
      go false zero at = (at, refl)
      go false (suc i) at = (at, rw (ne_eqb (suc i) 0 (λ e. omega arith), le-ltb (suc i) 1 (omega arith)))

  flag-zero : (f : Field) (at : ℕ) → absent f b at ≡ true → (f.optional ≡ true) × (eqb (byte at b) 1 ≡ false)
  unfolding absent
  flag-zero f at e =
      let q = (and-eq-true_iff f.optional (eqb (byte at b) 0)).0 e in
      (q.0, ne_eqb (byte at b) 1 (λ z. omega (arith, z, eqb-true (byte at b) 0 q.1)))

  module _ (T : ℕ → Values) where
    flag-only : {fs : List Field} {from n : ℕ} {f : Field} {at : ℕ} → FieldAt sw fs from n f at → absent f b at ≡ true
        → fields_v sw T fs b from ≡ fields_v sw T (take n fs) b from ++ (presence (value_width sw f) at ∷ fields_v sw T (drop (suc n) fs) b (at + field_width sw f))
    unfolding fields_v field_v
    flag-only (first {f = f} {at = at}) e = let q = flag-zero f at e in rw (q.0, q.1)
    flag-only (later {g = g} {from = from} x) e = ap (λ vs. field_v sw T g b from ++ vs) (flag-only x e) ∙ sym (append_assoc (field_v sw T g b from) _ _)

    pub item-cases : (fs : List Field) (from n i : ℕ) → ItemCases sw T fs b from n i (item_from sw fs b from n i)
    unfolding record_of need
    item-cases fs from n i = record {
      no_field = none-item fs from n i;
      some-field = some-field fs from n;
      is-absent = λ f at x e. field-item i x ∙ absent-item f at i e;
      no_item = λ f at x e l. field-item i x ∙ (present-item f at i e).1 ∙ rw (le-ltb i (item_count f b (value_place f at)) l);
      is-there = λ f at x e l. let q = present-item f at i e in (q.0, field-item i x ∙ q.1 ∙ rw (lt-ltb i (item_count f b (value_place f at)) l));
      flag-only = λ f at x e. flag-only x e;
      flag-record = λ G gs f at w e. rw (flag-zero f at e).1;
    }

pub own-cases : (gs : List Group) (b : List ℕ) (n i : ℕ) → OwnCases gs b n i
unfolding item_of
own-cases gs b n i = item-cases (width gs 4) b (static_v gs 4) (fields_of gs (find gs (type_id b))) 16 n i
