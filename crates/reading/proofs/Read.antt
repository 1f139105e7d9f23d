-- An item of an accepted message: the walk read it there.
use mathlib.Core.Path.{◌≡◌, refl}
use mathlib.Core.Bool.{Bool, true, false, cond, ◌&&◌, ◌||◌}
use mathlib.Core.List.{List, [], ◌∷◌}
use Prim.Native.Nat.{ℕ, zero, suc, ◌+◌, ◌*◌, ◌<◌, ◌≤◌}
use native.Mathlib.Omega.{arith}
use lib.ListN.{length}
use lib.Dec.{eqb}
use borrow.Author.Tests.{ltb-true, not-true}
use Rattle.wire.specs.Bytes.{part, all_zero, zeros}
use Rattle.schema.specs.Faults.{need}
use Rattle.schema.specs.Schema.{Kind, Field, kind_width, value_width, field_width, fields_width}
use Rattle.schema.proofs.Types.{width-sequence, width_one}
use Rattle.message.specs.Sheet.{Mark, NO, kind_mark, field_mark}
use Rattle.message.specs.Walk.{Inner, Here, Reading, refused, done, Reader, next, byte, marked_r, optional_r, kind_r, items_r, list_r, value_r, field_r, fields_r, then_r}
use Rattle.message.proofs.Tests.{true-false}
use Rattle.reading.specs.Item.{Item, missing, item, sequence_item, value_item, absent, value_place, field_item, item_from}
use Rattle.reading.specs.Laid.{FieldLaid, Laid}
use Rattle.reading.proofs.Done.{need-done, prefixed-done, next-done, Leads, indirect-done}

-- what is said of an item, if there is one
abbrev pub OnItem : (Field → ℕ → Type 0) → Item → Type 0
OnItem Q (missing n) = Unit
OnItem Q (item f p) = Q f p

module _ (Q : Field → ℕ → Type 0) where
  pub need-item : (c : Bool) (n : ℕ) (x : Item) → (c ≡ true → OnItem Q x) → OnItem Q (need c (missing n) x)
  unfolding need
  need-item true n x f = f refl
  need-item false n x f = tt

  pub cond-item : (c : Bool) (x y : Item) → (c ≡ true → OnItem Q x) → (c ≡ false → OnItem Q y) → OnItem Q (cond c x y)
  cond-item true x y f g = f refl
  cond-item false x y f g = g refl

-- an optional field that is not absent has the flag 1
abbrev pub Flags : (ℕ → ℕ) → List ℕ → List Field → ℕ → Type 0
Flags sw b [] at = Unit
Flags sw b (f ∷ fs) at = (absent f b at ≡ false → f.optional ≡ true → eqb (byte at b) 1 ≡ true) × Flags sw b fs (at + field_width sw f)

-- I, S and sw read a dynamic group, a static one, and give its width; h is the group that holds the fields.
module _ (I : Inner) (sw : ℕ → ℕ) (S : ℕ → Reader) (h : Here) where
  -- the kind k was read at p, which the group holds
  pub record Read (k : Kind) (p : ℕ) : Type 0 where
    pub before : List ℕ
    pub after : List ℕ
    pub sheet : List ℕ
    pub is : kind_r I S k h p before ≡ done sheet after
    pub inside : p + kind_width sw k ≤ length h.bytes

  abbrev FieldRead : Field → ℕ → Type 0
  FieldRead f p = Read f.kind p

  abbrev pub ItemRead : Item → Type 0
  ItemRead x = OnItem FieldRead x

  -- ONE VALUE, AND THE ITEMS OF A SEQUENCE

  one-read : (k : Kind) (p : ℕ) (m : List ℕ) {s m' : List ℕ} → marked_r (kind_mark k) (kind_r I S k) h p m ≡ done s m' → p + kind_width sw k ≤ length h.bytes → Read k p
  unfolding marked_r
  one-read k p m e l = let q = prefixed-done _ _ e in record { before = m; after = _; sheet = q.0; is = q.1; inside = l }

  -- w: the width of an item
  module _ (k : Kind) (w : ℕ) (wide : w ≡ kind_width sw k) where
    items-first : (at p : ℕ) (m : List ℕ) (r : List ℕ → Reading) {s m' : List ℕ} → next (marked_r (kind_mark k) (kind_r I S k) h at m) r ≡ done s m'
        → p ≡ at → at + w ≤ length h.bytes → Read k p
    items-first at p m r e z b = rw z (one-read k at m (next-done _ _ e).before (omega arith))

    items-read : (n i at p : ℕ) (m : List ℕ) {s m' : List ℕ} → items_r w (marked_r (kind_mark k) (kind_r I S k)) n h at m ≡ done s m'
        → i < n → p ≡ at + i * w → at + n * w ≤ length h.bytes → Read k p
    unfolding items_r
    items-read zero i at p m e l z b = absurd (omega arith)
    items-read (suc n) zero at p m e l z b = items-first at p m _ e (omega arith) (omega arith)
    items-read (suc n) (suc i) at p m e l z b = items-read n i (at + w) p _ (next-done _ _ e).after (omega arith) (omega arith) (omega arith)

  module _ (f : Field) (at : ℕ) (m : List ℕ) {s m' : List ℕ} (d : value_r I sw S f h at m ≡ done s m') where
    as-list : f.sequence ≡ true
        → Leads (kind_width sw f.kind) (list_r (kind_width sw f.kind) (marked_r (kind_mark f.kind) (kind_r I S f.kind))) h at s m'
    unfolding value_r
    as-list e = indirect-done 13 _ _ h at m (rw e at d)

  marked-one : (f : Field) (at : ℕ) (m : List ℕ) {s m' : List ℕ} → f.sequence ≡ false → marked_r (field_mark f) (value_r I sw S f) h at m ≡ done s m'
      → marked_r (kind_mark f.kind) (kind_r I S f.kind) h at m ≡ done s m'
  unfolding marked_r field_mark value_r
  marked-one f at m e d = rw e at d

  value_read : (f : Field) (at : ℕ) (m : List ℕ) (i : ℕ) {s m' : List ℕ} → marked_r (field_mark f) (value_r I sw S f) h at m ≡ done s m'
      → at + value_width sw f ≤ length h.bytes → ItemRead (value_item sw f h.bytes at i)
  unfolding value_item sequence_item marked_r list_r
  value_read f at m i d l =
      cond-item FieldRead f.sequence _ _
      (λ e. need-item FieldRead _ 28 _ (λ t.
      let a = as-list f at m (prefixed-done _ _ d).1 e in
      items-read f.kind _ refl _ i _ _ a.occupied (prefixed-done _ _ a.is).1 (ltb-true _ _ t) refl (omega (arith, a.whole))))
      (λ e. need-item FieldRead _ 28 _ (λ _. one-read f.kind at m (marked-one f at m e d) (omega (arith, l, width_one sw f e))))

  -- A FIELD THAT IS NOT ABSENT

  flag-done : (c z : Bool) (x : Reading) (n p : ℕ) (y : Reading) {s m : List ℕ} → z ≡ false → cond c x (need z (refused n p) y) ≡ done s m → (c ≡ true) × (x ≡ done s m)
  flag-done true z x n p y f e = (refl, e)
  flag-done false z x n p y f e = absurd (true-false z (need-done z n p y e).0 f)

  optional-present : (k : Mark) (w : ℕ) (R : Reader) (at : ℕ) (m : List ℕ) {s m' : List ℕ} → optional_r k w R h at m ≡ done s m' → eqb (byte at h.bytes) 0 ≡ false
      → (eqb (byte at h.bytes) 1 ≡ true) × (marked_r k R h (at + 1) m ≡ done s m')
  unfolding optional_r
  optional-present k w R at m d a =
      let b : List ℕ = h.bytes in
      let x : List ℕ = part w (at + 1) b in
      flag-done (eqb (byte at b) 1) (eqb (byte at b) 0) (marked_r k R h (at + 1) m) 11 (h.base + at) (need (h.ignored.absent || all_zero x) (refused 4 (h.base + (at + 1) + zeros x)) (done NO m)) a d

  module _ (f : Field) (at : ℕ) where
    present : (m : List ℕ) {s m' : List ℕ} → field_r I sw S f h at m ≡ done s m' → absent f h.bytes at ≡ false
        → (f.optional ≡ true → eqb (byte at h.bytes) 1 ≡ true) × (marked_r (field_mark f) (value_r I sw S f) h (value_place f at) m ≡ done s m')
    unfolding field_r absent value_place
    present m {s} {m'} d a = go f.optional d a
      where
        go : (c : Bool) → cond c (optional_r (field_mark f) (value_width sw f) (value_r I sw S f)) (marked_r (field_mark f) (value_r I sw S f)) h at m ≡ done s m'
            → c && eqb (byte at h.bytes) 0 ≡ false
            → (c ≡ true → eqb (byte at h.bytes) 1 ≡ true) × (marked_r (field_mark f) (value_r I sw S f) h (cond c (at + 1) at) m ≡ done s m')
        go true d a = let q = optional-present (field_mark f) (value_width sw f) (value_r I sw S f) at m d a in (λ _. q.0, q.1)
        go false d a = (λ e. absurd (true-false false e refl), d)

    place_inside : at + field_width sw f ≤ length h.bytes → value_place f at + value_width sw f ≤ length h.bytes
    unfolding field_width value_place
    place_inside l = go f.optional l
      where
        go : (c : Bool) → at + cond c (value_width sw f + 1) (value_width sw f) ≤ length h.bytes → cond c (at + 1) at + value_width sw f ≤ length h.bytes
        go true l = omega arith
        go false l = l

    module _ (m : List ℕ) {s m' : List ℕ} (d : field_r I sw S f h at m ≡ done s m') (l : at + field_width sw f ≤ length h.bytes) where
      field-read : (i : ℕ) → ItemRead (field_item sw f h.bytes at i)
      unfolding field_item
      field-read i = need-item FieldRead _ 29 _ (λ t. value_read f (value_place f at) m i (present m d (not-true _ t)).1 (place_inside l))

      field-laid : FieldLaid sw h.bytes f at
      unfolding marked_r
      field-laid = record {
        inside = l;
        list = λ e a.
            let x = (as-list f (value_place f at) m (prefixed-done _ _ (present m d a).1).1 e).whole in
            record { offset = omega (arith, place_inside l, width-sequence sw f e); word = omega (arith, x) };
      }

  -- ALL FIELDS

  pub fields_read : (fs : List Field) (at : ℕ) (m : List ℕ) (n i : ℕ) {s m' : List ℕ} → fields_r I sw S fs h at m ≡ done s m'
      → at + fields_width sw fs ≤ length h.bytes → ItemRead (item_from sw fs h.bytes at n i)
  unfolding fields_r then_r fields_width item_from
  fields_read [] at m n i d l = tt
  fields_read (f ∷ fs) at m zero i d l = field-read f at m (next-done _ _ d).before (omega arith) i
  fields_read (f ∷ fs) at m (suc n) i d l = fields_read fs (at + field_width sw f) _ n i (next-done _ _ d).after (omega arith)

  pub fields-flags : (fs : List Field) (at : ℕ) (m : List ℕ) {s m' : List ℕ} → fields_r I sw S fs h at m ≡ done s m' → Flags sw h.bytes fs at
  unfolding fields_r then_r
  fields-flags [] at m d = tt
  fields-flags (f ∷ fs) at m d =
      let q = next-done _ _ d in
      (λ a. (present f at m q.before a).0, fields-flags fs (at + field_width sw f) _ q.after)

  pub fields_laid : (fs : List Field) (at : ℕ) (m : List ℕ) {s m' : List ℕ} → fields_r I sw S fs h at m ≡ done s m'
      → at + fields_width sw fs ≤ length h.bytes → Laid sw h.bytes fs at
  unfolding fields_r then_r fields_width
  fields_laid [] at m d l = tt
  fields_laid (f ∷ fs) at m d l =
      let q = next-done _ _ d in
      (field-laid f at m q.before (omega arith), fields_laid fs (at + field_width sw f) _ q.after (omega arith))
