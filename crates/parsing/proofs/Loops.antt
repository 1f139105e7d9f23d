-- One turn of each loop: the answer for what is left is the answer for all.
use Rattle.std.proofs.Common.{Ok, Err}
use mathlib.Core.Path.{◌≡◌, refl, sym, ◌∙◌}
use mathlib.Core.Bool.{true}
use mathlib.Core.List.{List, []}
use Prim.Native.Nat.{ℕ, suc, ◌+◌, ◌-◌, ◌*◌, ◌<◌, ◌≤◌}
use native.Mathlib.Omega.{arith}
use native.Mathlib.Nat.{sub-zero}
use lib.ListN.{length, drop}
use Rattle.schema.specs.declared.Fault.{Fault}
use Rattle.schema.specs.Schema.{field_width, shallow_kind, shallow_fields, shallow}
use Rattle.schema.specs.Table.{field_at, fields_at, enums, schema}
use Rattle.schema.proofs.Depth.{shallow-cons}
use Rattle.schema.proofs.Records.{fields-more, fields-none}
use Rattle.message.specs.Check.{width_of}
use Rattle.sheet.specs.Written.{Writer, none_w, then_w, items_w, fields_w}
use Rattle.sheet.specs.Writers.{inner_of, static_of, field_of}
use Rattle.parsing.specs.Count.{Count}
use Rattle.parsing.specs.Parse.{passed, Counts, Finds, Ready}
use Rattle.parsing.specs.declared.Step.{Step}
use Rattle.parsing.proofs.Answers.{stays, ready, next-passed, next-stopped}

-- TWO WRITERS IN A ROW

module _ (s : List ℕ) (w : ℕ) (U W : Writer) (pos d : ℕ) where
  pub then-passed : (v : Step) → Finds s d U pos (Ok v) → (c : Count) → Counts s v.length W v.next c → Counts s d (then_w w U W) pos c
  unfolding then_w
  then-passed v f c g at fr = next-passed s d (U at fr (drop pos s)) (λ D r. W (at + w) (fr + length D) r) v (f at fr) c (λ D. g (at + w) (fr + length D))

  pub then-stopped : (e : Fault) → Finds s d U pos (Err e) → Finds s d (then_w w U W) pos (Err e)
  unfolding then_w
  then-stopped e f at fr = next-stopped s d (U at fr (drop pos s)) (λ D r. W (at + w) (fr + length D) r) e (f at fr)

pub none_left : (s : List ℕ) (pos d : ℕ) → Ready s pos d → Finds s d none_w pos (passed pos d)
unfolding none_w
none_left s pos d R at fr = stays s d _ pos [] refl R.inside R.low

-- a writer with nothing behind it
pub none_passed : (s : List ℕ) (W : Writer) (pos d : ℕ) (v : Step) → Finds s d W pos (Ok v) → length s ≤ 1048576
    → (c : Count) → Counts s v.length none_w v.next c → Counts s d W pos c
none_passed s W pos d v f h c g at fr = g 0 0 ∙ sym (none_left s v.next v.length (ready s d _ v (f 0 0) h) 0 0) ∙ f at fr

-- ITEMS

-- i of n items are checked, and v is where the sheet and the count are then: the answer for the rest is the answer for all
pub record ItemsLeft (s : List ℕ) (w : ℕ) (W : Writer) (n pos d i : ℕ) (v : Step) : Type 0 where
  pub ready : Ready s v.next v.length
  pub rest : (c : Count) → Counts s v.length (items_w w W (n - i)) v.next c → Counts s d (items_w w W n) pos c

module _ {s : List ℕ} {w : ℕ} {W : Writer} {n pos d : ℕ} where
  pub items-start : Ready s pos d → ItemsLeft s w W n pos d 0 (record { next = pos; length = d })
  items-start R = record { ready = R; rest = λ c g. rw sub-zero at g }

  module _ {i : ℕ} {v : Step} (L : ItemsLeft s w W n pos d i v) where
    more : i < n → (c : Count) → Counts s v.length (then_w w W (items_w w W (n - (i + 1)))) v.next c → Counts s d (items_w w W n) pos c
    unfolding items_w then_w
    more l c g = let u : n - i ≡ suc (n - (i + 1)) = omega arith in L.rest c (rw u g)

    pub items-passed : i < n → (u : Step) → Finds s v.length W v.next (Ok u) → ItemsLeft s w W n pos d (i + 1) u
    items-passed l u f = record {
      ready = ready s v.length _ u (f 0 0) L.ready.small;
      rest = λ c g. more l c (then-passed s w W (items_w w W (n - (i + 1))) v.next v.length u f c g);
    }

    pub items-stopped : i < n → (e : Fault) → Finds s v.length W v.next (Err e) → Finds s d (items_w w W n) pos (Err e)
    items-stopped l e f = more l _ (then-stopped s w W (items_w w W (n - (i + 1))) v.next v.length e f)

    pub items-end : n ≤ i → Finds s d (items_w w W n) pos (Ok v)
    unfolding items_w none_w
    items-end l = let u : n - i ≡ 0 = omega arith in L.rest _ (rw u (none_left s v.next v.length L.ready))

-- FIELDS

-- i of n fields are checked, the record of the next stands at q of the table, and v is where the sheet and the count are then
pub record FieldsLeft (t s : List ℕ) (levels depth : ℕ) (W : Writer) (n pos d i q : ℕ) (v : Step) : Type 0 where
  pub ready : Ready s v.next v.length
  pub room : q + 16 * (n - i) ≤ length t
  pub shallows : shallow_fields (shallow (schema t) depth) (width_of t depth) (fields_at (enums t) (n - i) (drop q t)) ≡ true
  pub rest : (c : Count) → Counts s v.length (fields_w (inner_of t levels) (width_of t depth) (static_of t levels depth) (fields_at (enums t) (n - i) (drop q t))) v.next c → Counts s d W pos c

module _ {t s : List ℕ} {levels depth : ℕ} {W : Writer} {n pos d i q : ℕ} {v : Step} (L : FieldsLeft t s levels depth W n pos d i q v) where
  abbrev next_field : Writer
  next_field = field_of t levels depth q

  module _ (l : i < n) where
    pub field-inside : q + 16 ≤ length t
    field-inside = let r = L.room in omega arith

    cons : (shallow_kind (shallow (schema t) depth) (width_of t depth) (field_at (enums t) (drop q t)).kind ≡ true)
        × (shallow_fields (shallow (schema t) depth) (width_of t depth) (fields_at (enums t) (n - (i + 1)) (drop (q + 16) t)) ≡ true)
    cons = shallow-cons _ _ _ _ _ (fields-more (enums t) t q n i l) L.shallows

    pub field-shallow : shallow_kind (shallow (schema t) depth) (width_of t depth) (field_at (enums t) (drop q t)).kind ≡ true
    field-shallow = cons.0

    turn : (c : Count) → Counts s v.length (then_w (field_width (width_of t depth) (field_at (enums t) (drop q t))) next_field
        (fields_w (inner_of t levels) (width_of t depth) (static_of t levels depth) (fields_at (enums t) (n - (i + 1)) (drop (q + 16) t)))) v.next c → Counts s d W pos c
    unfolding fields_w
    turn c g = L.rest c (rw (fields-more (enums t) t q n i l) g)

    pub fields-passed : (u : Step) → Finds s v.length next_field v.next (Ok u) → FieldsLeft t s levels depth W n pos d (i + 1) (q + 16) u
    fields-passed u f = record {
      ready = ready s v.length _ u (f 0 0) L.ready.small;
      room = let r = L.room in omega arith;
      shallows = cons.1;
      rest = λ c g. turn c (then-passed s _ _ _ v.next v.length u f c g);
    }

    pub fields-stopped : (e : Fault) → Finds s v.length next_field v.next (Err e) → Finds s d W pos (Err e)
    fields-stopped e f = turn _ (then-stopped s _ _ _ v.next v.length e f)

  pub fields-end : n ≤ i → Finds s d W pos (Ok v)
  unfolding fields_w
  fields-end l = L.rest _ (rw (fields-none (enums t) t q n i l) (none_left s v.next v.length L.ready))
