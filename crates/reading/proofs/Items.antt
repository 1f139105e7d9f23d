-- Where an item lies, case by case as the code finds it.
use Rattle.std.proofs.Common.{Ok, Err}
use mathlib.Core.Path.{◌≡◌, refl}
use mathlib.Core.Bool.{true, false}
use mathlib.Core.List.{List, [], ◌∷◌, ◌++◌}
use Prim.Native.Nat.{ℕ, zero, suc, ◌+◌, ◌-◌, ◌*◌, ◌^◌, ◌<◌, ◌≤◌}
use native.Mathlib.Omega.{arith}
use native.Mathlib.Nat.{sub-zero, mul-zero, add-zero, zero-add, add_assoc, mul-le-mul}
use lib.ListN.{length, drop}
use lib.Seq.{drop-drop}
use borrow.Author.Tests.{eq-eqb, ne_eqb, lt-ltb, le-ltb}
use Rattle.schema.specs.Faults.{fault_at, need}
use Rattle.schema.specs.Schema.{Field, kind_width, field_width, fields_width}
use Rattle.schema.specs.Table.{field_at, fields_at}
use Rattle.schema.proofs.Records.{fields-more, fields-none}
use Rattle.schema.proofs.Types.{width-optional}
use Rattle.message.specs.Walk.{byte}
use Rattle.meaning.specs.Conforms.{target, count_at}
use Rattle.reading.specs.Item.{missing, sequence_item, value_item, absent, value_place, field_item, item_from, field_in, item_in}
use Rattle.reading.specs.Laid.{Led, FieldLaid, Laid}

-- an item's place is a number of 64 bits
pub item-bound : (i n w : ℕ) → i ≤ n → n < 2 ^ 32 → w ≤ 4096 → i * w ≤ 2 ^ 44
item-bound i n w h l k = let p : i ≤ 2 ^ 32 = omega arith in mul-le-mul p k

-- ONE FIELD, WHOSE RECORD IS AT ROW r

module _ (t : List ℕ) (r : ℕ) (sw : ℕ → ℕ) (b : List ℕ) (at i : ℕ) where
  abbrev f : Field
  f = field_in t r

  -- p: where the offset leads; n: the count there
  module _ (p n : ℕ) (is : p ≡ target b at) (counts : n ≡ count_at b at) where
    pub sequence-hit : (w : ℕ) → w ≡ kind_width sw f.kind → i < n → item_in t (Ok (record { row = r; place = p + 4 + i * w })) ≡ sequence_item sw f b at i
    unfolding item_in sequence_item need
    sequence-hit w e h = rw (e, is) (rw (← counts, lt-ltb _ _ h))

    pub sequence-miss : n ≤ i → item_in t (Err (fault_at 28 0)) ≡ sequence_item sw f b at i
    unfolding item_in sequence_item need
    sequence-miss h = rw (← counts, le-ltb _ _ h)

  pub value-sequence : f.sequence ≡ true → sequence_item sw f b at i ≡ value_item sw f b at i
  unfolding value_item
  value-sequence e = rw e

  pub value-one : f.sequence ≡ false → i ≡ 0 → item_in t (Ok (record { row = r; place = at })) ≡ value_item sw f b at i
  unfolding item_in value_item need
  value-one e z = rw (e, eq-eqb _ _ z)

  pub value_none : f.sequence ≡ false → (i ≡ 0 → ⊥) → item_in t (Err (fault_at 28 0)) ≡ value_item sw f b at i
  unfolding item_in value_item need
  value_none e z = rw (e, ne_eqb _ _ z)

  pub field-absent : f.optional ≡ true → byte at b ≡ 0 → item_in t (Err (fault_at 29 0)) ≡ field_item sw f b at i
  unfolding item_in field_item absent need
  field-absent e z = rw (e, eq-eqb _ _ z)

  pub field-present : f.optional ≡ true → (byte at b ≡ 0 → ⊥) → value_item sw f b (at + 1) i ≡ field_item sw f b at i
  unfolding field_item absent value_place need
  field-present e z = rw (e, ne_eqb _ _ z)

  pub field-required : f.optional ≡ false → value_item sw f b at i ≡ field_item sw f b at i
  unfolding field_item absent value_place need
  field-required e = rw e

  module _ (l : FieldLaid sw b f at) where
    pub flag-inside : f.optional ≡ true → at < length b
    flag-inside e = omega (arith, l.inside, width-optional sw f e)

    pub led-present : f.optional ≡ true → (byte at b ≡ 0 → ⊥) → f.sequence ≡ true → Led b (at + 1)
    unfolding absent value_place
    led-present e z s = rw e at (l.list s (rw (e, ne_eqb _ _ z)))

    pub led-required : f.optional ≡ false → f.sequence ≡ true → Led b at
    unfolding absent value_place
    led-required e s = rw e at (l.list s (rw e))

-- FIELDS IN A ROW

module _ (sw : ℕ → ℕ) (es : List (List ℕ)) (t : List ℕ) (p n : ℕ) where
  -- the width of those behind the first i
  abbrev pub width_from : ℕ → ℕ
  width_from i = fields_width sw (fields_at es (n - i) (drop (p + 16 * i) t))

  pub width-all : fields_width sw (fields_at es n (drop p t)) ≡ 0 + width_from 0
  width-all = rw (sub-zero, mul-zero, add-zero, zero-add)

  pub width-more : (i x w : ℕ) → i < n → w ≡ field_width sw (field_at es (drop (p + 16 * i) t)) → x + width_from i ≡ x + w + width_from (i + 1)
  unfolding fields_width
  width-more i x w h e =
      let q : p + 16 * i + 16 ≡ p + 16 * (i + 1) = omega arith in
      rw (fields-more es t (p + 16 * i) n i h, e, q, add_assoc)

  pub width-end : (i x : ℕ) → n ≤ i → x + width_from i ≡ x
  unfolding fields_width
  width-end i x h = rw (fields-none es t (p + 16 * i) n i h, add-zero)

module _ (sw : ℕ → ℕ) (b : List ℕ) (es : List (List ℕ)) (t : List ℕ) (i : ℕ) where
  pub from-none : (n k p at : ℕ) → n ≤ k → item_from sw (fields_at es n (drop p t)) b at k i ≡ missing 28
  unfolding item_from fields_at
  from-none zero k p at h = refl
  from-none (suc n) zero p at h = absurd (omega arith)
  from-none (suc n) (suc k) p at h = rw (drop-drop 16 p t) (from-none n k (p + 16) _ (omega arith))

  -- field k of n: its record, and its place, x bytes behind the first
  pub from_at : (n k p at x : ℕ) → k < n → x ≡ fields_width sw (fields_at es k (drop p t))
      → field_item sw (field_at es (drop (p + 16 * k) t)) b (at + x) i ≡ item_from sw (fields_at es n (drop p t)) b at k i
  unfolding item_from fields_at fields_width
  from_at zero k p at x h e = absurd (omega arith)
  from_at (suc n) zero p at x h e = rw (e, mul-zero, add-zero, add-zero)
  from_at (suc n) (suc k) p at x h e =
      let q : p + 16 + 16 * k ≡ p + 16 * suc k = omega arith in
      rw (e, drop-drop 16 p t, ← q, ← add_assoc) (from_at n k (p + 16) _ _ (omega arith) refl)

  pub laid-at : (n k p at x : ℕ) → k < n → x ≡ fields_width sw (fields_at es k (drop p t))
      → Laid sw b (fields_at es n (drop p t)) at → FieldLaid sw b (field_at es (drop (p + 16 * k) t)) (at + x)
  unfolding fields_at fields_width
  laid-at zero k p at x h e l = absurd (omega arith)
  laid-at (suc n) zero p at x h e l = rw (e, mul-zero, add-zero, add-zero) l.0
  laid-at (suc n) (suc k) p at x h e l =
      let q : p + 16 + 16 * k ≡ p + 16 * suc k = omega arith in
      rw (e, drop-drop 16 p t, ← q, ← add_assoc) (laid-at n k (p + 16) _ _ (omega arith) refl (rw (drop-drop 16 p t) at l.1))

-- AMONG MORE FIELDS

pub item-front : (sw : ℕ → ℕ) (fs more : List Field) (b : List ℕ) (at n i : ℕ) → n < length fs → item_from sw (fs ++ more) b at n i ≡ item_from sw fs b at n i
unfolding item_from
item-front sw [] more b at n i l = absurd (omega arith)
item-front sw (f ∷ fs) more b at zero i l = refl
item-front sw (f ∷ fs) more b at (suc n) i l = item-front sw fs more b (at + field_width sw f) n i (omega arith)
