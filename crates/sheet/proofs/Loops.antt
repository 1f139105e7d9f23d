-- One turn of each loop that shows values in a row, and its end.
use Prim.Native.Nat.{ℕ, suc, ◌+◌, ◌-◌, ◌*◌, ◌<◌, ◌≤◌}
use native.Mathlib.Omega.{arith}
use native.Mathlib.Nat.{sub-zero}
use mathlib.Core.Path.{◌≡◌, refl}
use mathlib.Core.Bool.{true}
use mathlib.Core.List.{List, []}
use lib.ListN.{length, drop}
use Rattle.schema.specs.Schema.{field_width, fields_width, shallow_kind, shallow_fields, shallow}
use Rattle.schema.specs.Table.{field_at, fields_at, enums, field_count, schema}
use Rattle.schema.specs.Layout.{Layout, group_place}
use Rattle.schema.proofs.Records.{fields-more, fields-none}
use Rattle.schema.proofs.Depth.{shallow-some, width-cons, shallow-cons}
use Rattle.settings.specs.Store.{lax}
use Rattle.message.specs.Walk.{here, Reader, none_r, then_r, items_r, fields_r}
use Rattle.message.specs.Check.{inner_of, width_of, static_of}
use Rattle.message.proofs.CheckFields.{items_left, start-inside, start-static, start-width, start-shallow}
use Rattle.sheet.specs.Show.{passage, just, then, field_of, Fits, Shown}
use Rattle.sheet.proofs.ShowLaws.{Opens, alike, Left, begun, opened, first_fits, called, shown-none, shown-opens}

-- ITEMS

module _ (w : ℕ) (R : Reader) (b : List ℕ) (n i at : ℕ) where
  items-turn : i < n → Opens (passage (items_r w R (n - i)) b at) (then (passage R b at) (passage (items_r w R (n - (i + 1))) b (at + w)))
  unfolding items_r
  items-turn l = let e : n - i ≡ suc (n - (i + 1)) = omega arith in rw e (λ s r. r)

  items-end : n ≤ i → Opens (passage (items_r w R (n - i)) b at) (just [])
  unfolding items_r none_r
  items-end l = let e : n - i ≡ 0 = omega arith in rw e (λ s r. r)

-- i of n items are shown: the rest lies inside b, from `place` on, and is what is left to show
pub record ItemsLeft (b : List ℕ) (w : ℕ) (R : Reader) (n at pos : ℕ) (out₀ : List ℕ) (i place next : ℕ) (out : List ℕ) : Type 0 where
  pub inside : place + (n - i) * w ≤ length b
  pub left : Left (passage (items_r w R n) b at) pos out₀ (passage (items_r w R (n - i)) b place) next out

module _ {b : List ℕ} {w : ℕ} {R : Reader} {n at pos : ℕ} {out₀ : List ℕ} where
  pub items-start : at + n * w ≤ length b → Fits (passage (items_r w R n) b at) pos out₀ → ItemsLeft b w R n at pos out₀ 0 at pos out₀
  items-start h f = record { inside = rw sub-zero h; left = rw sub-zero (begun _ pos out₀ f) }

  module _ {i place next : ℕ} {out : List ℕ} (L : ItemsLeft b w R n at pos out₀ i place next out) where
    two : i < n → Left (passage (items_r w R n) b at) pos out₀ (then (passage R b place) (passage (items_r w R (n - (i + 1))) b (place + w))) next out
    two l = opened _ pos out₀ _ _ next out (items-turn w R b n i place l) L.left

    pub item-inside : i < n → place + w ≤ length b
    item-inside l = omega (arith, items_left n i w l, L.inside)

    pub item-fits : i < n → Fits (passage R b place) next out
    item-fits l = first_fits _ pos out₀ _ _ next out (two l)

    pub items-next : i < n → {mid : List ℕ} {p : ℕ} → Shown (passage R b place) next out mid p → ItemsLeft b w R n at pos out₀ (i + 1) (place + w) p mid
    items-next l v = record { inside = omega (arith, items_left n i w l, L.inside); left = called _ pos out₀ _ _ next out (two l) _ _ v }

    pub items-done : n ≤ i → Shown (passage (items_r w R n) b at) pos out₀ out next
    items-done l = L.left.whole out next (shown-opens _ _ next out out next (items-end w R b n i place l) (shown-none next out))

-- FIELDS

-- i of n fields are shown, and the next one's record stands at `field` of the table: the rest lies inside b, from `place` on, and is what is left to show
pub record FieldsLeft (t b : List ℕ) (levels depth group at pos : ℕ) (out₀ : List ℕ) (n i field place next : ℕ) (out : List ℕ) : Type 0 where
  pub listed : field + 16 * (n - i) ≤ length t
  pub inside : place + fields_width (width_of t (depth - 1)) (fields_at (enums t) (n - i) (drop field t)) ≤ length b
  pub flat : shallow_fields (shallow (schema t) (depth - 1)) (width_of t (depth - 1)) (fields_at (enums t) (n - i) (drop field t)) ≡ true
  pub left : Left (passage (static_of lax t levels depth group) b at) pos out₀ (passage (fields_r (inner_of lax t levels) (width_of t (depth - 1)) (static_of lax t levels (depth - 1)) (fields_at (enums t) (n - i) (drop field t))) b place) next out

module _ {t b : List ℕ} {levels depth group at pos : ℕ} {out₀ : List ℕ} {n : ℕ} where
  pub fields-start : (k : List ℕ) → Layout t k → group < length (schema t) → (s : ℕ) → s ≡ group_place k group → n ≡ field_count (drop s t) → shallow (schema t) depth group ≡ true
      → at + width_of t depth group ≤ length b → Fits (passage (static_of lax t levels depth group) b at) pos out₀ → FieldsLeft t b levels depth group at pos out₀ n 0 (s + 16) at pos out₀
  fields-start k P g s is in' q h f =
      let d = shallow-some (schema t) depth group q in
      record {
        listed = start-inside t k P group g s n is in';
        inside = omega (arith, start-width t k P group g s n is in' depth d, h);
        flat = start-shallow t k P group g s n is in' depth d q;
        left = opened _ pos out₀ _ _ pos out₀ (alike _ _ (λ base area m. start-static t k P group g s n is in' depth d (inner_of lax t levels) (here lax b base area) at m)) (begun _ pos out₀ f);
      }

  module _ {i field place next : ℕ} {out : List ℕ} (L : FieldsLeft t b levels depth group at pos out₀ n i field place next out) where
    fields-two : (w : ℕ) → w ≡ field_width (width_of t (depth - 1)) (field_at (enums t) (drop field t)) → i < n
        → Left (passage (static_of lax t levels depth group) b at) pos out₀ (then (passage (field_of t levels (depth - 1) field) b place)
        (passage (fields_r (inner_of lax t levels) (width_of t (depth - 1)) (static_of lax t levels (depth - 1)) (fields_at (enums t) (n - (i + 1)) (drop (field + 16) t))) b (place + w))) next out
    unfolding fields_r then_r
    fields-two w e l = opened _ pos out₀ _ _ next out (rw (fields-more (enums t) t field n i l, e) (λ s r. r)) L.left

    pub field-listed : i < n → field + 16 ≤ length t
    field-listed l = omega (arith, L.listed)

    pub field-inside : i < n → place + field_width (width_of t (depth - 1)) (field_at (enums t) (drop field t)) ≤ length b
    field-inside l = omega (arith, width-cons (width_of t (depth - 1)) _ _ _ (fields-more (enums t) t field n i l), L.inside)

    pub field-flat : i < n → shallow_kind (shallow (schema t) (depth - 1)) (width_of t (depth - 1)) (field_at (enums t) (drop field t)).kind ≡ true
    field-flat l = (shallow-cons _ _ _ _ _ (fields-more (enums t) t field n i l) L.flat).0

    pub field_fits : i < n → Fits (passage (field_of t levels (depth - 1) field) b place) next out
    field_fits l = first_fits _ pos out₀ _ _ next out (fields-two _ refl l)

    pub fields-next : i < n → {w p : ℕ} {mid : List ℕ} → w ≡ field_width (width_of t (depth - 1)) (field_at (enums t) (drop field t)) → Shown (passage (field_of t levels (depth - 1) field) b place) next out mid p
        → FieldsLeft t b levels depth group at pos out₀ n (i + 1) (field + 16) (place + w) p mid
    fields-next l {w} e v =
        let f = fields-more (enums t) t field n i l in
        record {
          listed = omega (arith, L.listed);
          inside = omega (arith, width-cons (width_of t (depth - 1)) _ _ _ f, L.inside);
          flat = (shallow-cons _ _ _ _ _ f L.flat).1;
          left = called _ pos out₀ _ _ next out (fields-two w e l) _ _ v;
        }

    pub fields-done : n ≤ i → Shown (passage (static_of lax t levels depth group) b at) pos out₀ out next
    unfolding fields_r none_r
    fields-done l = L.left.whole out next (shown-opens _ _ next out out next (rw (fields-none (enums t) t field n i l) (λ s r. r)) (shown-none next out))
