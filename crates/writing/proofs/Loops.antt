-- One turn of each loop that writes values in a row, and its end.
use Prim.Native.Nat.{ℕ, suc, ◌+◌, ◌-◌, ◌*◌, ◌<◌, ◌≤◌}
use native.Mathlib.Omega.{arith}
use native.Mathlib.Nat.{sub-zero}
use mathlib.Core.Path.{◌≡◌, refl}
use mathlib.Core.Bool.{true}
use mathlib.Core.List.{List}
use lib.ListN.{length, drop}
use Rattle.schema.specs.Schema.{field_width, shallow_kind, shallow_fields, shallow}
use Rattle.schema.specs.Table.{field_at, fields_at, enums, field_count, schema}
use Rattle.schema.specs.Layout.{Layout, group_place}
use Rattle.schema.proofs.Records.{fields-more, fields-none}
use Rattle.schema.proofs.Depth.{shallow-some, shallow-cons}
use Rattle.message.specs.Check.{width_of}
use Rattle.message.proofs.CheckFields.{start-inside, start-shallow}
use Rattle.sheet.specs.Written.{Writing, Writer, next_w, none_w, then_w, items_w, fields_w}
use Rattle.sheet.specs.Writers.{inner_of, static_of, field_of}
use Rattle.sheet.proofs.Widths.{Wides, wide_is, wides-field, wides-static}
use Rattle.sheet.proofs.Writers.{start-static}
use Rattle.writing.specs.Write.{Fits, Stands}
use Rattle.writing.proofs.Left.{Left, begun, opened, first_fits, called, done}
use Rattle.writing.proofs.Writers.{same-opens}

-- ITEMS

-- i of n items are written: what is left to write are the others, in place from `place` on and from `end` on in the data area, which the sheet has from `next` on
pub record ItemsLeft (s : List ℕ) (w : ℕ) (W : Writer) (n at free pos : ℕ) (out₀ : List ℕ) (i place end next : ℕ) (out : List ℕ) : Type 0 where
  pub left : Left (items_w w W n at free (drop pos s)) at free out₀ (items_w w W (n - i) place end (drop next s)) place end out

module _ {s : List ℕ} {w : ℕ} {W : Writer} {n at free pos : ℕ} {out₀ : List ℕ} where
  pub items-start : Fits (items_w w W n at free (drop pos s)) at free out₀ → ItemsLeft s w W n at free pos out₀ 0 at free pos out₀
  items-start f = record { left = rw sub-zero (begun _ at free out₀ f) }

  module _ {i place end next : ℕ} {out : List ℕ} (L : ItemsLeft s w W n at free pos out₀ i place end next out) where
    items-turn : i < n → Left (items_w w W n at free (drop pos s)) at free out₀ (next_w (W place end (drop next s)) (λ D r. items_w w W (n - (i + 1)) (place + w) (end + length D) r)) place end out
    unfolding items_w
    items-turn l = let e : n - i ≡ suc (n - (i + 1)) = omega arith in rw e at L.left

    pub item-fits : i < n → Fits (W place end (drop next s)) place end out
    item-fits l = first_fits _ at free out₀ _ _ place end out (items-turn l)

    pub item-room : i < n → Wides w W → place + w ≤ length out
    item-room l u = let f = item-fits l in omega (arith, wide_is (u place end (drop next s)) f.is, f.before, f.room)

    pub items-next : i < n → Wides w W → {mid : List ℕ} {p e : ℕ} → Stands (W place end (drop next s)) place end s out mid p e → ItemsLeft s w W n at free pos out₀ (i + 1) (place + w) e p mid
    items-next l u {mid} {p} {e} v = record { left = called _ at free out₀ s place end w out mid p e _ v (λ k r. items_w w W (n - (i + 1)) (place + w) k r) (items-turn l) (u place end (drop next s)) }

    pub items-done : n ≤ i → Stands (items_w w W n at free (drop pos s)) at free s out₀ out next end
    unfolding items_w none_w
    items-done l = let e : n - i ≡ 0 = omega arith in done _ at free out₀ _ place end out (rw e at L.left) s next refl

-- FIELDS

-- i of n fields are written, and the next one's record stands at `field` of the table
pub record FieldsLeft (t s : List ℕ) (levels depth group n at free pos : ℕ) (out₀ : List ℕ) (i field place end next : ℕ) (out : List ℕ) : Type 0 where
  pub listed : field + 16 * (n - i) ≤ length t
  pub flat : shallow_fields (shallow (schema t) (depth - 1)) (width_of t (depth - 1)) (fields_at (enums t) (n - i) (drop field t)) ≡ true
  pub left : Left (static_of t levels depth group at free (drop pos s)) at free out₀ (fields_w (inner_of t levels) (width_of t (depth - 1)) (static_of t levels (depth - 1)) (fields_at (enums t) (n - i) (drop field t)) place end (drop next s)) place end out

module _ {t s : List ℕ} {levels depth group n at free pos : ℕ} {out₀ : List ℕ} where
  pub fields-start : (k : List ℕ) → Layout t k → group < length (schema t) → (q : ℕ) → q ≡ group_place k group → n ≡ field_count (drop q t) → shallow (schema t) depth group ≡ true
      → Fits (static_of t levels depth group at free (drop pos s)) at free out₀ → FieldsLeft t s levels depth group n at free pos out₀ 0 (q + 16) at free pos out₀
  fields-start k P g q iq in' h f =
      let d = shallow-some (schema t) depth group h in
      record {
        listed = start-inside t k P group g q n iq in';
        flat = start-shallow t k P group g q n iq in' depth d h;
        left = opened _ at free out₀ _ at free out₀ (begun _ at free out₀ f) _ (same-opens _ _ (start-static t k P group g q n iq in' depth d (inner_of t levels) at free (drop pos s)));
      }

  module _ {i field place end next : ℕ} {out : List ℕ} (L : FieldsLeft t s levels depth group n at free pos out₀ i field place end next out) where
    abbrev rest : ℕ → ℕ → List ℕ → Writing
    rest = fields_w (inner_of t levels) (width_of t (depth - 1)) (static_of t levels (depth - 1)) (fields_at (enums t) (n - (i + 1)) (drop (field + 16) t))

    abbrev width : ℕ
    width = field_width (width_of t (depth - 1)) (field_at (enums t) (drop field t))

    field-wides : Wides width (field_of t levels (depth - 1) field)
    field-wides = wides-field (inner_of t levels) (width_of t (depth - 1)) (static_of t levels (depth - 1)) (λ g. wides-static (schema t) (inner_of t levels) (depth - 1) g) (field_at (enums t) (drop field t))

    fields-turn : i < n → Left (static_of t levels depth group at free (drop pos s)) at free out₀ (next_w (field_of t levels (depth - 1) field place end (drop next s)) (λ D r. rest (place + width) (end + length D) r)) place end out
    unfolding fields_w then_w
    fields-turn l = rw (fields-more (enums t) t field n i l) at L.left

    pub field-listed : i < n → field + 16 ≤ length t
    field-listed l = omega (arith, L.listed)

    pub field-flat : i < n → shallow_kind (shallow (schema t) (depth - 1)) (width_of t (depth - 1)) (field_at (enums t) (drop field t)).kind ≡ true
    field-flat l = (shallow-cons _ _ _ _ _ (fields-more (enums t) t field n i l) L.flat).0

    pub field_fits : i < n → Fits (field_of t levels (depth - 1) field place end (drop next s)) place end out
    field_fits l = first_fits _ at free out₀ _ _ place end out (fields-turn l)

    pub field-room : i < n → place + width ≤ length out
    field-room l = let f = field_fits l in omega (arith, wide_is (field-wides place end (drop next s)) f.is, f.before, f.room)

    pub fields-next : i < n → {w p e : ℕ} {mid : List ℕ} → w ≡ width → Stands (field_of t levels (depth - 1) field place end (drop next s)) place end s out mid p e
        → FieldsLeft t s levels depth group n at free pos out₀ (i + 1) (field + 16) (place + w) e p mid
    fields-next l {w} {p} {e} {mid} iw v = record {
      listed = omega (arith, L.listed);
      flat = (shallow-cons _ _ _ _ _ (fields-more (enums t) t field n i l) L.flat).1;
      left = rw iw (called _ at free out₀ s place end width out mid p e _ v (λ k r. rest (place + width) k r) (fields-turn l) (field-wides place end (drop next s)));
    }

    pub fields-done : n ≤ i → Stands (static_of t levels depth group at free (drop pos s)) at free s out₀ out next end
    unfolding fields_w none_w
    fields-done l = done _ at free out₀ _ place end out (rw (fields-none (enums t) t field n i l) at L.left) s next refl
