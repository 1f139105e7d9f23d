-- Static depth and widths: what `shallow` says of a group, field by field, and that the index has the widths that the walk means.
use Rattle.std.proofs.Common.{◌≡◌, ℕ, zero, suc, ◌+◌, ◌-◌, ◌<◌, Bool, true, false, cond, ◌&&◌, leb, List, ◌∷◌, refl, ap, arith}
use Rattle.schema.specs.Schema.{Kind, plain, inline, indirect, static, dynamic, Field, Group, kind_width, value_width, field_width, fields_width, fields_of, width, shallow_kind, shallow_fields, shallow}
use Rattle.schema.specs.Table.{schema}
use Rattle.schema.specs.Layout.{width_in, Layout}

-- both of two tests
pub and_both : (a b : Bool) → a && b ≡ true → (a ≡ true) × (b ≡ true)
and_both true b h = (refl, h)
and_both false b h = absurd (let z : ◌≡◌ {A = ℕ} 0 1 = cc in omega arith)

-- A GROUP, ONE STATIC LEVEL FURTHER DOWN

module _ (gs : List Group) where
  pub shallow-some : (d g : ℕ) → shallow gs d g ≡ true → 0 < d
  unfolding shallow
  shallow-some zero g h = absurd (let z : ◌≡◌ {A = ℕ} 0 1 = cc in omega arith)
  shallow-some (suc d) g h = omega arith

  module _ (d g : ℕ) (h : 0 < d) where
    pub shallow-fields : shallow gs d g ≡ shallow_fields (shallow gs (d - 1)) (width gs (d - 1)) (fields_of gs g)
    unfolding shallow
    shallow-fields = go d h
      where
        go : (d : ℕ) → 0 < d → shallow gs d g ≡ shallow_fields (shallow gs (d - 1)) (width gs (d - 1)) (fields_of gs g)
        go zero h = absurd (omega arith)
        go (suc d) h = let q : suc d - 1 ≡ d = omega arith in rw q

    pub width-fields : width gs d g ≡ fields_width (width gs (d - 1)) (fields_of gs g)
    unfolding width
    width-fields = go d h
      where
        go : (d : ℕ) → 0 < d → width gs d g ≡ fields_width (width gs (d - 1)) (fields_of gs g)
        go zero h = absurd (omega arith)
        go (suc d) h = let q : suc d - 1 ≡ d = omega arith in rw q

-- THE FIRST FIELD AND THE OTHERS

pub width-cons : (sw : ℕ → ℕ) (fs gs : List Field) (f : Field) → fs ≡ f ∷ gs → fields_width sw fs ≡ field_width sw f + fields_width sw gs
unfolding fields_width
width-cons sw fs gs f e = rw e

pub shallow-cons : (D : ℕ → Bool) (sw : ℕ → ℕ) (fs gs : List Field) (f : Field) → fs ≡ f ∷ gs → shallow_fields D sw fs ≡ true
    → (shallow_kind D sw f.kind ≡ true) × (shallow_fields D sw gs ≡ true)
unfolding shallow_fields
shallow-cons D sw fs gs f e h = and_both (shallow_kind D sw f.kind) (shallow_fields D sw gs) (rw e at h)

-- THE INDEX HAS THE WIDTHS

module _ (t k : List ℕ) (P : Layout t k) (d : ℕ) where
  pub wide-kind : (x : Kind) → shallow_kind (shallow (schema t) d) (width (schema t) d) x ≡ true → kind_width (width_in k) x ≡ kind_width (width (schema t) d) x
  unfolding kind_width shallow_kind
  wide-kind (plain w y) h = refl
  wide-kind (inline u c) h = refl
  wide-kind (indirect u) h = refl
  wide-kind (static g) h = P.wide d g (and_both (leb 1 (width (schema t) d g)) (shallow (schema t) d g) h).1
  wide-kind (dynamic g) h = refl

  module _ (f : Field) (h : shallow_kind (shallow (schema t) d) (width (schema t) d) f.kind ≡ true) where
    pub wide_value : value_width (width_in k) f ≡ value_width (width (schema t) d) f
    unfolding value_width
    wide_value = ap (cond f.sequence 4) (wide-kind f.kind h)

    pub wide-field : field_width (width_in k) f ≡ field_width (width (schema t) d) f
    unfolding field_width
    wide-field = rw wide_value
