-- The table's records where they stand: what is defined of the table's bytes that are left, at an index of the whole table.
use Rattle.std.proofs.Common.{◌≡◌, ℕ, suc, ◌+◌, ◌-◌, ◌<◌, ◌≤◌, eqb, List, [], ◌∷◌, get_or, drop, arith, get_or-drop, drop-drop}
use Rattle.wire.specs.Bytes.{part, le}
use Rattle.schema.specs.Table.{field_type, field_size, reference, kind_of, field_at, fields_at}

-- a byte, and a number, of what is left at p
pub byte_at : (t : List ℕ) (p i : ℕ) → get_or (drop p t) i 0 ≡ get_or t (p + i) 0
byte_at t p i = get_or-drop p t i 0

pub number-at : (n i p : ℕ) (t : List ℕ) → le (part n i (drop p t)) ≡ le (part n (p + i) t)
number-at n i p t = rw (drop-drop i p t)

-- FIELDS

module _ (es : List (List ℕ)) (t : List ℕ) (p : ℕ) where
  pub field-kind : (type size ref : ℕ) → type ≡ field_type (drop p t) → size ≡ field_size (drop p t) → ref ≡ reference (drop p t) → kind_of es type size ref ≡ (field_at es (drop p t)).kind
  unfolding field_at
  field-kind type size ref a b c = rw (a, b, c)

  pub field-optional : (field_at es (drop p t)).optional ≡ eqb (get_or t (p + 3) 0) 1
  unfolding field_at
  field-optional = rw (byte_at t p 3)

  pub field-sequence : (field_at es (drop p t)).sequence ≡ eqb (get_or t (p + 4) 0) 1
  unfolding field_at
  field-sequence = rw (byte_at t p 4)

  -- of n fields' records that begin at p, those behind the first i, one turn further
  pub fields-more : (n i : ℕ) → i < n → fields_at es (n - i) (drop p t) ≡ field_at es (drop p t) ∷ fields_at es (n - (i + 1)) (drop (p + 16) t)
  unfolding fields_at
  fields-more n i h = let e : n - i ≡ suc (n - (i + 1)) = omega arith in rw (e, drop-drop 16 p t)

  pub fields-none : (n i : ℕ) → n ≤ i → fields_at es (n - i) (drop p t) ≡ []
  unfolding fields_at
  fields-none n i h = let e : n - i ≡ 0 = omega arith in rw e
