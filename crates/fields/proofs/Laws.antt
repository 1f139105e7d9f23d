-- A group's fields, by their records in the table.
use Rattle.std.proofs.Common.{Ok, Err, Option, Some, None, if◌then◌else◌}
use Prim.Native.Nat.{ℕ, zero, suc, ◌+◌, ◌-◌, ◌*◌, ◌<◌, ◌≤◌}
use mathlib.Core.Path.{◌≡◌, refl, sym, ap, ◌∙◌}
use mathlib.Core.Bool.{Bool, true, false, cond, ◌&&◌}
use mathlib.Core.List.{List, []}
use native.Mathlib.Omega.{arith}
use native.Mathlib.Nat.{add-zero, mul-zero}
use lib.ListN.{length, take, drop, get_or, drop_of_length-le}
use lib.Seq.{drop-drop}
use lib.Dec.{eqb, leb}
use borrow.Author.Tests.{le-ltb, lt-ltb, ltb-true, eq-eqb, ne_eqb, eqb-true, eqb-false}
use Rattle.wire.specs.Bytes.{same}
use Rattle.wire.proofs.Laws.{drop_more, same-eq}
use Rattle.std.specs.Result.{is_ok, is_err}
use Rattle.schema.specs.Faults.{Verdict, fault_at, need}
use Rattle.schema.specs.Schema.{Test, any, flag, below, symbol, Kind, plain, inline, indirect, Field, fields_of, find, known}
use Rattle.schema.specs.Table.{scalar_width, field_count, kind_of, field_at, fields_at, enums, schema, table_verdict}
use Rattle.schema.specs.Layout.{group_place, group_total, Layout}
use Rattle.schema.proofs.Groups.{placed-fields, find-whole, known_is}
use Rattle.fields.specs.Fields.{size_of, shape_of, shape_in, shape_under, shape_after, field_shape, signature_of, has_under, has_after, has_fields}

-- THE TABLE'S OWN FAULTS

pub accepted : (v : Verdict) → is_ok v ≡ true → v ≡ Ok tt
accepted (Ok x) e = refl
accepted (Err f) e = let z : ⊥ = cc in absurd z

pub not_refused : (v : Verdict) → is_err v ≡ false → v ≡ Ok tt
not_refused (Ok x) e = refl
not_refused (Err f) e = let z : ⊥ = cc in absurd z

pub shape-20 : (v : Verdict) (t : List ℕ) → v ≡ table_verdict t → is_err v ≡ true → (id n : ℕ) → field_shape t id n ≡ Err (fault_at 20 0)
unfolding field_shape shape_after
shape-20 (Ok x) t e h id n = let z : ⊥ = cc in absurd z
shape-20 (Err f) t e h id n = rw (← e)

pub has-none : (v : Verdict) (t : List ℕ) → v ≡ table_verdict t → is_ok v ≡ false → (id : ℕ) (x : List ℕ) → has_fields t id x ≡ false
unfolding has_fields has_after
has-none (Ok x) t e h id y = let z : ⊥ = cc in absurd z
has-none (Err f) t e h id y = rw (← e)

module _ (t : List ℕ) (e : table_verdict t ≡ Ok tt) where
  pub shape-accepted : (id f : ℕ) → field_shape t id f ≡ shape_under (schema t) id f
  unfolding field_shape shape_after
  shape-accepted id f = rw e

  pub has-accepted : (id : ℕ) (x : List ℕ) → has_fields t id x ≡ has_under (schema t) id x
  unfolding has_fields has_after
  has-accepted id x = rw e

-- FIELDS IN A ROW

module _ (es : List (List ℕ)) (t : List ℕ) where
  shape-past : (n f p : ℕ) → n ≤ f → shape_in (fields_at es n (drop p t)) f ≡ Err (fault_at 28 0)
  unfolding shape_in fields_at
  shape-past zero f p h = refl
  shape-past (suc n) zero p h = absurd (omega arith)
  shape-past (suc n) (suc f) p h = rw (drop-drop 16 p t) (shape-past n f (p + 16) (omega arith))

  shape-there : (n f p : ℕ) → f < n → shape_in (fields_at es n (drop p t)) f ≡ shape_of (field_at es (drop (p + 16 * f) t))
  unfolding shape_in fields_at
  shape-there zero f p h = absurd (omega arith)
  shape-there (suc n) zero p h = rw (mul-zero, add-zero)
  shape-there (suc n) (suc f) p h =
      let q : p + 16 + 16 * f ≡ p + 16 * suc f = omega arith in
      rw (drop-drop 16 p t, ← q) (shape-there n f (p + 16) (omega arith))

-- THE GROUP WITH AN ID

module _ (t k : List ℕ) (P : Layout t k) (id : ℕ) where
  abbrev g : ℕ
  g = find (schema t) id

  -- where its record stands, by its number f among all n
  module _ (n f : ℕ) (all : n ≡ group_total k) (is : f ≡ find (take n (schema t)) id) where
    pub group-is : f ≡ g
    group-is = is ∙ find-whole (schema t) n id (all ∙ P.total)

    pub group-known : f < n → known (schema t) id ≡ true
    group-known h = known_is (schema t) id f group-is ∙ lt-ltb f (length (schema t)) (omega (arith, h, all, P.total))

    pub group-unknown : n ≤ f → known (schema t) id ≡ false
    group-unknown h = known_is (schema t) id f group-is ∙ le-ltb f (length (schema t)) (omega (arith, h, all, P.total))

  -- what the answer says
  abbrev record_of : Bool → Option ℕ
  record_of b = if b then Some (group_place k g) else None

  module _ (r : Option ℕ) (e : r ≡ record_of (known (schema t) id)) where
    pub no-record : r ≡ None → known (schema t) id ≡ false
    no-record z = go (known (schema t) id) (sym z ∙ e)
      where
        go : (b : Bool) → None ≡ record_of b → b ≡ false
        go true q = let x : ⊥ = cc in absurd x
        go false q = refl

    pub some_record : (at : ℕ) → r ≡ Some at → (known (schema t) id ≡ true) × (at ≡ group_place k g)
    some_record at z = go (known (schema t) id) (sym z ∙ e)
      where
        go : (b : Bool) → Some at ≡ record_of b → (b ≡ true) × (at ≡ group_place k g)
        go true q = (refl, cc)
        go false q = let x : ⊥ = cc in absurd x

  module _ (unknown : known (schema t) id ≡ false) where
    pub shape-2 : (f : ℕ) → Err (fault_at 2 0) ≡ shape_under (schema t) id f
    unfolding shape_under need
    shape-2 f = rw unknown

    pub has-no-group : (x : List ℕ) → false ≡ has_under (schema t) id x
    unfolding has_under
    has-no-group x = rw unknown

  -- r: where its record stands
  module _ (r : ℕ) (s : (known (schema t) id ≡ true) × (r ≡ group_place k g)) where
    group-in : g < length (schema t)
    unfolding known
    group-in = ltb-true _ _ s.0

    -- c: how many fields it has
    module _ (c : ℕ) (counts : c ≡ field_count (drop r t)) where
      pub rows_in : r + 16 + 16 * c ≤ length t
      rows_in = rw (counts, s.1) (P.placed.inside g group-in)

      fields-are : fields_of (schema t) g ≡ fields_at (enums t) c (drop (r + 16) t)
      fields-are = rw (counts, s.1) (placed-fields t k (length (schema t)) P.placed g group-in)

      shape-known : (f : ℕ) → shape_under (schema t) id f ≡ shape_in (fields_at (enums t) c (drop (r + 16) t)) f
      unfolding shape_under need
      shape-known f = rw (s.0, fields-are)

      pub shape-28 : (f : ℕ) → c ≤ f → Err (fault_at 28 0) ≡ shape_under (schema t) id f
      shape-28 f l = sym (shape-known f ∙ shape-past (enums t) t c f (r + 16) l)

      pub shape-found : (f : ℕ) → f < c → shape_of (field_at (enums t) (drop (r + 16 + 16 * f) t)) ≡ shape_under (schema t) id f
      shape-found f l = sym (shape-known f ∙ shape-there (enums t) t c f (r + 16) l)

      pub has-known : (x : List ℕ) → same (signature_of (fields_at (enums t) c (drop (r + 16) t))) x ≡ has_under (schema t) id x
      unfolding has_under
      has-known x = rw (s.0, fields-are)

-- THE SIZE

-- a string or binary in the data area has the size 0
capacity : (k s : ℕ) (u : Bool) → s ≡ size_of k (cond (eqb s 0) (indirect u) (inline u s))
capacity k s u = go (eqb s 0) refl
  where
    go : (c : Bool) → eqb s 0 ≡ c → s ≡ size_of k (cond c (indirect u) (inline u s))
    go true e = unfold size_of in eqb-true s 0 e
    go false e = unfold size_of in refl

either-kind : (k : ℕ) (c : Bool) (x y : Kind) → size_of k x ≡ 0 → size_of k y ≡ 0 → size_of k (cond c x y) ≡ 0
either-kind k true x y e f = e
either-kind k false x y e f = f

module _ (es : List (List ℕ)) (k : ℕ) (s r : ℕ) where
  abbrev Size : ℕ → Type 0
  Size n = n ≡ size_of k (kind_of es k s r)

  size-17 : k ≡ 17 → Size s
  unfolding kind_of
  size-17 e = rw e (capacity 17 s true)

  size-18 : k ≡ 18 → Size s
  unfolding kind_of
  size-18 e = rw e (capacity 18 s false)

  size-19 : k ≡ 19 → Size s
  unfolding kind_of size_of
  size-19 e = rw e

  pub size-some : 17 ≤ k → k ≤ 19 → Size s
  size-some l h = go (eqb k 17) refl (eqb k 18) refl
    where
      go : (a : Bool) → eqb k 17 ≡ a → (b : Bool) → eqb k 18 ≡ b → Size s
      go true e b f = size-17 (eqb-true k 17 e)
      go false e true f = size-18 (eqb-true k 18 f)
      go false e false f = size-19 (omega (arith, l, h, eqb-false k 17 e, eqb-false k 18 f))

  module _ (n : k ≡ 19 → ⊥) where
    plain-none : (w : ℕ) (x : Test) → size_of k (plain w x) ≡ 0
    unfolding size_of
    plain-none w x = rw (ne_eqb k 19 n)

    pub size_none : (k ≡ 17 → ⊥) → (k ≡ 18 → ⊥) → Size 0
    unfolding kind_of size_of
    size_none l m = sym (rw (ne_eqb k 17 l, ne_eqb k 18 m, ne_eqb k 19 n)
        (either-kind k (eqb k 11) _ _ (plain-none 1 flag)
        (either-kind k (eqb k 15) _ _ (plain-none 4 (below 86400000))
        (either-kind k (eqb k 16) _ _ (plain-none 8 (below 86400000000000))
        (either-kind k (leb k 16) _ _ (plain-none (scalar_width k) any)
        (either-kind k (eqb k 20) _ _ (plain-none 4 (symbol (get_or es r [])))
        (either-kind k (eqb k 21) _ _ refl
        (either-kind k (eqb k 22) _ _ refl refl))))))))

-- THE SIGNATURE

-- what `has_signature` tests of the field f, and the bytes that name it
abbrev pub Named : Field → List ℕ → ℕ → Bool
Named f x at = eqb f.type (get_or x at 0) && (eqb (cond f.optional 1 0) (get_or x (at + 1) 0) && eqb (cond f.sequence 1 0) (get_or x (at + 2) 0))

-- the tests on what the code reads
module _ (f : Field) (x : List ℕ) (at n o s : ℕ) (a : n ≡ f.type) (b : o ≡ cond f.optional 1 0) (c : s ≡ cond f.sequence 1 0) where
  tests : eqb n (get_or x at 0) && (eqb o (get_or x (at + 1) 0) && eqb s (get_or x (at + 2) 0)) ≡ Named f x at
  tests = rw (a, b, c)

  pub named-last : n ≡ get_or x at 0 → o ≡ get_or x (at + 1) 0 → eqb s (get_or x (at + 2) 0) ≡ Named f x at
  named-last h l = rw (eq-eqb _ _ h, eq-eqb _ _ l) at tests

  pub named-type : (n ≡ get_or x at 0 → ⊥) → false ≡ Named f x at
  named-type h = rw (ne_eqb _ _ h) at tests

  pub named-optional : n ≡ get_or x at 0 → (o ≡ get_or x (at + 1) 0 → ⊥) → false ≡ Named f x at
  named-optional h l = rw (eq-eqb _ _ h, ne_eqb _ _ l) at tests

and-three : (a b c d : Bool) → a && (b && (c && d)) ≡ (a && (b && c)) && d
and-three true true c d = refl
and-three true false c d = refl
and-three false b c d = refl

module _ (es : List (List ℕ)) (t x : List ℕ) (row : ℕ) where
  -- the answer for what is left of n fields after i
  abbrev pub Left : ℕ → ℕ → Bool
  Left n i = same (signature_of (fields_at es (n - i) (drop (row + 16 * i) t))) (drop (3 * i) x)

  left-more : (n i : ℕ) → length x ≡ 3 * n → i < n → Left n i ≡ Named (field_at es (drop (row + 16 * i) t)) x (3 * i) && Left n (i + 1)
  unfolding signature_of fields_at same
  left-more n i l h =
      let m : n - i ≡ suc (n - (i + 1)) = omega arith in
      let r : row + 16 * i + 16 ≡ row + 16 * (i + 1) = omega arith in
      let a : 3 * i + 1 + 1 ≡ 3 * i + 2 = omega arith in
      let b : 3 * i + 2 + 1 ≡ 3 * (i + 1) = omega arith in
      let f = field_at es (drop (row + 16 * i) t) in
      rw (m, drop_more x (3 * i) (omega (arith, l, h)), drop_more x (3 * i + 1) (omega (arith, l, h)), a, drop_more x (3 * i + 2) (omega (arith, l, h)), b, drop-drop 16 (row + 16 * i) t, r)
      (and-three (eqb f.type (get_or x (3 * i) 0)) (eqb (cond f.optional 1 0) (get_or x (3 * i + 1) 0)) (eqb (cond f.sequence 1 0) (get_or x (3 * i + 2) 0)) (Left n (i + 1)))

  pub left_step : (n i : ℕ) → length x ≡ 3 * n → i < n → Named (field_at es (drop (row + 16 * i) t)) x (3 * i) ≡ true → Left n i ≡ Left n (i + 1)
  left_step n i l h e = left-more n i l h ∙ rw e

  pub left_false : (n i : ℕ) → length x ≡ 3 * n → i < n → Named (field_at es (drop (row + 16 * i) t)) x (3 * i) ≡ false → Left n i ≡ false
  left_false n i l h e = left-more n i l h ∙ rw e

  pub left-none : (n i : ℕ) → length x ≡ 3 * n → n ≤ i → i ≤ n → Left n i ≡ true
  unfolding signature_of fields_at same
  left-none n i l h k = let m : n - i ≡ 0 = omega arith in rw (m, drop_of_length-le x {i = 3 * i} (omega (arith, l, h)))

length-signature : (es : List (List ℕ)) (n : ℕ) (s : List ℕ) → length (signature_of (fields_at es n s)) ≡ 3 * n
unfolding signature_of fields_at
length-signature es zero s = refl
length-signature es (suc n) s = let e = length-signature es n (drop 16 s) in omega (arith, e)

-- fields and signature of different lengths
pub other_length : (es : List (List ℕ)) (n : ℕ) (s x : List ℕ) → (length x ≡ 3 * n → ⊥) → same (signature_of (fields_at es n s)) x ≡ false
other_length es n s x differ = go (same (signature_of (fields_at es n s)) x) refl
  where
    go : (c : Bool) → same (signature_of (fields_at es n s)) x ≡ c → c ≡ false
    go true e = absurd (differ (ap length (sym (same-eq (signature_of (fields_at es n s)) x e)) ∙ length-signature es n s))
    go false e = refl
