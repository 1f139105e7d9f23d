-- The claims of specs/Claims.antt, shown.
use Rattle.schema.specs.declared.Fault.{Fault}
use Rattle.std.proofs.Common.{Ok, Err, Result}
use Prim.Native.Nat.{ℕ, zero, suc, ◌+◌, ◌*◌, ◌<◌, ◌≤◌}
use mathlib.Core.Path.{◌≡◌, refl, ap, ◌∙◌}
use mathlib.Core.Bool.{Bool, true, false, cond}
use mathlib.Core.List.{List, [], ◌∷◌}
use native.Mathlib.Omega.{arith}
use lib.ListN.{length, drop, get_or}
use lib.Dec.{eqb}
use Rattle.wire.specs.Bytes.{same}
use Rattle.wire.proofs.Laws.{same-eq, same_refl}
use Rattle.schema.specs.Faults.{Verdict, fault_at, need}
use Rattle.schema.specs.Schema.{Field, fields_of, find, known}
use Rattle.schema.specs.Table.{group_marked, field_at, fields_at, field_size, reference, group_at, groups_from, enums, record_count, schema, table_verdict}
use Rattle.schema.proofs.Depth.{and_both}
use Rattle.fields.specs.declared.FieldShape.{FieldShape}
use Rattle.fields.specs.Fields.{size_of, shape_in, shape_under, shape_after, field_shape, signature_of, has_under, has_after, has_fields}
use Rattle.fields.specs.Claims.{Typed, Named, AllNamed, FieldsClaims}

-- A FIELD'S KIND IS ITS TYPE'S

typed-fields : (es : List (List ℕ)) (n : ℕ) (t : List ℕ) → Typed es (fields_at es n t)
unfolding fields_at field_at
typed-fields es zero t = tt
typed-fields es (suc n) t = ((field_size t, reference t, refl), typed-fields es n (drop 16 t))

typed-groups : (es : List (List ℕ)) (n : ℕ) (t : List ℕ) (g : ℕ) → Typed es (fields_of (groups_from es n t) g)
unfolding groups_from fields_of
typed-groups es zero t g = tt
typed-groups es (suc n) t g = go (typed-groups es n (drop 16 t)) (group_marked t) g
  where
    go : ((g : ℕ) → Typed es (fields_of (groups_from es n (drop 16 t)) g)) → (c : Bool) (g : ℕ) → Typed es (fields_of (cond c (group_at es t ∷ groups_from es n (drop 16 t)) (groups_from es n (drop 16 t))) g)
    go rest true zero = unfold fields_of group_at in typed-fields es _ (drop 16 t)
    go rest true (suc g) = unfold fields_of in rest g
    go rest false g = rest g

kinds : (t : List ℕ) (g : ℕ) → Typed (enums t) (fields_of (schema t) g)
unfolding schema
kinds t g = typed-groups (enums t) (record_count t) t g

-- THE SIGNATURE, FIELD BY FIELD

third : (n k : ℕ) → 3 * suc n + k ≡ suc (suc (suc (3 * n + k)))
third n k = omega arith

bit : (c : Bool) → eqb (cond c 1 0) 1 ≡ c
bit true = refl
bit false = refl

-- a signature with one field more in front
whole : (n : ℕ) → 3 * suc n ≡ suc (suc (suc (3 * n)))
whole n = omega arith

module _ (a b c : ℕ) (x : List ℕ) (n : ℕ) (y : Result FieldShape Fault) where
  later : Named x n y → Named (a ∷ (b ∷ (c ∷ x))) (suc n) y
  later e = rw (third n 1, third n 2, whole n) e

  earlier : Named (a ∷ (b ∷ (c ∷ x))) (suc n) y → Named x n y
  earlier e = rw (third n 1, third n 2, whole n) at e

-- the shapes of fields, by their signature
each-named : (fs : List Field) (n : ℕ) → n < length fs → Named (signature_of fs) n (shape_in fs n)
unfolding signature_of shape_in
each-named [] n h = absurd (omega arith)
each-named (f ∷ fs) zero h = (size_of f.type f.kind, rw (bit f.optional, bit f.sequence))
each-named (f ∷ fs) (suc n) h = later f.type (cond f.optional 1 0) (cond f.sequence 1 0) (signature_of fs) n (shape_in fs n) (each-named fs n (omega arith))

none-behind : (fs : List Field) (n : ℕ) → length fs ≤ n → shape_in fs n ≡ Err (fault_at 28 0)
unfolding shape_in
none-behind [] n h = refl
none-behind (f ∷ fs) zero h = absurd (omega arith)
none-behind (f ∷ fs) (suc n) h = none-behind fs n (omega arith)

length-signature : (fs : List Field) → length (signature_of fs) ≡ 3 * length fs
unfolding signature_of
length-signature [] = refl
length-signature (f ∷ fs) = let e = length-signature fs in omega (arith, e)

-- the other way: fields whose shapes a signature names have that signature
flagged : (c : Bool) (k : ℕ) → k ≤ 1 → c ≡ eqb k 1 → cond c 1 0 ≡ k
flagged c zero h e = rw e
flagged c (suc zero) h e = rw e
flagged c (suc (suc k)) h e = absurd (omega arith)

abbrev Flags : List ℕ → ℕ → Type 0
Flags x m = (n : ℕ) → n < m → (get_or x (3 * n + 1) 0 ≤ 1) × (get_or x (3 * n + 2) 0 ≤ 1)

abbrev shaped : ℕ → Bool → Bool → ℕ → FieldShape
shaped number optional sequence size = record { number = number; optional = optional; sequence = sequence; size = size }

signed : (m : ℕ) (fs : List Field) (x : List ℕ) → length x ≡ 3 * m → Flags x m → ((n : ℕ) → n < m → Named x n (shape_in fs n)) → shape_in fs m ≡ Err (fault_at 28 0) → signature_of fs ≡ x
unfolding signature_of shape_in
signed zero [] [] l flags each last = refl
signed zero (f ∷ fs) [] l flags each last = let z : ◌≡◌ {A = ℕ} 0 1 = cc in absurd (omega arith)
signed zero fs (a ∷ x) l flags each last = absurd (omega (arith, l))
signed (suc m) [] x l flags each last = let e = (each 0 (omega arith)).1 in let z : ◌≡◌ {A = ℕ} 0 1 = cc in absurd (omega arith)
signed (suc m) (f ∷ fs) [] l flags each last = absurd (omega (arith, l))
signed (suc m) (f ∷ fs) (a ∷ []) l flags each last = absurd (omega (arith, l))
signed (suc m) (f ∷ fs) (a ∷ (b ∷ [])) l flags each last = absurd (omega (arith, l))
signed (suc m) (f ∷ fs) (a ∷ (b ∷ (c ∷ x))) l flags each last =
    let e = (each 0 (omega arith)).1 in
    let s : shaped f.type f.optional f.sequence (size_of f.type f.kind) ≡ shaped a (eqb b 1) (eqb c 1) (each 0 (omega arith)).0 = cc in
    let y : f.type ≡ a = ap (λ (x : FieldShape). x.number) s in
    let o : f.optional ≡ eqb b 1 = ap (λ (x : FieldShape). x.optional) s in
    let q : f.sequence ≡ eqb c 1 = ap (λ (x : FieldShape). x.sequence) s in
    let g = flags 0 (omega arith) in
    let rest = signed m fs x (omega (arith, l)) (λ n h. rw (third n 1, third n 2) at (flags (suc n) (omega arith))) (λ n h. earlier a b c x n (shape_in fs n) (each (suc n) (omega arith))) last in
    λ i. y i ∷ (flagged f.optional b g.0 o i ∷ (flagged f.sequence c g.1 q i ∷ rest i))

-- THE QUESTIONS

has-true : (v : Verdict) (c : Bool) → has_after v c ≡ true → (v ≡ Ok tt) × (c ≡ true)
unfolding has_after
has-true (Ok _) c e = (refl, e)
has-true (Err f) c e = let z : ◌≡◌ {A = ℕ} 0 1 = cc in absurd (omega arith)

only-28 : (v : Verdict) (k : Bool) (y : Result FieldShape Fault) → shape_after v (need k (Err (fault_at 2 0)) y) ≡ Err (fault_at 28 0) → (v ≡ Ok tt) × (k ≡ true) × (y ≡ Err (fault_at 28 0))
unfolding shape_after need
only-28 (Ok _) true y e = (refl, refl, e)
only-28 (Ok _) false y e = let z : ◌≡◌ {A = Fault} (fault_at 2 0) (fault_at 28 0) = cc in absurd (omega (arith, ap (λ (x : Fault). x.number) z))
only-28 (Err f) k y e = let z : ◌≡◌ {A = Fault} (fault_at 20 0) (fault_at 28 0) = cc in absurd (omega (arith, ap (λ (x : Fault). x.number) z))

module _ (t : List ℕ) (id m : ℕ) (x : List ℕ) (l : length x ≡ 3 * m) where
  abbrev fs : List Field
  fs = fields_of (schema t) (find (schema t) id)

  module _ (a : table_verdict t ≡ Ok tt) (k : known (schema t) id ≡ true) where
    shape_is : (n : ℕ) → field_shape t id n ≡ shape_in fs n
    unfolding field_shape shape_after shape_under need
    shape_is n = rw (a, k)

    has-is : has_fields t id x ≡ same (signature_of fs) x
    unfolding has_fields has_after has_under
    has-is = rw (a, k)

  named : has_fields t id x ≡ true → AllNamed t id m x
  unfolding has_fields has_under
  named e =
      let (a, h) = has-true (table_verdict t) _ e in
      let (k, q) = and_both (known (schema t) id) (same (signature_of fs) x) h in
      let s : signature_of fs ≡ x = same-eq (signature_of fs) x q in
      let c : length fs ≡ m = omega (arith, l, length-signature fs, ap length s) in
      record {
        each = λ n h. rw (shape_is a k n, ← s) (each-named fs n (omega (arith, c, h)));
        last = shape_is a k m ∙ none-behind fs m (omega (arith, c));
      }

  has : Flags x m → AllNamed t id m x → has_fields t id x ≡ true
  has flags N =
      let (a, k, last) = only-28 (table_verdict t) (known (schema t) id) (shape_in fs m) (unfold field_shape shape_under in N.last) in
      let s : signature_of fs ≡ x = signed m fs x l flags (λ n h. rw (← shape_is a k n) (N.each n h)) last in
      has-is a k ∙ rw s (same_refl x)

pub fields-claims : FieldsClaims
fields-claims = record { kinds = kinds; exactly = λ t id m x l flags. (named t id m x l, has t id m x l flags) }
