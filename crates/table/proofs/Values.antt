-- An accepted table's enumerations are in order.
use Rattle.std.proofs.Common.{Ok}
use mathlib.Core.Path.{◌≡◌, sym, ◌∙◌}
use mathlib.Core.Bool.{Bool}
use mathlib.Core.List.{List, [], ◌∷◌}
use Prim.Native.Nat.{ℕ, zero, suc, ◌+◌, ◌-◌, ◌<◌, ◌≤◌}
use native.Mathlib.Omega.{arith}
use lib.ListN.{length, drop, get_or, get_or-eq_default}
use borrow.Author.Tests.{leb-true}
use Rattle.schema.specs.Schema.{Group}
use Rattle.schema.specs.Symbols.{rank, Ordered}
use Rattle.schema.specs.Table.{symbol_count, symbol_value, values_at, enums_from, record_count, enums, schema, shape_verdict, symbol_verdict, records_from, records_verdict, table_verdict}
use Rattle.schema.proofs.Symbols.{values_length}
use Rattle.table.proofs.Laws.{need-accepted, also-accepted, record-symbol}
use Rattle.table.proofs.Records.{symbol-no-group, symbol-no-enum, symbol-no-field, field-no-group, field-no-enum, enum-no-group, enum-no-symbol, group-no-enum}
use Rattle.table.proofs.Formed.{passed, Formed, end, symbol, field, enum, group, formed}

-- VALUES THAT RISE, FROM THE RANK low ON

record Rising (low : ℕ) (vs : List ℕ) : Type 0 where
  least : (i : ℕ) → i < length vs → low ≤ rank (get_or vs i 0)
  rise : (i j : ℕ) → i < j → j < length vs → rank (get_or vs i 0) < rank (get_or vs j 0)

rising_none : (low : ℕ) → Rising low []
rising_none low = record { least = λ i l. absurd (omega arith); rise = λ i j h l. absurd (omega arith) }

rising-more : (low v : ℕ) (vs : List ℕ) → low ≤ rank v → Rising (rank v + 1) vs → Rising low (v ∷ vs)
rising-more low v vs h r = record { least = least; rise = rise }
  where
    least : (i : ℕ) → i < length (v ∷ vs) → low ≤ rank (get_or (v ∷ vs) i 0)
    least zero l = h
    least (suc i) l = omega (arith, r.least i (omega arith))

    rise : (i j : ℕ) → i < j → j < length (v ∷ vs) → rank (get_or (v ∷ vs) i 0) < rank (get_or (v ∷ vs) j 0)
    rise i zero q l = absurd (omega arith)
    rise zero (suc j) q l = omega (arith, r.least j (omega arith))
    rise (suc i) (suc j) q l = r.rise i j (omega arith) (omega arith)

-- THE ENUMERATIONS

symbol-rises : (low p : ℕ) (t : List ℕ) → symbol_verdict low p t ≡ Ok tt → low ≤ rank (symbol_value t)
unfolding symbol_verdict
symbol-rises low p t e = leb-true low _ (need-accepted _ _ _ _ (need-accepted _ _ _ _ e).1).0

none-at : (x : ℕ) → ◌≡◌ {A = List ℕ} (get_or [] x []) []
none-at x = get_or-eq_default [] [] {n = x} (omega arith)

each : (x : ℕ) (vs : List ℕ) (es : List (List ℕ)) → Ordered vs → ((y : ℕ) → Ordered (get_or es y [])) → Ordered (get_or (vs ∷ es) x [])
each zero vs es a b = a
each (suc x) vs es a b = b x

module _ (ne : ℕ) (gs : List Group) where
  rises : {n e g o : ℕ} {s : Bool} {t : List ℕ} → Formed n e g o s t → (low p : ℕ) → records_from ne gs n g low p t ≡ Ok tt
      → ((x : ℕ) → Ordered (get_or (enums_from n t) x [])) × (g ≡ 0 → Rising low (values_at o t))
  unfolding records_from enums_from values_at
  rises (end z) low p h = (λ x. rw (none-at x) (record { few = omega arith; rise = (rising_none 0).rise }), λ _. rw z (rising_none low))
  rises {g = g} {o = o} {t = t} (symbol l z m f) low p h =
      let v = also-accepted _ _ h in
      let r = rises f _ _ (rw (symbol-no-group t m, m) at v.1) in
      let s = symbol-rises low p t (sym (record-symbol ne gs g low p t (symbol-no-field t m) m) ∙ v.0) in
      let k : o ≡ suc (o - 1) = omega arith in
      (λ x. rw (symbol-no-enum t m) (r.0 x), λ q. rw k (rising-more low (symbol_value t) (values_at (o - 1) (drop 16 t)) s (r.1 q)))
  rises {t = t} (field l z m f) low p h =
      let r = rises f _ _ (rw (field-no-group t m) at (also-accepted _ _ h).1) in
      (λ x. rw (field-no-enum t m) (r.0 x), λ q. absurd (z q))
  rises {n = suc n} {o = o} {t = t} (enum l z m _ c f) low p h =
      let r = rises f _ _ (rw (enum-no-group t m, enum-no-symbol t m) at (also-accepted _ _ h).1) in
      let k : o ≡ 0 = omega arith in
      let v : Ordered (values_at (symbol_count t) (drop 16 t)) = record { few = omega (arith, values_length (symbol_count t) (drop 16 t), c); rise = (r.1 z).rise } in
      (λ x. rw m (each x (values_at (symbol_count t) (drop 16 t)) (enums_from n (drop 16 t)) v r.0), λ q. rw k (rising_none low))
  rises {g = g} {o = o} {t = t} (group l m _ _ f) low p h =
      let r = rises f _ _ (rw m at (also-accepted _ _ h).1) in
      let k : o ≡ 0 = omega arith in
      (λ x. rw (group-no-enum t m) (r.0 x), λ q. rw k (rising_none low))

pub lists-ordered : (t : List ℕ) → shape_verdict t ≡ Ok tt → records_verdict t ≡ Ok tt → (e : ℕ) → Ordered (get_or (enums t) e [])
unfolding shape_verdict records_verdict enums
lists-ordered t s r e = (rises (length (enums t)) (schema t) (formed (record_count t) _ 0 t s) 0 0 r).0 e

pub accepted-ordered : (t : List ℕ) → table_verdict t ≡ Ok tt → (e : ℕ) → Ordered (get_or (enums t) e [])
accepted-ordered t h = let p = passed t h in lists-ordered t p.shape p.records
