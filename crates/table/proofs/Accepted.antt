-- An accepted table's schema, for the crates above to cite: `accepted` says what a verdict gives.
use Rattle.std.proofs.Common.{Ok}
use mathlib.Core.Path.{◌≡◌, refl, sym, ◌∙◌}
use mathlib.Core.Bool.{Bool, true, false, not, cond, ◌&&◌}
use mathlib.Core.List.{List, [], ◌∷◌}
use Prim.Native.Nat.{ℕ, zero, suc, ◌+◌, ◌<◌, ◌≤◌}
use native.Mathlib.Omega.{arith}
use lib.ListN.{length, take, drop}
use lib.Dec.{leb, ltb, eqb}
use borrow.Author.Tests.{eqb-true, eqb-false, ltb-true, ltb-false, eq-eqb, lt-ltb, not-true}
use Rattle.schema.specs.Schema.{Group, find, known, super_of, width, shallow}
use Rattle.schema.specs.Symbols.{rank}
use Rattle.schema.specs.Table.{SY, symbol_value, record_verdict, marked, group_marked, id_flag, type_id, group_at, groups_from, enums_from, record_count, enums, schema, shape_verdict, group_verdict, records_from, records_verdict, in_bounds, table_verdict}
use Rattle.table.specs.Measure.{Sound}
use Rattle.table.specs.Claims.{BeginsSuper}
use Rattle.table.proofs.Laws.{need-accepted, also-accepted, record-group}
use Rattle.table.proofs.Records.{drop-next, symbol-no-group, symbol-no-enum, field-no-group, field-no-enum, enum-no-group, group-no-enum, group-no-field, group-no-symbol}
use Rattle.schema.proofs.Depth.{and_both}
use Rattle.table.proofs.Widths.{shallow-out, all-bounded}
use Rattle.table.proofs.Formed.{Passed, passed, Formed, end, symbol, field, enum, group, formed, schema-sound, supers-low}
use Rattle.table.proofs.Supers.{begins-super}

-- HOW MANY

few-groups : {n e g o : ℕ} {s : Bool} {t : List ℕ} → (es : List (List ℕ)) → Formed n e g o s t → g ≤ 64 → g + length (groups_from es n t) ≤ 64
unfolding groups_from
few-groups es (end z) l = omega arith
few-groups {t = t} es (symbol _ _ m f) l = rw (symbol-no-group t m) (few-groups es f l)
few-groups {t = t} es (field _ _ m f) l = rw (field-no-group t m) (few-groups es f l)
few-groups {t = t} es (enum _ _ m _ _ f) l = rw (enum-no-group t m) (few-groups es f l)
few-groups {t = t} es (group _ m _ k f) l = let r = few-groups es f (omega arith) in rw m (omega (arith, r))

few-enums : {n e g o : ℕ} {s : Bool} {t : List ℕ} → Formed n e g o s t → e ≤ 64 → e + length (enums_from n t) ≤ 64
unfolding enums_from
few-enums (end z) l = omega arith
few-enums {t = t} (symbol _ _ m f) l = rw (symbol-no-enum t m) (few-enums f l)
few-enums {t = t} (field _ _ m f) l = rw (field-no-enum t m) (few-enums f l)
few-enums {t = t} (enum _ _ m k _ f) l = let r = few-enums f (omega arith) in rw m (omega (arith, r))
few-enums {t = t} (group _ m _ _ f) l = rw (group-no-enum t m) (few-enums f l)

-- A TYPE ID NAMES ONE GROUP

pub record Names (gs : List Group) (g id : ℕ) : Type 0 where
  pub it : Group
  pub rest : List Group
  pub at : drop g gs ≡ it ∷ rest
  pub has : it.has_id ≡ true
  pub is : it.id ≡ id

found_first : (c : Bool) (a b : ℕ) → (c ≡ false → a < b) → cond c 0 (suc a) < suc b
found_first true a b f = omega arith
found_first false a b f = omega (arith, f refl)

found_in : (gs : List Group) (g n id : ℕ) → g < n → Names gs g id → find (take n gs) id < length (take n gs)
unfolding find
found_in gs g zero id l x = absurd (omega arith)
found_in [] g (suc n) id l x = absurd (nothing g x.at)
  where
    nothing : (g : ℕ) {y : Group} {r : List Group} → drop g [] ≡ y ∷ r → ⊥
    nothing zero e = let z : ◌≡◌ {A = ℕ} 0 1 = cc in omega arith
    nothing (suc g) e = let z : ◌≡◌ {A = ℕ} 0 1 = cc in omega arith
found_in (y ∷ gs) zero (suc n) id l x =
    let z : y ≡ x.it = let e = x.at in cc in
    let h : (y.has_id && eqb y.id id) ≡ true = rw (z, x.has, eq-eqb x.it.id id x.is) in
    found_first (y.has_id && eqb y.id id) _ _ (λ q. absurd (let b : ◌≡◌ {A = ℕ} 0 1 = cc in omega arith))
found_in (y ∷ gs) (suc g) (suc n) id l x =
    found_first (y.has_id && eqb y.id id) _ _ (λ _. found_in gs g n id (omega arith) (record { it = x.it; rest = x.rest; at = x.at; has = x.has; is = x.is }))

known_in : (gs : List Group) (g n id : ℕ) → g < n → Names gs g id → known (take n gs) id ≡ true
unfolding known
known_in gs g n id l x = lt-ltb _ _ (found_in gs g n id l x)

module _ (es : List (List ℕ)) (ne : ℕ) (gs : List Group) where
  -- a group's id is none of those before
  fresh : {n e g o : ℕ} {s : Bool} {t : List ℕ} → Formed n e g o s t → (low p : ℕ) → records_from ne gs n g low p t ≡ Ok tt → drop g gs ≡ groups_from es n t
      → (k id : ℕ) → g ≤ k → Names gs k id → known (take k gs) id ≡ false
  unfolding records_from groups_from
  fresh {g = g} (end z) low p h d k id l x = absurd (past gs g k l d x.at)
    where
      past : (gs : List Group) (g k : ℕ) → g ≤ k → drop g gs ≡ [] → {y : Group} {r : List Group} → drop k gs ≡ y ∷ r → ⊥
      past gs zero zero l d e = let z : ◌≡◌ {A = ℕ} 0 1 = cc in omega arith
      past [] zero (suc k) l d e = let z : ◌≡◌ {A = ℕ} 0 1 = cc in omega arith
      past (y ∷ gs) zero (suc k) l d e = let z : ◌≡◌ {A = ℕ} 0 1 = cc in omega arith
      past gs (suc g) zero l d e = omega arith
      past [] (suc g) (suc k) l d e = let z : ◌≡◌ {A = ℕ} 0 1 = cc in omega arith
      past (y ∷ gs) (suc g) (suc k) l d e = past gs g k (omega arith) d e
  fresh {t = t} (symbol _ _ m f) low p h d k id l x = let n = symbol-no-group t m in fresh f _ _ (rw n at (also-accepted _ _ h).1) (rw n at d) k id l x
  fresh {t = t} (field _ _ m f) low p h d k id l x = let n = field-no-group t m in fresh f _ _ (rw n at (also-accepted _ _ h).1) (rw n at d) k id l x
  fresh {t = t} (enum _ _ m _ _ f) low p h d k id l x = let n = enum-no-group t m in fresh f _ _ (rw n at (also-accepted _ _ h).1) (rw n at d) k id l x
  fresh {n = suc n} {g = g} {t = t} (group _ m _ _ f) low p h d k id l x = go (eqb k g) refl (λ q. fresh f _ _ (rw m at v.1) (drop-next gs _ _ g all) k id q x)
    where
      v : (record_verdict ne gs g low p t ≡ Ok tt) × (records_from ne gs n (cond (group_marked t) (g + 1) g) (cond (marked SY t) (rank (symbol_value t) + 1) 0) (p + 16) (drop 16 t) ≡ Ok tt)
      v = also-accepted _ _ h

      all : drop g gs ≡ group_at es t ∷ groups_from es n (drop 16 t)
      all = rw m at d

      free : (c b : Bool) → c ≡ true → not (c && b) ≡ true → b ≡ false
      free true b e q = not-true b q
      free false b e q = absurd (let z : ◌≡◌ {A = ℕ} 0 1 = cc in omega arith)

      here : group_verdict gs g p t ≡ Ok tt → Names gs g id → known (take g gs) id ≡ false
      here e y = unfold group_verdict group_at in
          let z : y.it ≡ group_at es t = let a = y.at in let b = all in cc in
          let w = (need-accepted _ _ _ _ (need-accepted _ _ _ _ (need-accepted _ _ _ _ e).1).1).0 in
          let i : type_id t ≡ id = rw z at y.is in
          rw i at (free (eqb (id_flag t) 1) (known (take g gs) (type_id t)) (rw z at y.has) w)

      go : (c : Bool) → eqb k g ≡ c → (g + 1 ≤ k → known (take k gs) id ≡ false) → known (take k gs) id ≡ false
      go true q r =
          let y = eqb-true k g q in
          rw y (here (sym (record-group ne gs g low p t (group-no-field t m) (group-no-symbol t m) m) ∙ v.0) (rw y at x))
      go false q r = let y = eqb-false k g q in r (omega arith)

-- THE VERDICT

pub record Sane (t : List ℕ) : Type 0 where
  pub shallows : (g : ℕ) → shallow (schema t) 5 g ≡ true
  pub sound : Sound (schema t)
  pub supers : (g : ℕ) → super_of (schema t) g ≤ g
  pub begins : BeginsSuper (schema t)
  pub groups : length (schema t) ≤ 64
  pub lists : length (enums t) ≤ 64
  pub fresh : (g id : ℕ) → Names (schema t) g id → known (take g (schema t)) id ≡ false
  pub unique : (g k id : ℕ) → Names (schema t) g id → Names (schema t) k id → g ≡ k

new-id : (t : List ℕ) → Formed (record_count t) 0 0 0 false t → records_verdict t ≡ Ok tt → (k id : ℕ) → Names (schema t) k id → known (take k (schema t)) id ≡ false
unfolding records_verdict schema
new-id t form records k id x = fresh (enums t) (length (enums t)) (schema t) form 0 0 records refl k id (omega arith) x

pub accepted : (t : List ℕ) → table_verdict t ≡ Ok tt → Sane t
accepted t e = record {
  shallows = λ g. shallows g (ltb g (length (schema t))) refl;
  sound = schema-sound t shape records;
  supers = supers-low t shape records;
  begins = begins-super t (supers-low t shape records) all.supers;
  groups = groups;
  lists = lists;
  fresh = new;
  unique = unique;
}
  where
    all : Passed t
    all = passed t e

    shape : shape_verdict t ≡ Ok tt
    shape = all.shape

    records : records_verdict t ≡ Ok tt
    records = all.records

    form : Formed (record_count t) 0 0 0 false t
    form = unfold shape_verdict in formed (record_count t) _ 0 t shape

    groups : length (schema t) ≤ 64
    groups = unfold schema in omega (arith, few-groups (enums t) form (omega arith))

    lists : length (enums t) ≤ 64
    lists = unfold enums in omega (arith, few-enums form (omega arith))

    shallows : (g : ℕ) (c : Bool) → ltb g (length (schema t)) ≡ c → shallow (schema t) 5 g ≡ true
    shallows g true q = unfold in_bounds in (and_both (leb (width (schema t) 5 g) 4096) _ (all-bounded t all.widths g (ltb-true g (length (schema t)) q))).1
    shallows g false q = shallow-out (schema t) 4 g (ltb-false g (length (schema t)) q)

    new : (k id : ℕ) → Names (schema t) k id → known (take k (schema t)) id ≡ false
    new = new-id t form records

    less : (g k id : ℕ) → Names (schema t) g id → Names (schema t) k id → g < k → ⊥
    less g k id x y l = let a = known_in (schema t) g k id l x in let b = new k id y in let z : ◌≡◌ {A = ℕ} 0 1 = cc in omega arith

    unique : (g k id : ℕ) → Names (schema t) g id → Names (schema t) k id → g ≡ k
    unique g k id x y = go (ltb g k) (ltb k g) refl refl
      where
        go : (c d : Bool) → ltb g k ≡ c → ltb k g ≡ d → g ≡ k
        go true d p q = absurd (less g k id x y (ltb-true g k p))
        go false true p q = absurd (less k g id y x (ltb-true k g q))
        go false false p q = omega (arith, ltb-false g k p, ltb-false k g q)
