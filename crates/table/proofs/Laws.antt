-- Tests in a row, and what stands in a record.
use Rattle.std.specs.Prelude.{⊤}
use Rattle.std.proofs.Common.{Ok, Err}
use Rattle.schema.specs.declared.Fault.{Fault}
use mathlib.Core.Path.{◌≡◌, refl, sym, ap, ◌∙◌}
use mathlib.Core.Bool.{Bool, true, false, not, cond, ◌&&◌}
use mathlib.Core.List.{List, [], ◌∷◌, ◌++◌}
use Prim.Native.Nat.{ℕ, ◌+◌, ◌-◌, ◌*◌, ◌≤◌}
use native.Mathlib.Omega.{arith}
use lib.ListN.{length, take, drop}
use lib.Seq.{length-take-le}
use lib.Dec.{leb, ltb, eqb}
use borrow.Author.Tests.{eqb-true, eqb-false, eq-eqb, ne_eqb, ltb-true, ltb-false, le-leb, lt-leb}
use Rattle.schema.specs.Schema.{Group, find, known}
use Rattle.schema.specs.Layout.{Placed}
use Rattle.schema.specs.Table.{SY, FD, marked, group_marked, record_verdict, field_verdict, symbol_verdict, group_verdict, enum_verdict}
use Rattle.wire.specs.Bytes.{part, le, all_zero}
use Rattle.wire.proofs.Laws.{part-add}
use Rattle.schema.proofs.Records.{number-at}
use Rattle.schema.specs.Faults.{Verdict, fault_at, need, also}

module _ {X : Type 0} (c : Bool) (fault k : X) where
  pub need-yes : c ≡ true → need c fault k ≡ k
  unfolding need
  need-yes e = rw e

  pub need-no : c ≡ false → need c fault k ≡ fault
  unfolding need
  need-no e = rw e

-- what `ensure` answered of a test: it stopped, whatever would follow, or it went on
module _ (F : Fault) where
  pub need-stop : (k : Verdict) {c d : Bool} {f : Fault} → c ≡ d → Err f ≡ need {X = Verdict} c (Err F) (Ok tt) → Err f ≡ need {X = Verdict} d (Err F) k
  unfolding need
  need-stop k {c} {d} {f} is e = rw (← is) (go c e)
    where
      go : (c : Bool) → Err f ≡ need {X = Verdict} c (Err F) (Ok tt) → Err f ≡ need {X = Verdict} c (Err F) k
      go true e = cc
      go false e = e

  pub need-went : {c d : Bool} {x : ⊤} → c ≡ d → Ok x ≡ need {X = Verdict} c (Err F) (Ok tt) → d ≡ true
  unfolding need
  need-went {c} {d} {x} is e = rw (← is) (go c e)
    where
      go : (c : Bool) → Ok x ≡ need {X = Verdict} c (Err F) (Ok tt) → c ≡ true
      go true e = refl
      go false e = cc

  pub need-pass : (k : Verdict) {c d : Bool} {x : ⊤} → c ≡ d → Ok x ≡ need {X = Verdict} c (Err F) (Ok tt) → need {X = Verdict} d (Err F) k ≡ k
  need-pass k is e = need-yes _ _ _ (need-went is e)

pub need-accepted : (c : Bool) (n p : ℕ) (k : Verdict) → need c (Err (fault_at n p)) k ≡ Ok tt → (c ≡ true) × (k ≡ Ok tt)
unfolding need
need-accepted true n p k e = (refl, e)
need-accepted false n p k e = absurd (let z : ◌≡◌ {A = ℕ} 0 1 = cc in omega arith)

pub also-accepted : (v w : Verdict) → also v w ≡ Ok tt → (v ≡ Ok tt) × (w ≡ Ok tt)
unfolding also
also-accepted (Ok _) w e = (refl, e)
also-accepted (Err f) w e = absurd (let z : ◌≡◌ {A = ℕ} 0 1 = cc in omega arith)

pub also-pass : {x : ⊤} (v w : Verdict) → Ok x ≡ v → also v w ≡ w
unfolding also
also-pass v w e = rw (← e)

pub also-stop : (v w : Verdict) (f : Fault) → Err f ≡ v → Err f ≡ also v w
unfolding also
also-stop v w f e = rw (← e)

pub cond_yes : {X : Type 0} (c : Bool) (x y : X) → c ≡ true → cond c x y ≡ x
cond_yes c x y e = rw e

pub cond_no : {X : Type 0} (c : Bool) (x y : X) → c ≡ false → cond c x y ≡ y
cond_no c x y e = rw e

-- ZEROS

-- bytes are zero where their number is
pub zero-le : (s : List ℕ) → all_zero s ≡ eqb (le s) 0
unfolding all_zero le
zero-le [] = refl
zero-le (x ∷ s) = rw (zero-le s) (go (eqb x 0) (eqb (le s) 0) refl refl)
  where
    go : (c d : Bool) → eqb x 0 ≡ c → eqb (le s) 0 ≡ d → (c && d) ≡ eqb (x + 256 * le s) 0
    go true true p q = sym (eq-eqb (x + 256 * le s) 0 (omega (arith, eqb-true x 0 p, eqb-true (le s) 0 q)))
    go true false p q = sym (ne_eqb (x + 256 * le s) 0 (λ e. eqb-false (le s) 0 q (omega (arith, e))))
    go false d p q = sym (ne_eqb (x + 256 * le s) 0 (λ e. eqb-false x 0 p (omega (arith, e))))

pub zero-append : (xs ys : List ℕ) → all_zero (xs ++ ys) ≡ (all_zero xs && all_zero ys)
unfolding all_zero
zero-append [] ys = refl
zero-append (x ∷ xs) ys = go (eqb x 0) (zero-append xs ys)
  where
    go : (c : Bool) → all_zero (xs ++ ys) ≡ (all_zero xs && all_zero ys) → (c && all_zero (xs ++ ys)) ≡ ((c && all_zero xs) && all_zero ys)
    go true e = e
    go false e = refl

pub zero-add : (m n at : ℕ) (s : List ℕ) → all_zero (part (m + n) at s) ≡ (eqb (le (part m at s)) 0 && all_zero (part n (at + m) s))
zero-add m n at s = ap all_zero (part-add m n at s) ∙ zero-append (part m at s) (part n (at + m) s) ∙ ap (λ (b : Bool). b && all_zero (part n (at + m) s)) (zero-le (part m at s))

-- a record's zeros by a number that the code reads
pub zeros-at : (n i p v : ℕ) (t : List ℕ) → v ≡ le (part n (p + i) t) → all_zero (part n i (drop p t)) ≡ eqb v 0
zeros-at n i p v t is = zero-le (part n i (drop p t)) ∙ ap (λ (x : ℕ). eqb x 0) (number-at n i p t ∙ sym is)

pub zeros-before : (m n i p v : ℕ) (z : Bool) (t : List ℕ) → v ≡ le (part m (p + i) t) → z ≡ all_zero (part n (i + m) (drop p t))
    → all_zero (part (m + n) i (drop p t)) ≡ (eqb v 0 && z)
zeros-before m n i p v z t is rest =
    zero-add m n i (drop p t) ∙ ap (λ (x : ℕ). eqb x 0 && all_zero (part n (i + m) (drop p t))) (number-at m i p t ∙ sym is) ∙ ap (λ (b : Bool). eqb v 0 && b) (sym rest)

module _ (ne : ℕ) (gs : List Group) (next low p : ℕ) (t : List ℕ) where
  pub record-field : marked FD t ≡ true → record_verdict ne gs next low p t ≡ field_verdict ne (length gs) (next - 1) p t
  unfolding record_verdict
  record-field e = rw e

  pub record-symbol : marked FD t ≡ false → marked SY t ≡ true → record_verdict ne gs next low p t ≡ symbol_verdict low p t
  unfolding record_verdict
  record-symbol e f = rw (e, f)

  pub record-group : marked FD t ≡ false → marked SY t ≡ false → group_marked t ≡ true → record_verdict ne gs next low p t ≡ group_verdict gs next p t
  unfolding record_verdict
  record-group e f g = rw (e, f, g)

  pub record-enum : marked FD t ≡ false → marked SY t ≡ false → group_marked t ≡ false → record_verdict ne gs next low p t ≡ enum_verdict p t
  unfolding record_verdict
  record-enum e f g = rw (e, f, g)

pub weaker : {t k : List ℕ} {m n : ℕ} → Placed t k n → m ≤ n → Placed t k m
weaker p l = record { group = λ g h. p.group g (omega arith); inside = λ g h. p.inside g (omega arith) }

-- a group's test of 34, by the number that is found among the first n
pub id-test : (gs : List Group) (n id type f : ℕ) → n ≤ length gs → id ≡ type → f ≡ find (take n gs) id → leb n f ≡ not (known (take n gs) type)
unfolding known
id-test gs n id type f l is e = rw (← is, ← e, length-take-le n gs l) (flip (ltb f n) refl)
  where
    flip : (c : Bool) → ltb f n ≡ c → leb n f ≡ not c
    flip true q = lt-leb n f (ltb-true f n q)
    flip false q = le-leb n f (ltb-false f n q)

pub never : {f : Fault} → ◌≡◌ {A = Verdict} (Err f) (Ok tt) → ⊥
never e = cc
