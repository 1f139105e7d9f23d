-- A step's answer and the count that it stands for: what a function shows at a return, and how it goes on after a call.
use Rattle.std.proofs.Common.{Result, Ok, Err}
use Rattle.std.specs.Result.{IsErrAnd}
use mathlib.Core.Path.{◌≡◌, refl, sym, ap, ◌∙◌}
use mathlib.Core.List.{List, [], ◌++◌}
use Prim.Native.Nat.{ℕ, ◌+◌, ◌-◌, ◌≤◌}
use native.Mathlib.Omega.{arith}
use lib.ListN.{length, drop, length-drop, length-append}
use Rattle.schema.specs.Faults.{fault_at}
use Rattle.schema.specs.declared.Fault.{Fault}
use Rattle.sheet.specs.Written.{Writing, stopped, wrote, headed, joined, next_w}
use Rattle.parsing.specs.Count.{Count, failed, counted, count, capped, after}
use Rattle.parsing.specs.Parse.{passed, refused, found, Ready}
use Rattle.parsing.specs.declared.Step.{Step}

-- THE CAP

pub capped-low : (d : ℕ) → d ≤ 65537 → capped d ≡ d
unfolding capped
capped-low d h = omega arith

pub capped_le : (d : ℕ) → capped d ≤ 65537
unfolding capped
capped_le d = omega arith

-- a count that was capped before goes on as if it was not
pub capped-more : (a b : ℕ) → capped (capped a + b) ≡ capped (a + b)
unfolding capped
capped-more a b = omega arith

-- RETURNS

module _ (s : List ℕ) (d : ℕ) (x : Writing) where
  pub fails : (f : Fault) (left : ℕ) → x ≡ stopped f.number left → f.place ≡ length s - left → found s (Err f) ≡ after d (count (length s) x)
  unfolding found after count
  fails f left e q = rw (e, q)

  pub refuses : (k pos left : ℕ) → x ≡ stopped k left → pos + left ≡ length s → found s (refused k pos) ≡ after d (count (length s) x)
  refuses k pos left e l = fails (fault_at k pos) left e (omega arith)

  pub adds : (next e : ℕ) (F D : List ℕ) → x ≡ wrote F D (drop next s) → next ≤ length s → e ≡ capped (d + length D) → found s (passed next e) ≡ after d (count (length s) x)
  unfolding found after count
  adds next e F D is l q =
      let p : length s - length (drop next s) ≡ next = omega (arith, length-drop next s) in
      rw (is, q, p)

  -- nothing goes into the data area
  pub stays : (next : ℕ) (F : List ℕ) → x ≡ wrote F [] (drop next s) → next ≤ length s → d ≤ 65537 → found s (passed next d) ≡ after d (count (length s) x)
  stays next F is l h = adds next d F [] is l (let z : d ≡ d + 0 = omega arith in z ∙ sym (capped-low (d + 0) (omega arith)))

-- AFTER A CALL

-- a writing that was counted wrote something, and leaves the sheet at a place of it
pub record Wrote (s : List ℕ) (d : ℕ) (x : Writing) (next e : ℕ) : Type 0 where
  pub fixed : List ℕ
  pub values : List ℕ
  pub is : x ≡ wrote fixed values (drop next s)
  pub sum : e ≡ capped (d + length values)
  pub inside : next ≤ length s

module _ (s : List ℕ) (d : ℕ) where
  wrote_of : (x : Writing) (next e : ℕ) → counted e next (drop next s) ≡ after d (count (length s) x) → Wrote s d x next e
  unfolding after count
  wrote_of (stopped k left) next e q = absurd (let z : ◌≡◌ {A = ℕ} 0 1 = cc in omega arith)
  wrote_of (wrote F D r) next e q =
      let a : e ≡ capped (d + length D) = cc in
      let b : next ≡ length s - length r = cc in
      let c : r ≡ drop next s = cc in
      record { fixed = F; values = D; is = ap (λ (l : List ℕ). wrote F D l) c; sum = a; inside = omega (arith, b) }

  stopped-of : (x : Writing) (k p : ℕ) → failed k p ≡ after d (count (length s) x) → (left : ℕ) × (x ≡ stopped k left) × (p ≡ length s - left)
  unfolding after count
  stopped-of (stopped j left) k p q =
      let a : k ≡ j = cc in
      let b : p ≡ length s - left = cc in
      (left, ap (λ (i : ℕ). stopped i left) (sym a), b)
  stopped-of (wrote F D r) k p q = absurd (let z : ◌≡◌ {A = ℕ} 0 1 = cc in omega arith)

  pub halted : (x : Writing) (f : Fault) → found s (Err f) ≡ after d (count (length s) x) → (left : ℕ) × (x ≡ stopped f.number left) × (f.place ≡ length s - left)
  unfolding found
  halted x f is = stopped-of x f.number f.place is

  module _ (x : Writing) (v : Step) (is : found s (Ok v) ≡ after d (count (length s) x)) where
    pub went : Wrote s d x v.next v.length
    unfolding found
    went = wrote_of x v.next v.length is

    pub ready : length s ≤ 1048576 → Ready s v.next v.length
    ready h =
        let w = went in
        record { small = h; inside = w.inside; low = omega (arith, w.sum, capped_le (d + length w.values)) }

pub ready_at : {s : List ℕ} {pos d : ℕ} → Ready s pos d → (next : ℕ) → next ≤ length s → Ready s next d
ready_at R next h = record { small = R.small; inside = h; low = R.low }

-- what another writing counts, if it is the same
pub count-as : (n d : ℕ) {c : Count} {x y : Writing} → x ≡ y → c ≡ after d (count n y) → c ≡ after d (count n x)
count-as n d e g = g ∙ ap (λ (z : Writing). after d (count n z)) (sym e)

-- ONE WRITING AND THEN ANOTHER

module _ (n d : ℕ) where
  pub after-headed : (c : List ℕ) (x : Writing) → after d (count n (headed c x)) ≡ after d (count n x)
  unfolding count after headed
  after-headed c (stopped k l) = refl
  after-headed c (wrote F D r) = refl

  pub after-joined : (e : ℕ) (F D : List ℕ) (x : Writing) → e ≡ capped (d + length D) → after d (count n (joined F D x)) ≡ after e (count n x)
  unfolding count after joined
  after-joined e F D (stopped k l) q = refl
  after-joined e F D (wrote F' D' r) q =
      let h : capped (d + length (D ++ D')) ≡ capped (e + length D') =
      rw (q, length-append D D', capped-more) (ap capped (omega arith)) in
      rw h

module _ (s : List ℕ) (d : ℕ) (x : Writing) (f : List ℕ → List ℕ → Writing) where
  pub next-passed : (v : Step) → found s (Ok v) ≡ after d (count (length s) x)
      → (c : Count) → ((D : List ℕ) → c ≡ after v.length (count (length s) (f D (drop v.next s)))) → c ≡ after d (count (length s) (next_w x f))
  unfolding next_w
  next-passed v is c g =
      let w = went s d x v is in
      g w.values ∙ sym (after-joined (length s) d v.length w.fixed w.values (f w.values (drop v.next s)) w.sum)
      ∙ ap (λ (y : Writing). after d (count (length s) (next_w y f))) (sym w.is)

  pub next-stopped : (e : Fault) → found s (Err e) ≡ after d (count (length s) x) → found s (Err e) ≡ after d (count (length s) (next_w x f))
  unfolding next_w
  next-stopped e is =
      let h = halted s d x e is in
      fails s d (next_w x f) e h.0 (ap (λ (y : Writing). next_w y f) h.1) h.2

-- A REFUSAL THAT IS HANDED ON

-- what a `?` returns: the fault that it met
pub handed : {T : Type 0} {r : Result T Fault} {f : Fault} → IsErrAnd r (λ e. e ≡ f) → r ≡ Err f
handed {r = Ok x} h = absurd h
handed {r = Err e} h = ap Err h
