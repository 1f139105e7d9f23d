-- A record of the sheet: the fault that the code finds is the one that stops the writer, and where there is none the record's bytes are there.
use Rattle.std.proofs.Common.{Ok, Err}
use mathlib.Core.Path.{◌≡◌, refl, sym, ◌∙◌}
use mathlib.Core.Bool.{Bool, true, false, ◌&&◌}
use mathlib.Core.List.{List, [], ◌∷◌}
use Prim.Native.Nat.{ℕ, zero, suc, ◌+◌, ◌-◌, ◌<◌, ◌≤◌}
use native.Mathlib.Omega.{arith}
use lib.ListN.{length, take, drop, length-drop, length-take}
use lib.Seq.{drop-drop}
use lib.Dec.{leb, eqb}
use borrow.Author.Tests.{le-leb, lt-leb, leb-true, leb-false, eq-eqb, ne_eqb, eqb-true, eqb-false}
use Rattle.wire.specs.Bytes.{part, le, same}
use Rattle.schema.specs.Faults.{fault_at, judged, need}
use Rattle.schema.specs.declared.Fault.{Fault}
use Rattle.sheet.specs.Written.{Writing, stopped, Writer, grab, due, counted}
use Rattle.parsing.specs.Parse.{Finds, record_fault, counted_fault}
use Rattle.parsing.proofs.Answers.{refuses}

-- WHAT THE CODE TESTS

-- a list that is too short has no mark
pub same-short : (x k : List ℕ) → length x < length k → same x k ≡ false
unfolding same
same-short [] [] h = absurd (omega arith)
same-short [] (y ∷ k) h = refl
same-short (x ∷ xs) [] h = absurd (omega arith)
same-short (x ∷ xs) (y ∷ k) h = rw (same-short xs k (omega arith)) (go (eqb x y))
  where
    go : (b : Bool) → (b && false) ≡ false
    go true = refl
    go false = refl

module _ (s : List ℕ) (pos : ℕ) (h : pos ≤ length s) where
  left : length (drop pos s) ≡ length s - pos
  left = length-drop pos s

  pub no-mark : (k : List ℕ) → length k ≡ 2 → length s < pos + 2 → same (part 2 pos s) k ≡ false
  no-mark k l t = same-short (part 2 pos s) k (simp (length-take, length-drop) (omega arith))

  module _ (k : List ℕ) (n : ℕ) where
    pub record-none : length s < pos + 2 → record_fault k n (drop pos s) ≡ 40
    unfolding record_fault need
    record-none t = let l = left in rw (lt-leb 2 (length (drop pos s)) (omega arith))

    module _ (t : pos + 2 ≤ length s) where
      pub record-other : same (part 2 pos s) k ≡ false → record_fault k n (drop pos s) ≡ 41
      unfolding record_fault need
      record-other e = let l = left in rw (le-leb 2 (length (drop pos s)) (omega arith), e)

      pub record-cut : same (part 2 pos s) k ≡ true → length s < pos + (2 + n) → record_fault k n (drop pos s) ≡ 40
      unfolding record_fault need
      record-cut e u = let l = left in rw (le-leb 2 (length (drop pos s)) (omega arith), e, lt-leb (2 + n) (length (drop pos s)) (omega arith))

      pub record-whole : same (part 2 pos s) k ≡ true → pos + (2 + n) ≤ length s → record_fault k n (drop pos s) ≡ 0
      unfolding record_fault need
      record-whole e u = let l = left in rw (le-leb 2 (length (drop pos s)) (omega arith), e, le-leb (2 + n) (length (drop pos s)) (omega arith))

-- WHAT THE WRITER DOES

grab-fits : (o n : ℕ) (s : List ℕ) (f : List ℕ → List ℕ → Writing) → n ≤ length s → grab o n s f ≡ f (take n s) (drop n s)
unfolding grab need
grab-fits o n s f h = rw (le-leb n (length s) h)

-- the three tests of a record, and what follows of them
pub record Tests (k : List ℕ) (n : ℕ) (s : List ℕ) : Type 0 where
  pub long : 2 + n ≤ length s
  pub mark : same (take 2 s) k ≡ true

fault-zero : (k : List ℕ) (n : ℕ) (s : List ℕ) → record_fault k n s ≡ 0 → Tests k n s
unfolding record_fault need
fault-zero k n s z = go (leb 2 (length s)) (same (take 2 s) k) (leb (2 + n) (length s)) refl refl z
  where
    go : (a b c : Bool) → same (take 2 s) k ≡ b → leb (2 + n) (length s) ≡ c → ◌≡◌ {A = ℕ} (need a 40 (need b 41 (need c 40 0))) 0 → Tests k n s
    go true true true p q z = record { long = leb-true _ _ q; mark = p }
    go true true false p q z = absurd (omega arith)
    go true false c p q z = absurd (omega arith)
    go false b c p q z = absurd (omega arith)

-- a record of a mark and n bytes
module _ (k : List ℕ) (n : ℕ) (s : List ℕ) (f : List ℕ → List ℕ → List ℕ → Writing) where
  due-good : Tests k n s → due k s (λ r. grab (2 + length r) n r (f r)) ≡ f (drop 2 s) (take n (drop 2 s)) (drop n (drop 2 s))
  unfolding due grab need
  due-good t =
      let l = length-drop 2 s in
      let u = t.long in
      rw (le-leb 2 (length s) (omega arith), t.mark, le-leb n (length (drop 2 s)) (omega arith))

  due-bad : (record_fault k n s ≡ 0 → ⊥) → due k s (λ r. grab (2 + length r) n r (f r)) ≡ stopped (record_fault k n s) (length s)
  unfolding due grab need record_fault
  due-bad h = go (leb 2 (length s)) (same (take 2 s) k) (leb (2 + n) (length s)) refl refl refl
    where
      go : (a b c : Bool) → leb 2 (length s) ≡ a → same (take 2 s) k ≡ b → leb (2 + n) (length s) ≡ c
          → due k s (λ r. grab (2 + length r) n r (f r)) ≡ stopped (record_fault k n s) (length s)
      go false b c p q e = rw p
      go true false c p q e = rw (p, q)
      go true true false p q e =
          let l = length-drop 2 s in
          let u = leb-true 2 (length s) p in
          let v = leb-false (2 + n) (length s) e in
          let w : 2 + length (drop 2 s) ≡ length s = omega arith in
          rw (p, q, e, w, lt-leb n (length (drop 2 s)) (omega arith))
      go true true true p q e = absurd (h (rw (p, q, e)))

-- at a place of the sheet
module _ (s : List ℕ) (pos : ℕ) (h : pos ≤ length s) (k : List ℕ) (n : ℕ) where
  pub record-inside : record_fault k n (drop pos s) ≡ 0 → pos + (2 + n) ≤ length s
  record-inside z = let l = (fault-zero k n (drop pos s) z).long in omega (arith, l, length-drop pos s)

  module _ (f : List ℕ → List ℕ → List ℕ → Writing) where
    pub record-good : record_fault k n (drop pos s) ≡ 0 → due k (drop pos s) (λ r. grab (2 + length r) n r (f r)) ≡ f (drop (pos + 2) s) (part n (pos + 2) s) (drop (pos + (2 + n)) s)
    record-good z =
        let e : pos + 2 + n ≡ pos + (2 + n) = omega arith in
        due-good k n (drop pos s) f (fault-zero k n (drop pos s) z) ∙ rw (drop-drop 2 pos s, drop-drop n (pos + 2) s, e)

    pub record-bad : (record_fault k n (drop pos s) ≡ 0 → ⊥) → due k (drop pos s) (λ r. grab (2 + length r) n r (f r)) ≡ stopped (record_fault k n (drop pos s)) (length (drop pos s))
    record-bad z = due-bad k n (drop pos s) f z

-- a mark alone
module _ (s : List ℕ) (pos : ℕ) (h : pos ≤ length s) (k : List ℕ) (f : List ℕ → Writing) where
  grab-none : due k (drop pos s) f ≡ due k (drop pos s) (λ r. grab (2 + length r) 0 r (λ v w. f r))
  unfolding due grab need
  grab-none = rw (le-leb 0 (length (drop 2 (drop pos s))) (omega arith))

  pub mark-good : record_fault k 0 (drop pos s) ≡ 0 → due k (drop pos s) f ≡ f (drop (pos + 2) s)
  mark-good z = grab-none ∙ record-good s pos h k 0 (λ r v w. f r) z

  pub mark-bad : (record_fault k 0 (drop pos s) ≡ 0 → ⊥) → due k (drop pos s) f ≡ stopped (record_fault k 0 (drop pos s)) (length (drop pos s))
  mark-bad z = grab-none ∙ record-bad s pos h k 0 (λ r v w. f r) z

-- where the place of a record is, seen from behind its mark
pub behind-mark : (s : List ℕ) (pos : ℕ) → pos + 2 ≤ length s → pos + (2 + length (drop (pos + 2) s)) ≡ length s
behind-mark s pos h = omega (arith, length-drop (pos + 2) s)

pub at_mark : (s : List ℕ) (pos : ℕ) → pos ≤ length s → pos + length (drop pos s) ≡ length s
at_mark s pos h = omega (arith, length-drop pos s)

-- A COUNT AND SO MANY BYTES

-- what the code tests of it
module _ (s : List ℕ) (pos : ℕ) (h : pos ≤ length s) (k : List ℕ) where
  pub counted_same : (record_fault k 4 (drop pos s) ≡ 0 → ⊥) → counted_fault k (drop pos s) ≡ record_fault k 4 (drop pos s)
  unfolding counted_fault
  counted_same z = rw (ne_eqb (record_fault k 4 (drop pos s)) 0 z)

  module _ (z : record_fault k 4 (drop pos s) ≡ 0) where
    counted_rest : counted_fault k (drop pos s) ≡ need (leb (6 + le (part 4 (pos + 2) s)) (length (drop pos s))) 40 0
    unfolding counted_fault
    counted_rest = rw (eq-eqb (record_fault k 4 (drop pos s)) 0 z, drop-drop 2 pos s)

    module _ (c : ℕ) (ic : c ≡ le (part 4 (pos + 2) s)) where
      pub counted-cut : length s < pos + (6 + c) → counted_fault k (drop pos s) ≡ 40
      unfolding need
      counted-cut l = let n = length-drop pos s in counted_rest ∙ rw (← ic, lt-leb (6 + c) (length (drop pos s)) (omega arith))

      pub counted-whole : pos + (6 + c) ≤ length s → counted_fault k (drop pos s) ≡ 0
      unfolding need
      counted-whole l = let n = length-drop pos s in counted_rest ∙ rw (← ic, le-leb (6 + c) (length (drop pos s)) (omega arith))

-- what the writer does
module _ (s : List ℕ) (pos : ℕ) (h : pos ≤ length s) (k : List ℕ) where
  -- a fault of the first part, or none and then one of the second
  abbrev part₁ : ℕ
  part₁ = record_fault k 4 (drop pos s)

  first-zero : counted_fault k (drop pos s) ≡ 0 → part₁ ≡ 0
  first-zero z = go (eqb part₁ 0) refl
    where
      go : (b : Bool) → eqb part₁ 0 ≡ b → part₁ ≡ 0
      go true e = eqb-true part₁ 0 e
      go false e = sym (counted_same s pos h k (eqb-false part₁ 0 e)) ∙ z

  pub counted-inside : counted_fault k (drop pos s) ≡ 0 → pos + (6 + le (part 4 (pos + 2) s)) ≤ length s
  unfolding need
  counted-inside z = go (leb (6 + le (part 4 (pos + 2) s)) (length (drop pos s))) refl (sym (counted_rest s pos h k (first-zero z)) ∙ z)
    where
      go : (b : Bool) → leb (6 + le (part 4 (pos + 2) s)) (length (drop pos s)) ≡ b → ◌≡◌ {A = ℕ} (need b 40 0) 0 → pos + (6 + le (part 4 (pos + 2) s)) ≤ length s
      go true e z = let l = leb-true (6 + le (part 4 (pos + 2) s)) (length (drop pos s)) e in omega (arith, l, length-drop pos s)
      go false e z = absurd (omega arith)

  module _ (f : List ℕ → List ℕ → List ℕ → List ℕ → Writing) where
    pub counted-good : counted_fault k (drop pos s) ≡ 0 → (c : ℕ) → c ≡ le (part 4 (pos + 2) s)
        → due k (drop pos s) (λ r. counted r (f r)) ≡ f (drop (pos + 2) s) (part 4 (pos + 2) s) (part c (pos + 6) s) (drop (pos + (6 + c)) s)
    unfolding counted
    counted-good z c ic =
        let l = counted-inside z in
        let m = length-drop (pos + 6) s in
        let q : pos + 6 + c ≡ pos + (6 + c) = omega arith in
        record-good s pos h k 4 (λ r c r'. grab (2 + length r) (le c) r' (λ v r''. f r c v r'')) (first-zero z)
        ∙ grab-fits (2 + length (drop (pos + 2) s)) (le (part 4 (pos + 2) s)) (drop (pos + 6) s) (λ v r''. f (drop (pos + 2) s) (part 4 (pos + 2) s) v r'') (omega (arith, l, m))
        ∙ rw (← ic, drop-drop c (pos + 6) s, q)

    late : (x : ℕ) → (x ≡ 0 → ⊥) → (b : Bool) → leb (6 + le (part 4 (pos + 2) s)) (length (drop pos s)) ≡ b → x ≡ need (leb (6 + le (part 4 (pos + 2) s)) (length (drop pos s))) 40 0
        → pos + 6 ≤ length s
        → grab (2 + length (drop (pos + 2) s)) (le (part 4 (pos + 2) s)) (drop (pos + 6) s) (λ v r''. f (drop (pos + 2) s) (part 4 (pos + 2) s) v r'') ≡ stopped x (length (drop pos s))
    unfolding grab need
    late x z true e u w = absurd (z (u ∙ rw e))
    late x z false e u w =
        let l = leb-false (6 + le (part 4 (pos + 2) s)) (length (drop pos s)) e in
        let m = length-drop (pos + 6) s in
        let j = length-drop pos s in
        let v : x ≡ 40 = u ∙ rw e in
        let o : 2 + length (drop (pos + 2) s) ≡ length (drop pos s) = omega (arith, length-drop (pos + 2) s) in
        rw (o, v, lt-leb (le (part 4 (pos + 2) s)) (length (drop (pos + 6) s)) (omega arith))

    pub counted-bad : (counted_fault k (drop pos s) ≡ 0 → ⊥) → due k (drop pos s) (λ r. counted r (f r)) ≡ stopped (counted_fault k (drop pos s)) (length (drop pos s))
    unfolding counted
    counted-bad z = go (eqb part₁ 0) refl
      where
        go : (b : Bool) → eqb part₁ 0 ≡ b → due k (drop pos s) (λ r. counted r (f r)) ≡ stopped (counted_fault k (drop pos s)) (length (drop pos s))
        go false e =
            let y = eqb-false part₁ 0 e in
            record-bad s pos h k 4 (λ r c r'. grab (2 + length r) (le c) r' (λ v r''. f r c v r'')) y ∙ rw (← counted_same s pos h k y)
        go true e =
            let y = eqb-true part₁ 0 e in
            record-good s pos h k 4 (λ r c r'. grab (2 + length r) (le c) r' (λ v r''. f r c v r'')) y
            ∙ late _ z (leb (6 + le (part 4 (pos + 2) s)) (length (drop pos s))) refl (counted_rest s pos h k y) (record-inside s pos h k 4 y)

-- WHAT THE CODE ANSWERS

pub judged-ok : (x pos : ℕ) → Ok tt ≡ judged x pos → x ≡ 0
unfolding judged
judged-ok zero pos e = refl
judged-ok (suc n) pos e = absurd (cc)

pub judged-err : (x pos : ℕ) (f : Fault) → Err f ≡ judged x pos → (x ≡ 0 → ⊥) × (f ≡ fault_at x pos)
unfolding judged
judged-err zero pos f e = absurd (cc)
judged-err (suc n) pos f e = (λ z. omega arith, cc)

-- where a test fails, a writer that stops with its fault does as the code
pub halts : (s : List ℕ) (pos d : ℕ) (W : Writer) (x left : ℕ) → ((x ≡ 0 → ⊥) → (at fr : ℕ) → W at fr (drop pos s) ≡ stopped x left) → pos + left ≡ length s
    → (f : Fault) → Err f ≡ judged x pos → Finds s d W pos (Err f)
halts s pos d W x left g l f e at fr = let j = judged-err x pos f e in rw j.1 (refuses s d _ x pos left (g j.0 at fr) l)
