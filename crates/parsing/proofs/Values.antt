-- The values that hold no other, each way through them.
use Rattle.std.proofs.Common.{Err}
use mathlib.Core.Path.{◌≡◌, refl, sym, ap, ◌∙◌}
use mathlib.Core.Bool.{Bool, true, false, not, cond}
use mathlib.Core.List.{List, [], ◌∷◌, ◌++◌, append-nil}
use Prim.Native.Nat.{ℕ, ◌+◌, ◌-◌, ◌<◌, ◌≤◌}
use native.Mathlib.Omega.{arith}
use lib.ListN.{length, take, drop, replicate, length-append}
use lib.Seq.{take-take}
use lib.Dec.{leb}
use borrow.Author.Tests.{le-leb, lt-leb}
use Rattle.wire.specs.Bytes.{part, le, bytes_of, same}
use Rattle.wire.proofs.Laws.{length_part}
use Rattle.schema.specs.Faults.{judged, need}
use Rattle.schema.specs.declared.Fault.{Fault}
use Rattle.schema.specs.Schema.{Test, any, flag, below, symbol, passes, test_fault, text_ok, plain, inline, kind_width, Group, known}
use Rattle.schema.specs.FieldKinds.{tested_kind, kind_fault}
use Rattle.schema.specs.declared.Tested.{Tested}
use Rattle.message.specs.Sheet.{Mark, VA, ST, XU, mark_bytes, kind_mark, GE}
use Rattle.sheet.specs.Written.{Writing, stopped, wrote, Writer, InnerW, Body, placed, grab, due, counted, marked_w, plain_w, inline_w, indirect_w, text_b, kind_w, extending_b}
use Rattle.sheet.specs.Writers.{item_w, text_of}
use Rattle.sheet.proofs.Writers.{tested-plain}
use Rattle.parsing.specs.Parse.{passed, refused, Finds, record_fault, counted_fault, end_w, Ready}
use Rattle.parsing.specs.Count.{capped}
use Rattle.parsing.proofs.Answers.{refuses, adds, stays}
use Rattle.parsing.proofs.Records.{halts, record-inside, record-good, record-bad, mark-good, mark-bad, at_mark, behind-mark, counted-inside, counted-good, counted-bad}

-- BEHIND AN OFFSET

placed-need : (o : ℕ) (b : Bool) (k l : ℕ) (x : Writing) → placed o (need b (stopped k l) x) ≡ need b (stopped k l) (placed o x)
unfolding placed need
placed-need o true k l x = refl
placed-need o false k l x = refl

pub placed-due : (o : ℕ) (k s : List ℕ) (f : List ℕ → Writing) → placed o (due k s f) ≡ due k s (λ r. placed o (f r))
unfolding due grab
placed-due o k s f = placed-need o _ 40 (length s) _ ∙ ap (need (leb 2 (length s)) (stopped 40 (length s))) (placed-need o _ 41 (length s) _)

-- the record of a value in the data area
pub marked-indirect : (k : Mark) (B : Body) (at fr : ℕ) (s : List ℕ) → marked_w k (indirect_w B) at fr s ≡ placed (fr - at) (due (mark_bytes k) s (λ r. B fr r))
unfolding marked_w indirect_w
marked-indirect k B at fr s = sym (placed-due (fr - at) (mark_bytes k) s (λ r. B fr r))

-- NUMBERS

-- a test without a fault is passed
quiet : (t : Test) (v : List ℕ) → passes t v ≡ false → test_fault t ≡ 0 → ⊥
unfolding passes test_fault
quiet any v e z = let o : ◌≡◌ {A = ℕ} 0 1 = cc in omega arith
quiet flag v e z = omega arith
quiet (below n) v e z = omega arith
quiet (symbol vs) v e z = omega arith

-- a test says what is wrong by its number
said : (b : Bool) (k left : ℕ) (x : Writing) → (cond b 0 k ≡ 0 → ⊥) → need b (stopped k left) x ≡ stopped (cond b 0 k) left
unfolding need
said true k left x n = absurd (n refl)
said false k left x n = refl

module _ (s : List ℕ) (pos d : ℕ) (R : Ready s pos d) (w : ℕ) (t : Test) where
  abbrev value : List ℕ → List ℕ → List ℕ → Writing
  value r v r' = need (passes t v) (stopped (test_fault t) (2 + length r)) (wrote v [] r')

  pub plain-bad : (f : Fault) → Err f ≡ judged (record_fault (mark_bytes VA) w (drop pos s)) pos → Finds s d (marked_w VA (plain_w w t)) pos (Err f)
  unfolding marked_w plain_w
  plain-bad = halts s pos d (marked_w VA (plain_w w t)) _ _ (λ z at fr. record-bad s pos R.inside _ w value z) (at_mark s pos R.inside)

  module _ (z : record_fault (mark_bytes VA) w (drop pos s) ≡ 0) where
    plain_at : (at fr : ℕ) → marked_w VA (plain_w w t) at fr (drop pos s) ≡ value (drop (pos + 2) s) (part w (pos + 2) s) (drop (pos + (2 + w)) s)
    unfolding marked_w plain_w
    plain_at at fr = record-good s pos R.inside _ w value z

    pub plain-good : passes t (part w (pos + 2) s) ≡ true → Finds s d (marked_w VA (plain_w w t)) pos (passed (pos + (2 + w)) d)
    unfolding need
    plain-good e at fr = stays s d _ (pos + (2 + w)) (part w (pos + 2) s) (plain_at at fr ∙ rw e) (record-inside s pos R.inside _ w z) R.low

    pub number-good : kind_fault (plain w t) (drop (pos + 2) s) ≡ 0 → Finds s d (marked_w VA (plain_w w t)) pos (passed (pos + (2 + w)) d)
    unfolding kind_fault
    number-good e = go (passes t (part w (pos + 2) s)) refl e
      where
        go : (b : Bool) → passes t (part w (pos + 2) s) ≡ b → cond b 0 (test_fault t) ≡ 0 → Finds s d (marked_w VA (plain_w w t)) pos (passed (pos + (2 + w)) d)
        go true p e = plain-good p
        go false p e = absurd (quiet t _ p e)

    pub number-bad : (f : Fault) → Err f ≡ judged (kind_fault (plain w t) (drop (pos + 2) s)) pos → Finds s d (marked_w VA (plain_w w t)) pos (Err f)
    unfolding kind_fault
    number-bad =
        let l = record-inside s pos R.inside _ w z in
        halts s pos d (marked_w VA (plain_w w t)) _ _ (λ n at fr. plain_at at fr ∙ said (passes t (part w (pos + 2) s)) (test_fault t) _ _ n) (behind-mark s pos (omega (arith, l)))

-- the tested numbers, as the code sees them
module _ (s : List ℕ) (pos d : ℕ) (R : Ready s pos d) (es : List (List ℕ)) (sw : ℕ → ℕ) (I : InnerW) (S : ℕ → Writer) (T : Tested) (w : ℕ) (iw : w ≡ kind_width sw (tested_kind es T)) where
  number : (t : Test) × (tested_kind es T ≡ plain w t)
  number = tested-plain sw es T w iw

  pub tested-bad : (f : Fault) → Err f ≡ judged (record_fault (mark_bytes VA) w (drop pos s)) pos → Finds s d (item_w I S (tested_kind es T)) pos (Err f)
  unfolding kind_mark kind_w
  tested-bad f e = rw number.1 (plain-bad s pos d R w number.0 f e)

  module _ (z : record_fault (mark_bytes VA) w (drop pos s) ≡ 0) where
    pub tested-fails : (f : Fault) → Err f ≡ judged (kind_fault (tested_kind es T) (drop (pos + 2) s)) pos → Finds s d (item_w I S (tested_kind es T)) pos (Err f)
    unfolding kind_mark kind_w
    tested-fails f e = rw number.1 (number-bad s pos d R w number.0 z f (rw number.1 at e))

    pub tested-good : kind_fault (tested_kind es T) (drop (pos + 2) s) ≡ 0 → Finds s d (item_w I S (tested_kind es T)) pos (passed (pos + (2 + w)) d)
    unfolding kind_mark kind_w
    tested-good e = rw number.1 (number-good s pos d R w number.0 z (rw number.1 at e))

-- TEXT

-- a count and its bytes, as a value of the data area
pub kept-length : (s : List ℕ) (pos n : ℕ) → pos + (6 + n) ≤ length s → length ((part 4 (pos + 2) s ++ part n (pos + 6) s) ++ []) ≡ 4 + n
kept-length s pos n h = simp (append-nil, length-append, length_part 4 (pos + 2) s (omega arith), length_part n (pos + 6) s (omega arith))

module _ (s : List ℕ) (pos d : ℕ) (R : Ready s pos d) (u : Bool) where
  abbrev short : ℕ → List ℕ → List ℕ → List ℕ → List ℕ → Writing
  short c r y v r' = need (leb (le y) c) (stopped 7 (2 + length r)) (need (text_ok u v) (stopped 9 (2 + length r)) (wrote (le y ∷ (v ++ replicate (c - le y) 0)) [] r'))

  abbrev long : List ℕ → List ℕ → List ℕ → List ℕ → Writing
  long r c v r' = need (text_ok u v) (stopped 9 (2 + length r)) (wrote (c ++ v) [] r')

  module _ (I : InnerW) (S : ℕ → Writer) (c : ℕ) where
    pub inline-bad : (f : Fault) → Err f ≡ judged (counted_fault (mark_bytes ST) (drop pos s)) pos → Finds s d (item_w I S (inline u c)) pos (Err f)
    unfolding kind_mark kind_w marked_w inline_w
    inline-bad = halts s pos d (item_w I S (inline u c)) _ _ (λ z at fr. counted-bad s pos R.inside _ (short c) z) (at_mark s pos R.inside)

    module _ (z : counted_fault (mark_bytes ST) (drop pos s) ≡ 0) (n : ℕ) (ic : n ≡ le (part 4 (pos + 2) s)) where
      inline-at : (at fr : ℕ) → item_w I S (inline u c) at fr (drop pos s) ≡ short c (drop (pos + 2) s) (part 4 (pos + 2) s) (part n (pos + 6) s) (drop (pos + (6 + n)) s)
      unfolding kind_mark kind_w marked_w inline_w
      inline-at at fr = counted-good s pos R.inside _ (short c) z n ic

      inline-place : pos + (2 + length (drop (pos + 2) s)) ≡ length s
      inline-place = let l = counted-inside s pos R.inside _ z in behind-mark s pos (omega (arith, l))

      pub inline-over : c < n → Finds s d (item_w I S (inline u c)) pos (refused 7 pos)
      unfolding need
      inline-over l at fr = refuses s d _ 7 pos _ (inline-at at fr ∙ rw (← ic, lt-leb n c l)) inline-place

      module _ (l : n ≤ c) where
        pub inline-wrong : text_ok u (part n (pos + 6) s) ≡ false → Finds s d (item_w I S (inline u c)) pos (refused 9 pos)
        unfolding need
        inline-wrong e at fr = refuses s d _ 9 pos _ (inline-at at fr ∙ rw (← ic, le-leb n c l, e)) inline-place

        pub inline-good : text_ok u (part n (pos + 6) s) ≡ true → Finds s d (item_w I S (inline u c)) pos (passed (pos + (6 + n)) d)
        unfolding need
        inline-good e at fr =
            let k = counted-inside s pos R.inside _ z in
            stays s d _ (pos + (6 + n)) (n ∷ (part n (pos + 6) s ++ replicate (c - n) 0)) (inline-at at fr ∙ rw (← ic, le-leb n c l, e)) (omega (arith, k, ic)) R.low

  abbrev record_of : ℕ → ℕ → Writing
  record_of at fr = text_of u at fr (drop pos s)

  text-is : (at fr : ℕ) → record_of at fr ≡ placed (fr - at) (due (mark_bytes ST) (drop pos s) (λ r. counted r (long r)))
  unfolding text_b
  text-is at fr = marked-indirect ST (text_b u) at fr (drop pos s)

  pub text-bad : (f : Fault) → Err f ≡ judged (counted_fault (mark_bytes ST) (drop pos s)) pos → Finds s d (text_of u) pos (Err f)
  unfolding placed
  text-bad = halts s pos d (text_of u) _ _ (λ z at fr. text-is at fr ∙ ap (placed (fr - at)) (counted-bad s pos R.inside _ long z)) (at_mark s pos R.inside)

  module _ (z : counted_fault (mark_bytes ST) (drop pos s) ≡ 0) (n : ℕ) (ic : n ≡ le (part 4 (pos + 2) s)) where
    text_at : (at fr : ℕ) → record_of at fr ≡ placed (fr - at) (long (drop (pos + 2) s) (part 4 (pos + 2) s) (part n (pos + 6) s) (drop (pos + (6 + n)) s))
    text_at at fr = text-is at fr ∙ ap (placed (fr - at)) (counted-good s pos R.inside _ long z n ic)

    pub text-wrong : text_ok u (part n (pos + 6) s) ≡ false → Finds s d (text_of u) pos (refused 9 pos)
    unfolding need placed
    text-wrong e at fr =
        let l = counted-inside s pos R.inside _ z in
        refuses s d _ 9 pos _ (text_at at fr ∙ rw e) (behind-mark s pos (omega (arith, l)))

    pub text-good : text_ok u (part n (pos + 6) s) ≡ true → (k : ℕ) → k ≡ capped (d + (4 + n)) → Finds s d (text_of u) pos (passed (pos + (6 + n)) k)
    unfolding need placed
    text-good e k q at fr =
        let l = counted-inside s pos R.inside _ z in
        adds s d _ (pos + (6 + n)) k (bytes_of 4 (fr - at)) ((part 4 (pos + 2) s ++ part n (pos + 6) s) ++ []) (text_at at fr ∙ rw e) (omega (arith, l, ic)) (q ∙ ap (λ (j : ℕ). capped (d + j)) (sym (kept-length s pos n (omega (arith, l, ic)))))

-- A GROUP KEPT AS BYTES

module _ (s : List ℕ) (pos d : ℕ) (R : Ready s pos d) (gs : List Group) (I : InnerW) (m : same (part 2 pos s) (mark_bytes XU) ≡ true) where
  abbrev kept : List ℕ → List ℕ → List ℕ → List ℕ → Writing
  kept r c v r' = need (leb 12 (le c)) (stopped 1 (length (drop pos s))) (need (not (known gs (le (take 8 v)))) (stopped 45 (length (drop pos s))) (wrote (c ++ v) [] r'))

  kept-is : (at fr : ℕ) → indirect_w (extending_b gs I) at fr (drop pos s) ≡ placed (fr - at) (due (mark_bytes XU) (drop pos s) (λ r. counted r (kept r)))
  unfolding indirect_w extending_b
  kept-is at fr = rw m

  pub kept-bad : (f : Fault) → Err f ≡ judged (counted_fault (mark_bytes XU) (drop pos s)) pos → Finds s d (indirect_w (extending_b gs I)) pos (Err f)
  unfolding placed
  kept-bad = halts s pos d (indirect_w (extending_b gs I)) _ _ (λ z at fr. kept-is at fr ∙ ap (placed (fr - at)) (counted-bad s pos R.inside _ kept z)) (at_mark s pos R.inside)

  module _ (z : counted_fault (mark_bytes XU) (drop pos s) ≡ 0) (n : ℕ) (ic : n ≡ le (part 4 (pos + 2) s)) where
    kept_at : (at fr : ℕ) → indirect_w (extending_b gs I) at fr (drop pos s) ≡ placed (fr - at) (kept (drop (pos + 2) s) (part 4 (pos + 2) s) (part n (pos + 6) s) (drop (pos + (6 + n)) s))
    kept_at at fr = kept-is at fr ∙ ap (placed (fr - at)) (counted-good s pos R.inside _ kept z n ic)

    pub kept-short : n < 12 → Finds s d (indirect_w (extending_b gs I)) pos (refused 1 pos)
    unfolding need placed
    kept-short l at fr = refuses s d _ 1 pos _ (kept_at at fr ∙ rw (← ic, lt-leb 12 n l)) (at_mark s pos R.inside)

    module _ (l : 12 ≤ n) where
      kept-id : take 8 (part n (pos + 6) s) ≡ part 8 (pos + 6) s
      kept-id = take-take 8 n (drop (pos + 6) s) (omega arith)

      pub kept-known : known gs (le (part 8 (pos + 6) s)) ≡ true → Finds s d (indirect_w (extending_b gs I)) pos (refused 45 pos)
      unfolding need placed
      kept-known e at fr = refuses s d _ 45 pos _ (kept_at at fr ∙ rw (← ic, le-leb 12 n l, kept-id, e)) (at_mark s pos R.inside)

      pub kept-good : known gs (le (part 8 (pos + 6) s)) ≡ false → (k : ℕ) → k ≡ capped (d + (4 + n)) → Finds s d (indirect_w (extending_b gs I)) pos (passed (pos + (6 + n)) k)
      unfolding need placed
      kept-good e k q at fr =
          let j = counted-inside s pos R.inside _ z in
          let o : leb 12 (le (part 4 (pos + 2) s)) ≡ true = rw (← ic) (le-leb 12 n l) in
          adds s d _ (pos + (6 + n)) k (bytes_of 4 (fr - at)) ((part 4 (pos + 2) s ++ part n (pos + 6) s) ++ []) (kept_at at fr ∙ rw (o, kept-id, e)) (omega (arith, j, ic))
          (q ∙ ap (λ (i : ℕ). capped (d + i)) (sym (kept-length s pos n (omega (arith, j, ic)))))

-- THE END OF A GROUP

module _ (s : List ℕ) (pos d : ℕ) (R : Ready s pos d) where
  pub end-bad : (f : Fault) → Err f ≡ judged (record_fault GE 0 (drop pos s)) pos → Finds s d end_w pos (Err f)
  unfolding end_w
  end-bad = halts s pos d end_w _ _ (λ z at fr. mark-bad s pos R.inside GE (λ r. wrote [] [] r) z) (at_mark s pos R.inside)

  pub end-good : record_fault GE 0 (drop pos s) ≡ 0 → Finds s d end_w pos (passed (pos + 2) d)
  unfolding end_w
  end-good z at fr =
      let l = record-inside s pos R.inside GE 0 z in
      stays s d _ (pos + 2) [] (mark-good s pos R.inside GE (λ r. wrote [] [] r) z) (omega (arith, l)) R.low

-- every byte passes where there is no test
pub any-passes : (v : List ℕ) → passes any v ≡ true
unfolding passes
any-passes v = refl
