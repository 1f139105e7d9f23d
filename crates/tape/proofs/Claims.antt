-- What request 1 asks of the tape holds of every table and tape.
use Rattle.schema.specs.Faults.{Verdict, fault_at}
use Rattle.std.proofs.Common.{Ok, Err, Some}
use Prim.Native.Nat.{ℕ, zero, suc, ◌+◌, ◌<◌, ◌≤◌}
use mathlib.Core.Path.{◌≡◌, refl, sym, ap, subst, ◌∙◌}
use mathlib.Core.Bool.{Bool, true, false}
use mathlib.Core.List.{List, [], ◌∷◌, ◌++◌, append_assoc}
use native.Mathlib.Omega.{arith}
use lib.ListN.{length, length-append, length-drop, take, drop, take-append-drop}
use lib.Seq.{take-append_seam, drop-append_seam, take-append-le}
use Rattle.wire.specs.Bytes.{part, le}
use Rattle.wire.proofs.Laws.{length_part}
use Rattle.schema.specs.Table.{table_verdict}
use Rattle.opening.specs.Opening.{Under, message_verdict}
use Rattle.tape.specs.Tape.{Answer, span_at, whole, tape_step, handed, answers_at, joined, Measured, own_answers, tail_answer}
use Rattle.tape.specs.Claims.{Stands, Stored, TapeClaims}
use Rattle.tape.proofs.Laws.{cut_short, stands, whole-inside, whole-left, handed-some, step-ended, step-20, step_cut, step-whole, scratch-cut}
use Rattle.tape.proofs.Whole.{onward, answers-end, answers-on, answers-last, only_end}

-- A PLACE BEHIND OTHER BYTES

-- the size word behind the bytes a
span-behind : (a c : List ℕ) → span_at (a ++ c) (length a) ≡ span_at c 0
span-behind a c = ap (λ (x : List ℕ). 4 + le (take 4 x)) (drop-append_seam a c)

-- a message stands where those before it end
stands-there : (a b rest : List ℕ) → length b ≡ span_at b 0 → Stands (a ++ (b ++ rest)) (length a) b
stands-there a b rest m =
    let d : drop (length a) (a ++ (b ++ rest)) ≡ b ++ rest = drop-append_seam a (b ++ rest) in
    let word : part 4 (length a) (a ++ (b ++ rest)) ≡ part 4 0 b = ap (take 4) d ∙ take-append-le 4 b rest (omega (arith, m)) in
    let span : span_at (a ++ (b ++ rest)) (length a) ≡ length b = ap (λ (x : List ℕ). 4 + le x) word ∙ sym m in
    record {
      all = stands (a ++ (b ++ rest)) (length a) (omega (arith, span, length-append a (b ++ rest), length-append b rest));
      bytes = rw (span, d) (take-append_seam b rest);
    }

-- a cut tail is one behind any bytes
cut-there : (a c : List ℕ) → whole c 0 ≡ false → whole (a ++ c) (length a) ≡ false
cut-there a c f = go (whole (a ++ c) (length a)) refl
  where
    go : (w : Bool) → whole (a ++ c) (length a) ≡ w → whole (a ++ c) (length a) ≡ false
    go true e =
        let x : true ≡ false = sym (stands c 0 (omega (arith, whole-inside (a ++ c) (length a) e, span-behind a c, length-append a c))) ∙ f in
        let z : ◌≡◌ {A = ℕ} 0 1 = cc in absurd (omega arith)
    go false e = e

-- EVERY TAPE IS MESSAGES AND A TAIL

abbrev Split : List ℕ → Type 0
Split s = (bs : List (List ℕ)) × ((c : List ℕ) × Stored s bs c)

no-messages : (s : List ℕ) → whole s 0 ≡ false → Split s
unfolding joined Measured
no-messages s f = ([], (s, record { is = refl; measured = tt; cut = f }))

one_more : (s : List ℕ) → whole s 0 ≡ true → Split (drop (span_at s 0) s) → Split s
unfolding joined Measured
one_more s e (bs, (c, x)) =
    let b = take (span_at s 0) s in
    let all : b ++ drop (span_at s 0) s ≡ s = take-append-drop (span_at s 0) s in
    let long : length b ≡ span_at s 0 = length_part (span_at s 0) 0 s (whole-inside s 0 e) in
    let word : take 4 s ≡ take 4 b = ap (take 4) (sym all) ∙ take-append-le 4 b (drop (span_at s 0) s) (omega (arith, long)) in (
      b ∷ bs,
      (
        c,
        record {
          is = sym all ∙ ap (λ (r : List ℕ). b ++ r) x.is ∙ sym (append_assoc b (joined bs) c);
          measured = (long ∙ ap (λ (w : List ℕ). 4 + le w) word, x.measured);
          cut = x.cut;
        },
      ),
    )

split_from : (n : ℕ) (s : List ℕ) → length s ≤ n → Split s
split_from zero s h = no-messages s (cut_short s 0 (omega (arith, h)))
split_from (suc n) s h = by-test (whole s 0) refl (split_from n (drop (span_at s 0) s) (omega (arith, h, length-drop (span_at s 0) s)))
  where
    by-test : (w : Bool) → whole s 0 ≡ w → Split (drop (span_at s 0) s) → Split s
    by-test true e x = one_more s e x
    by-test false e x = no-messages s e

-- THE ANSWERS

own-append : (t : List ℕ) (u : Under) (fs bs : List (List ℕ)) → own_answers t u (fs ++ bs) ≡ own_answers t u fs ++ own_answers t u bs
unfolding own_answers
own-append t u [] bs = refl
own-append t u (f ∷ fs) bs = ap (λ (x : List Answer). Some (message_verdict t f u) ∷ x) (own-append t u fs bs)

module _ (t : List ℕ) (u : Under) where
  stands-long : (s : List ℕ) (p : ℕ) (b : List ℕ) → Stands s p b → span_at s p ≡ length b
  stands-long s p b d = sym (length_part _ p s (whole-inside s p d.all)) ∙ ap length d.bytes

  passes : (s : List ℕ) (p : ℕ) (b : List ℕ) → Stands s p b → table_verdict t ≡ Ok tt → (tape_step t s p u).next ≡ p + length b
  passes s p b d e = rw (step-whole t s p u e d.all) (ap (λ n. p + n) (stands-long s p b d))

  answers : (s : List ℕ) (p : ℕ) (b : List ℕ) → Stands s p b → table_verdict t ≡ Ok tt → (tape_step t s p u).answer ≡ Some (message_verdict t b u)
  answers s p b d e = rw (step-whole t s p u e d.all) (ap (λ x. Some (message_verdict t x u)) d.bytes)

  anywhere : (v : Verdict) → table_verdict t ≡ v → (s s' : List ℕ) (p p' : ℕ) (b : List ℕ) → Stands s p b → Stands s' p' b → (tape_step t s p u).answer ≡ (tape_step t s' p' u).answer
  anywhere (Ok _) e s s' p p' b d d' = answers s p b d e ∙ sym (answers s' p' b d' e)
  anywhere (Err f) e s s' p p' b d d' = rw (step-20 t s p u f (whole-left s p d.all) (sym e), step-20 t s' p' u f (whole-left s' p' d'.all) (sym e))

  -- from behind the bytes a on, the answers are those of a tail c
  tail-answer : table_verdict t ≡ Ok tt → (a c : List ℕ) → whole c 0 ≡ false → answers_at t (a ++ c) u (length a) ≡ tail_answer (length a) c
  unfolding tail_answer
  tail-answer e a [] f = answers-end t (a ++ []) u (length a) (omega (arith, length-append a []))
  tail-answer e a (x ∷ c) f =
      let h : length a < length (a ++ (x ∷ c)) = omega (arith, length-append a (x ∷ c)) in
      answers-last t (a ++ (x ∷ c)) u (length a) (Some (Err (fault_at 22 (length a)))) h (step_cut t (a ++ (x ∷ c)) (length a) u h e (cut-there a (x ∷ c) f))

  -- and those of the messages bs and the tail
  in_order : table_verdict t ≡ Ok tt → (s : List ℕ) (bs : List (List ℕ)) (c a : List ℕ) → s ≡ a ++ (joined bs ++ c) → Measured bs → whole c 0 ≡ false
      → answers_at t s u (length a) ≡ own_answers t u bs ++ tail_answer (length (a ++ joined bs)) c
  unfolding joined Measured own_answers
  in_order e s [] c a j m f = ap (λ (x : List ℕ). answers_at t x u (length a)) j ∙ tail-answer e a c f ∙ ap (λ n. tail_answer n c) (omega (arith, length-append a []))
  in_order e s (b ∷ bs) c a j m f =
      let k : s ≡ a ++ (b ++ (joined bs ++ c)) = j ∙ ap (λ (x : List ℕ). a ++ x) (append_assoc b (joined bs) c) in
      let d : Stands s (length a) b = subst (λ (x : List ℕ). Stands x (length a) b) (sym k) (stands-there a b (joined bs ++ c) m.0) in
      let on : (tape_step t s (length a) u).next ≡ length (a ++ b) = passes s (length a) b d e ∙ sym (length-append a b) in
      let rest = in_order e s bs c (a ++ b) (k ∙ sym (append_assoc a b (joined bs ++ c))) m.1 f in
      answers-on t s u (length a) (whole-left s (length a) d.all) ∙ rw (answers s (length a) b d e, on, rest, append_assoc a b (joined bs))

  module _ (s : List ℕ) where
    end_to_end : (bs : List (List ℕ)) (c : List ℕ) → Stored s bs c → table_verdict t ≡ Ok tt → answers_at t s u 0 ≡ own_answers t u bs ++ tail_answer (length (joined bs)) c
    end_to_end bs c x e = in_order e s bs c [] x.is x.measured x.cut

    pub tape-claims : TapeClaims t s u
    unfolding handed own_answers
    tape-claims = record {
      own-bytes = λ p b d e. rw e (sym (handed-some s p d.all) ∙ d.bytes);
      nothing = λ p n q e. rw e;
      answer = answers s;
      passes = passes s;
      ends = λ p h. step-ended t s p u h;
      only_end = only_end t s u;
      cut = λ p h e w. step_cut t s p u h e w;
      cut-untouched = λ p room w. scratch-cut t u.store s p room w;
      anywhere = anywhere (table_verdict t) refl s;
      table-first = λ p n q h e. step-20 t s p u (fault_at n q) h (sym e);
      table-alone = λ n q h e. answers-last t s u 0 (Some (Err (fault_at 20 0))) h (step-20 t s 0 u (fault_at n q) h (sym e));
      moves = λ p h. let x = onward t s u p h in (x.past, x.within);
      step-by-step = answers-on t s u;
      none_left = answers-end t s u;
      stored = split_from (length s) s (omega arith);
      end_to_end = end_to_end;
      others = λ fs b bs c x e. end_to_end (fs ++ (b ∷ bs)) c x e ∙ ap (λ (r : List Answer). r ++ tail_answer (length (joined (fs ++ (b ∷ bs)))) c) (own-append t u fs (b ∷ bs)) ∙ append_assoc (own_answers t u fs) (own_answers t u (b ∷ bs)) (tail_answer (length (joined (fs ++ (b ∷ bs)))) c);
    }
