-- A step of the tape, by what the code found.
use Rattle.schema.specs.declared.Fault.{Fault}
use Rattle.std.proofs.Common.{Ok, Err, Some, None, Result}
use Prim.Native.Nat.{ℕ, ◌+◌, ◌-◌, ◌<◌, ◌≤◌}
use mathlib.Core.Path.{◌≡◌, refl, sym, ap, ◌∙◌}
use mathlib.Core.Bool.{Bool, true, false, cond}
use mathlib.Core.List.{List, []}
use native.Mathlib.Nat.{add-sub_cancel_left}
use native.Mathlib.Omega.{arith}
use lib.ListN.{length, take, drop}
use lib.Dec.{leb}
use borrow.Author.Tests.{le-leb, lt-leb, leb-true}
use Rattle.schema.specs.Faults.{Verdict, fault_at, need}
use Rattle.schema.specs.Table.{table_verdict}
use Rattle.schema.proofs.Depth.{and_both}
use Rattle.opening.specs.Opening.{accepted, Under, message_verdict, scratch_after, Opened}
use Rattle.opening.proofs.Laws.{scratch-20, verdict-accepted, verdict-refused}
use Rattle.tape.specs.Tape.{span_at, whole, end_of, message_at, step_to, tape_step, tape_scratch, handed, handed_from}

module _ (s : List ℕ) (p : ℕ) where
  -- whether a whole message stands there
  pub cut_short : length s < p + 4 → whole s p ≡ false
  unfolding whole
  cut_short h = rw (lt-leb _ _ h)

  pub cut-long : p + 4 ≤ length s → length s < p + span_at s p → whole s p ≡ false
  unfolding whole
  cut-long g h = rw (le-leb _ _ g, lt-leb _ _ h)

  pub stands : p + span_at s p ≤ length s → whole s p ≡ true
  unfolding whole
  stands h = let g : p + 4 ≤ length s = omega (arith, h) in rw (le-leb _ _ g, le-leb _ _ h)

  pub whole-inside : whole s p ≡ true → p + span_at s p ≤ length s
  unfolding whole
  whole-inside w = leb-true _ _ (and_both (leb (p + 4) (length s)) (leb (p + span_at s p) (length s)) w).1

  pub whole-left : whole s p ≡ true → p < length s
  whole-left w = omega (arith, whole-inside w)

  -- where it ends, and what is found by that
  pub end-cut : whole s p ≡ false → None ≡ end_of s p
  unfolding end_of
  end-cut w = rw w

  pub end_whole : whole s p ≡ true → Some (p + span_at s p) ≡ end_of s p
  unfolding end_of
  end_whole w = rw w

  pub no_end : None ≡ end_of s p → whole s p ≡ false
  unfolding end_of
  no_end e = go (whole s p) refl e
    where
      go : (w : Bool) → whole s p ≡ w → None ≡ cond w (Some (p + span_at s p)) None → whole s p ≡ false
      go true f e = absurd (cc)
      go false f e = f

  -- the message of the part from p up to n
  pub record Ends (n : ℕ) : Type 0 where
    pub all : whole s p ≡ true
    pub here : n ≡ p + span_at s p
    pub inside : n ≤ length s
    pub bytes : take (n - p) (drop p s) ≡ message_at s p

  pub an-end : (n : ℕ) → Some n ≡ end_of s p → Ends n
  unfolding end_of
  an-end n e = go (whole s p) refl e
    where
      go : (w : Bool) → whole s p ≡ w → Some n ≡ cond w (Some (p + span_at s p)) None → Ends n
      go true f e = let q : n ≡ p + span_at s p = cc in record { all = f; here = q; inside = rw q (whole-inside f); bytes = rw (q, add-sub_cancel_left p (span_at s p)) }
      go false f e = absurd (cc)

  -- what is handed out
  module _ (w : whole s p ≡ false) where
    pub handed-none : [] ≡ handed s p (Some (Ok tt))
    unfolding handed
    handed-none = rw w

    pub from-none : (o : ℕ) → 0 + o ≡ o + handed_from s p (Some (Ok tt))
    unfolding handed_from
    from-none o = rw w (omega arith)

  module _ (w : whole s p ≡ true) where
    pub handed-some : message_at s p ≡ handed s p (Some (Ok tt))
    unfolding handed
    handed-some = rw w

    pub from_some : (o : ℕ) → p + o ≡ o + handed_from s p (Some (Ok tt))
    unfolding handed_from
    from_some o = rw w (omega arith)

module _ (t s : List ℕ) (p : ℕ) (u : Under) where
  pub step-ended : length s ≤ p → tape_step t s p u ≡ step_to None p
  unfolding tape_step
  step-ended h = rw (le-leb _ _ h)

  pub step-20 : (f : Fault) → p < length s → Err f ≡ table_verdict t → tape_step t s p u ≡ step_to (Some (Err (fault_at 20 0))) (length s)
  unfolding tape_step accepted need
  step-20 f h e = rw (lt-leb _ _ h, ← e)

  pub step_cut : p < length s → table_verdict t ≡ Ok tt → whole s p ≡ false → tape_step t s p u ≡ step_to (Some (Err (fault_at 22 p))) (length s)
  unfolding tape_step accepted need
  step_cut h e w = rw (lt-leb _ _ h, e, w)

  pub step-whole : table_verdict t ≡ Ok tt → whole s p ≡ true → tape_step t s p u ≡ step_to (Some (message_verdict t (message_at s p) u)) (p + span_at s p)
  unfolding tape_step accepted need
  step-whole e w = rw (lt-leb _ _ (whole-left s p w), e, w)

  -- as the code has it: the message is the part from p up to n
  pub step-goes : (n : ℕ) (e : Ends s p n) (v : Verdict) → table_verdict t ≡ Ok tt
      → v ≡ message_verdict t (take (n - p) (drop p s)) u → step_to (Some v) n ≡ tape_step t s p u
  step-goes n e v a x = (λ i. step_to (Some ((x ∙ ap (λ m. message_verdict t m u) e.bytes) i)) (e.here i)) ∙ sym (step-whole a e.all)

module _ (t st s : List ℕ) (p : ℕ) (room : List ℕ) where
  pub scratch-cut : whole s p ≡ false → tape_scratch t st s p room ≡ room
  unfolding tape_scratch
  scratch-cut w = rw w

  pub scratch-refused : (f : Fault) → Err f ≡ table_verdict t → tape_scratch t st s p room ≡ room
  unfolding tape_scratch
  scratch-refused f e = untouched (whole s p)
    where
      untouched : (w : Bool) → cond w (scratch_after t st (message_at s p) room) room ≡ room
      untouched true = scratch-20 t st (message_at s p) room f e
      untouched false = refl

  pub scratch-goes : (n : ℕ) → Ends s p n → tape_scratch t st s p room ≡ scratch_after t st (take (n - p) (drop p s)) room
  unfolding tape_scratch
  scratch-goes n e = rw (e.all, e.bytes)
