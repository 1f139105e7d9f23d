-- A step along the tape, as C takes it.
use Rattle.schema.specs.Faults.{Verdict, fault_at}
use Rattle.std.proofs.Common.{Ok, Err, Some, None}
use mathlib.Core.Path.{◌≡◌, refl, sym, ap, ◌∙◌}
use mathlib.Core.Bool.{Bool, true, false}
use mathlib.Core.List.{List}
use Prim.Native.Nat.{ℕ, ◌+◌, ◌<◌, ◌≤◌}
use native.Mathlib.Omega.{arith}
use native.Mathlib.Nat.{add-sub_cancel_left}
use lib.ListN.{length}
use lib.Dec.{leb}
use borrow.Author.Tests.{leb-true, leb-false}
use Rattle.wire.specs.Bytes.{part}
use Rattle.schema.specs.Table.{table_verdict}
use Rattle.opening.specs.Opening.{Under, message_verdict}
use Rattle.tape.specs.declared.Step.{Step}
use Rattle.tape.specs.Tape.{span_at, whole, message_at, step_to, tape_step, handed}
use Rattle.tape.proofs.Laws.{step-ended, step-20, step_cut, step-whole, handed-some}
use Rattle.tape.proofs.Whole.{step_past}
use Rattle.blink_native.specs.Boundary.{exported_answer}
use Rattle.blink_native.specs.Claims.{StepTold}

-- it never goes back
pub goes_on : (t s : List ℕ) (p : ℕ) (u : Under) (x : Step) → x ≡ tape_step t s p u → p ≤ x.next
goes_on t s p u x e = rw e (by-test (leb (length s) p) refl)
  where
    by-test : (b : Bool) → leb (length s) p ≡ b → p ≤ (tape_step t s p u).next
    by-test true f = rw (step-ended t s p u (leb-true _ _ f)) (omega arith)
    by-test false f = let h : p < (tape_step t s p u).next = step_past t s u p (leb-false _ _ f) in omega (arith, h)

module _ (s : List ℕ) (p : ℕ) where
  at-end : (next : ℕ) → StepTold s p (step_to None next)
  unfolding exported_answer handed
  at-end next = record {
    told = (λ e n q f. let z : ◌≡◌ {A = ℕ} 0 1 = cc in omega (arith, z), λ f. refl);
    ended = (λ e. refl, λ e. refl);
    bytes = refl;
  }

  refused : (n q next : ℕ) → (n ≡ 0 → ⊥) → StepTold s p (step_to (Some (Err (fault_at n q))) next)
  unfolding exported_answer handed
  refused n q next h = record {
    told = (λ e. absurd (h e), λ f. absurd (f n q refl));
    ended = (λ e. absurd (omega (arith, e)), λ e. let z : ◌≡◌ {A = ℕ} 0 1 = cc in absurd (omega (arith, z)));
    bytes = refl;
  }

  of-message : (v : Verdict) → ((q : ℕ) → v ≡ Err (fault_at 0 q) → ⊥) → whole s p ≡ true → StepTold s p (step_to (Some v) (p + span_at s p))
  unfolding exported_answer
  of-message (Err f) h w = refused f.number f.place (p + span_at s p) (λ e. h f.place (ap (λ (k : ℕ). Err (fault_at k f.place)) e))
  of-message (Ok _) h w = record {
    told = (λ e n q f. let z : ◌≡◌ {A = ℕ} 0 1 = cc in omega (arith, z), λ f. refl);
    ended = (λ e. absurd (omega (arith, e)), λ e. let z : ◌≡◌ {A = ℕ} 0 1 = cc in absurd (omega (arith, z)));
    bytes = ap (λ (n : ℕ). part n p s) (add-sub_cancel_left p (span_at s p)) ∙ handed-some s p w;
  }

pub step : (t s : List ℕ) (u : Under) (p : ℕ) → ((b : List ℕ) (q : ℕ) → message_verdict t b u ≡ Err (fault_at 0 q) → ⊥) → StepTold s p (tape_step t s p u)
step t s u p h = by_tests (leb (length s) p) (table_verdict t) (whole s p) refl refl refl
  where
    by_tests : (l : Bool) (v : Verdict) (w : Bool) → leb (length s) p ≡ l → table_verdict t ≡ v → whole s p ≡ w → StepTold s p (tape_step t s p u)
    by_tests true v w e f g = rw (step-ended t s p u (leb-true _ _ e)) (at-end s p p)
    by_tests false (Err r) w e f g = rw (step-20 t s p u r (leb-false _ _ e) (sym f)) (refused s p 20 0 (length s) (λ z. omega (arith, z)))
    by_tests false (Ok _) false e f g = rw (step_cut t s p u (leb-false _ _ e) f g) (refused s p 22 p (length s) (λ z. omega (arith, z)))
    by_tests false (Ok _) true e f g = rw (step-whole t s p u f g) (of-message s p (message_verdict t (message_at s p) u) (h (message_at s p)) g)
