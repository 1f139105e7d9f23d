-- That the claims hold.
use Rattle.std.proofs.Common.{Ok, Err, Some, None}
use Prim.Native.Nat.{ℕ, zero, suc, ◌+◌, ◌*◌}
use mathlib.Core.Path.{◌≡◌, refl, sym, ap, ◌∙◌}
use mathlib.Core.Bool.{Bool, true, false}
use mathlib.Core.List.{List, [], ◌∷◌}
use native.Mathlib.Omega.{arith}
use lib.ListN.{length}
use lib.Dec.{leb}
use borrow.Author.Tests.{leb-true, leb-false}
use Rattle.wire.specs.Bytes.{splice}
use Rattle.schema.specs.Faults.{Verdict, fault_at, need}
use Rattle.schema.specs.Table.{table_verdict}
use Rattle.opening.specs.Opening.{Under, message_verdict}
use Rattle.tape.specs.Tape.{Answer, whole, message_at, tape_step, handed}
use Rattle.tape.proofs.Laws.{step-ended, step-20, step_cut, step-whole, handed-some}
use Rattle.answers.specs.declared.outcome.Outcome.{Outcome}
use Rattle.answers.specs.declared.outcome.Outcome.TheVariants.{Answered, Refused as Rejected, Failed}
use Rattle.answers.specs.Outcomes.{worse_of}
use Rattle.ledger.specs.Ledger.{Call, call, Line, unfit, line, line_of, Ledger, lines, enters, entered, run, with_line, lines_of}
use Rattle.ledgers.specs.Entries.{call_before, calls_from, calls_at, calls, entry_outcome, run_outcome, ledger_outcome}
use Rattle.ledgers.specs.Claims.{Passed, EntryClaims}

abbrev is_accepted : Answer → Bool
is_accepted None = false
is_accepted (Some (Ok _)) = true
is_accepted (Some (Err f)) = false

other : {X : Type 0} → false ≡ true → X
other e = absurd (cc)

verdict-of : (v : Verdict) → is_accepted (Some v) ≡ true → v ≡ Ok tt
verdict-of (Ok _) e = refl
verdict-of (Err f) e = other e

-- EVERY LINE

worse-failed : (a b : Outcome) → b ≡ Failed → worse_of a b ≡ Failed
unfolding worse_of
worse-failed Answered b e = e
worse-failed Rejected b e = rw e
worse-failed Failed b e = refl

-- a run in which no line is without room
run-filled : (cs : List Call) (s : Ledger) → (run_outcome s cs ≡ Failed → ⊥) → (run s cs).fill ≡ s.fill + 64 * length (lines_of cs)
unfolding run run_outcome lines_of
run-filled [] s h = omega arith
run-filled (c ∷ cs) s h = by-line (line_of c) (run-filled cs) h
  where
    by-line : (l : Line) → ((k : Ledger) → (run_outcome k cs ≡ Failed → ⊥) → (run k cs).fill ≡ k.fill + 64 * length (lines_of cs))
        → (worse_of (entry_outcome (enters s l)) (run_outcome (entered s l) cs) ≡ Failed → ⊥) → (run (entered s l) cs).fill ≡ s.fill + 64 * length (with_line l (lines_of cs))
    by-line (unfit n p) rest h = unfold enters entered with_line in rest s (λ e. h (worse-failed _ _ e))
    by-line (line x) rest h = unfold enters entered with_line in by-room (leb (s.fill + 64) (length s.bytes)) rest h
      where
        by-room : (v : Bool) → ((k : Ledger) → (run_outcome k cs ≡ Failed → ⊥) → (run k cs).fill ≡ k.fill + 64 * length (lines_of cs))
            → (worse_of (entry_outcome (need v (Err (fault_at 56 0)) (Ok (s.fill + 64)))) (run_outcome (need v s (lines (splice 64 s.fill x s.bytes) (s.fill + 64))) cs) ≡ Failed → ⊥)
            → (run (need v s (lines (splice 64 s.fill x s.bytes) (s.fill + 64))) cs).fill ≡ s.fill + 64 * length (x ∷ lines_of cs)
        by-room true rest h = unfold need in let q = rest (lines (splice 64 s.fill x s.bytes) (s.fill + 64)) (λ e. h (worse-failed _ _ e)) in omega (arith, q)
        by-room false rest h = unfold need entry_outcome worse_of in absurd (h refl)

module _ (t s : List ℕ) (u : Under) (id : ℕ) where
  -- what is handed out as accepted is
  own-passed : (p : ℕ) → (tape_step t s p u).answer ≡ Some (Ok tt) → message_verdict t (handed s p (Some (Ok tt))) u ≡ Ok tt
  own-passed p e = by_place (leb (length s) p) (table_verdict t) (whole s p) refl refl refl
    where
      by_place : (b : Bool) (v : Verdict) (w : Bool) → leb (length s) p ≡ b → table_verdict t ≡ v → whole s p ≡ w → message_verdict t (handed s p (Some (Ok tt))) u ≡ Ok tt
      by_place true v w f g h = other (ap (λ x. is_accepted x.answer) (sym (step-ended t s p u (leb-true _ _ f))) ∙ ap is_accepted e)
      by_place false (Err r) w f g h = other (ap (λ x. is_accepted x.answer) (sym (step-20 t s p u r (leb-false _ _ f) (sym g))) ∙ ap is_accepted e)
      by_place false (Ok _) false f g h = other (ap (λ x. is_accepted x.answer) (sym (step_cut t s p u (leb-false _ _ f) g h)) ∙ ap is_accepted e)
      by_place false (Ok _) true f g h =
          rw (sym (handed-some s p h)) (verdict-of (message_verdict t (message_at s p) u) (ap (λ x. is_accepted x.answer) (sym (step-whole t s p u g h)) ∙ ap is_accepted e))

  passed-before : (p : ℕ) (a : Answer) (cs : List Call) → (tape_step t s p u).answer ≡ a → Passed cs → Passed (call_before a (call t (handed s p a) u id) cs)
  unfolding call_before Passed
  passed-before p None cs e r = tt
  passed-before p (Some (Ok _)) cs e r = (own-passed p e, r)
  passed-before p (Some (Err f)) cs e r = r

  passed-from : (n p : ℕ) → Passed (calls_from n t s u id p)
  unfolding calls_from Passed
  passed-from zero p = tt
  passed-from (suc n) p = passed-before p (tape_step t s p u).answer (calls_from n t s u id (tape_step t s p u).next) refl (passed-from n (tape_step t s p u).next)

  pub entry-claims : EntryClaims t s u id
  unfolding calls_at
  entry-claims = record { passed = passed-from (length s) 0; none-lost = λ k h. run-filled (calls t s u id) k (λ e. h (unfold ledger_outcome in worse-failed _ _ e)) }
