-- Laws of the worst of several outcomes, and of a tape's.
use Rattle.schema.specs.declared.Fault.{Fault}
use Rattle.std.proofs.Common.{Err}
use Prim.Native.Nat.{ℕ, ◌<◌, ◌≤◌}
use mathlib.Core.Path.{◌≡◌, refl}
use mathlib.Core.Bool.{cond}
use mathlib.Core.List.{List, [], ◌∷◌}
use native.Mathlib.Omega.{arith}
use lib.ListN.{length}
use lib.Dec.{eqb}
use borrow.Author.Tests.{ne_eqb}
use Rattle.schema.specs.Table.{table_verdict}
use Rattle.opening.specs.Opening.{Under}
use Rattle.tape.specs.declared.Step.{Step}
use Rattle.tape.specs.Tape.{answers_at}
use Rattle.tape.proofs.Laws.{step-20}
use Rattle.tape.proofs.Whole.{Turn, answers-end, answers-last}
use Rattle.answers.specs.declared.outcome.Outcome.{Outcome}
use Rattle.answers.specs.declared.outcome.Outcome.TheVariants.{Answered, Refused, Failed}
use Rattle.answers.specs.Outcomes.{worse_of}
use Rattle.tapes.specs.Outcomes.{answer_outcome, tape_outcome}

pub worse-more : (a b c : Outcome) → worse_of a (worse_of b c) ≡ worse_of (worse_of a b) c
unfolding worse_of
worse-more Answered b c = refl
worse-more Refused Answered c = refl
worse-more Refused Refused Answered = refl
worse-more Refused Refused Refused = refl
worse-more Refused Refused Failed = refl
worse-more Refused Failed c = refl
worse-more Failed b c = refl

pub worse-none : (a : Outcome) → worse_of a Answered ≡ a
unfolding worse_of
worse-none Answered = refl
worse-none Refused = refl
worse-none Failed = refl

module _ (t s : List ℕ) (u : Under) where
  -- the outcome w so far, and that of the tape from p on
  unfoldable pub outcome_from : Outcome → ℕ → Outcome
  outcome_from w p = worse_of w (tape_outcome (answers_at t s u p))

  pub outcome-start : tape_outcome (answers_at t s u 0) ≡ outcome_from Answered 0
  unfolding outcome_from worse_of
  outcome-start = refl

  pub outcome-turn : (w : Outcome) (p : ℕ) (x : Step) → Turn t s u p x → outcome_from w p ≡ outcome_from (worse_of w (answer_outcome x.answer)) x.next
  unfolding outcome_from tape_outcome
  outcome-turn w p x r = rw r.rest (worse-more w _ _)

  pub outcome-end : (w : Outcome) (p : ℕ) → length s ≤ p → outcome_from w p ≡ w
  unfolding outcome_from tape_outcome
  outcome-end w p h = rw (answers-end t s u p h) (worse-none w)

-- a refused table is one refusal, where a byte is left
pub outcome-20 : (t s : List ℕ) (u : Under) (f : Fault) → Err f ≡ table_verdict t → cond (eqb (length s) 0) Answered Refused ≡ tape_outcome (answers_at t s u 0)
unfolding tape_outcome answer_outcome worse_of
outcome-20 t [] u f e = rw (answers-end t [] u 0 (omega arith))
outcome-20 t (x ∷ s) u f e =
    let h : 0 < length (x ∷ s) = omega arith in
    rw (ne_eqb (length (x ∷ s)) 0 (omega arith), answers-last t (x ∷ s) u 0 _ h (step-20 t (x ∷ s) 0 u f h e))
