-- Laws of a tape's calls, of what a run of them leaves, and of its outcome.
use Rattle.schema.specs.declared.Fault.{Fault}
use Rattle.std.proofs.Common.{Ok, Err, Some, None, Result}
use Prim.Native.Nat.{ℕ, zero, suc, ◌+◌, ◌<◌, ◌≤◌}
use mathlib.Core.Path.{◌≡◌, refl, sym, ap, ◌∙◌}
use mathlib.Core.Bool.{Bool, true, false, cond}
use mathlib.Core.List.{List, [], ◌∷◌}
use native.Mathlib.Omega.{arith}
use lib.ListN.{length}
use lib.Dec.{leb, eqb}
use borrow.Author.Tests.{leb-true, leb-false}
use Rattle.wire.specs.Bytes.{splice}
use Rattle.schema.specs.Faults.{fault_at, need}
use Rattle.schema.specs.Table.{table_verdict}
use Rattle.opening.specs.Opening.{Under, under}
use Rattle.tape.specs.declared.Step.{Step}
use Rattle.tape.specs.Tape.{Answer, tape_step, handed, answers_at}
use Rattle.tape.proofs.Laws.{step-ended, step-20}
use Rattle.tape.proofs.Whole.{is_end, onward, answers-on, answers-end}
use Rattle.answers.specs.declared.outcome.Outcome.{Outcome}
use Rattle.answers.specs.declared.outcome.Outcome.TheVariants.{Answered, Refused, Failed}
use Rattle.answers.specs.Outcomes.{worse_of}
use Rattle.tapes.specs.Outcomes.{answer_outcome, tape_outcome}
use Rattle.tapes.proofs.Laws.{worse-more, worse-none, outcome-20 as tape-20}
use Rattle.ledger.specs.Ledger.{Call, call, Line, unfit, line, line_of, Ledger, lines, enters, entered, run}
use Rattle.ledgers.specs.declared.Filled.{Filled}
use Rattle.ledgers.specs.Entries.{call_before, calls_from, calls_at, entry_of, ledger_after, fill_of, entry_outcome, turn_outcome, run_outcome, ledger_outcome, Fills}

no_end : {X : Type 0} → true ≡ false → X
no_end e = absurd (cc)

-- THE CALLS

module _ (t s : List ℕ) (u : Under) (id : ℕ) where
  none-called : (n p : ℕ) → length s ≤ p → calls_from n t s u id p ≡ []
  unfolding calls_from call_before
  none-called zero p h = refl
  none-called (suc n) p h = rw (step-ended t s p u h)

  -- as many steps as bytes are left, or more, reach all of them
  enough : (n m p : ℕ) → length s ≤ p + n → length s ≤ p + m → calls_from n t s u id p ≡ calls_from m t s u id p
  unfolding calls_from
  enough zero m p h g = none-called 0 p (omega arith) ∙ sym (none-called m p (omega arith))
  enough (suc n) zero p h g = none-called (suc n) p (omega arith) ∙ sym (none-called 0 p (omega arith))
  enough (suc n) (suc m) p h g =
      by-test (leb (length s) p) refl (λ x. ap (call_before (tape_step t s p u).answer _) (enough n m (tape_step t s p u).next (omega (arith, x)) (omega (arith, x))))
    where
      by-test : (b : Bool) → leb (length s) p ≡ b → (p < (tape_step t s p u).next → calls_from (suc n) t s u id p ≡ calls_from (suc m) t s u id p) → calls_from (suc n) t s u id p ≡ calls_from (suc m) t s u id p
      by-test true f on = none-called (suc n) p (leb-true _ _ f) ∙ sym (none-called (suc m) p (leb-true _ _ f))
      by-test false f on = on (onward t s u p (leb-false _ _ f)).past

  pub calls-end : (p : ℕ) → length s ≤ p → calls_at t s u id p ≡ []
  unfolding calls_at
  calls-end p h = none-called (length s) p h

  pub calls-on : (p : ℕ) → calls_at t s u id p ≡ call_before (tape_step t s p u).answer (call t (handed s p (tape_step t s p u).answer) u id) (calls_at t s u id (tape_step t s p u).next)
  unfolding calls_at calls_from
  calls-on p = enough (length s) (suc (length s)) p (omega arith) (omega arith)

-- a refused table has none
pub calls-20 : (t s : List ℕ) (u : Under) (id : ℕ) (f : Fault) → Err f ≡ table_verdict t → calls_at t s u id 0 ≡ []
unfolding call_before
calls-20 t [] u id f e = calls-end t [] u id 0 (omega arith)
calls-20 t (x ∷ s) u id f e =
    calls-on t (x ∷ s) u id 0 ∙ rw (step-20 t (x ∷ s) 0 u f (omega arith) e) (calls-end t (x ∷ s) u id (length (x ∷ s)) (omega arith))

-- ONE MESSAGE

fill-room : (b : Bool) (s s' : Ledger) → fill_of s.fill (need b (Err (fault_at 56 0)) (Ok s'.fill)) ≡ (need b s s').fill
unfolding fill_of need
fill-room true s s' = refl
fill-room false s s' = refl

fill-entered : (s : Ledger) (l : Line) → fill_of s.fill (enters s l) ≡ (entered s l).fill
unfolding fill_of enters entered
fill-entered s (unfit n p) = refl
fill-entered s (line x) = fill-room (leb (s.fill + 64) (length s.bytes)) s (lines (splice 64 s.fill x s.bytes) (s.fill + 64))

pub fill-after : (a : Answer) (s : Ledger) (c : Call) → fill_of s.fill (entry_of a s c) ≡ (ledger_after a s c).fill
unfolding fill_of entry_of ledger_after
fill-after None s c = refl
fill-after (Some (Ok _)) s c = fill-entered s (line_of c)
fill-after (Some (Err f)) s c = refl

run-turn : (a : Answer) (s : Ledger) (c : Call) (cs : List Call) → is_end a ≡ false → run s (call_before a c cs) ≡ run (ledger_after a s c) cs
unfolding run call_before ledger_after
run-turn None s c cs e = no_end e
run-turn (Some (Ok _)) s c cs e = refl
run-turn (Some (Err f)) s c cs e = refl

-- OUTCOMES

worse-either : (a b : Outcome) → worse_of a b ≡ worse_of b a
unfolding worse_of
worse-either Answered Answered = refl
worse-either Answered Refused = refl
worse-either Answered Failed = refl
worse-either Refused Answered = refl
worse-either Refused Refused = refl
worse-either Refused Failed = refl
worse-either Failed Answered = refl
worse-either Failed Refused = refl
worse-either Failed Failed = refl

-- what comes second may come first
worse-first : (a b c : Outcome) → worse_of a (worse_of b c) ≡ worse_of b (worse_of a c)
worse-first a b c = worse-more a b c ∙ ap (λ (x : Outcome). worse_of x c) (worse-either a b) ∙ sym (worse-more b a c)

outcome-turn : (a : Answer) (s : Ledger) (c : Call) (answers : List Answer) (cs : List Call) → is_end a ≡ false
    → ledger_outcome s (a ∷ answers) (call_before a c cs) ≡ worse_of (turn_outcome a (entry_of a s c)) (ledger_outcome (ledger_after a s c) answers cs)
unfolding ledger_outcome tape_outcome answer_outcome run_outcome call_before turn_outcome entry_of ledger_after worse_of
outcome-turn None s c answers cs e = no_end e
outcome-turn (Some (Ok _)) s c answers cs e = worse-first (tape_outcome answers) (entry_outcome (enters s (line_of c))) (run_outcome (entered s (line_of c)) cs)
outcome-turn (Some (Err f)) s c answers cs e = sym (worse-more Refused (tape_outcome answers) (run_outcome s cs))

module _ (t s : List ℕ) (u : Under) (id : ℕ) where
  -- the outcome w so far, and that of the tape from p on
  unfoldable pub outcome_from : Outcome → Ledger → ℕ → Outcome
  outcome_from w l p = worse_of w (ledger_outcome l (answers_at t s u p) (calls_at t s u id p))

  pub outcome-start : (l : Ledger) → ledger_outcome l (answers_at t s u 0) (calls_at t s u id 0) ≡ outcome_from Answered l 0
  unfolding outcome_from worse_of
  outcome-start l = refl

  pub outcome-end : (w : Outcome) (l : Ledger) (p : ℕ) → length s ≤ p → outcome_from w l p ≡ w
  unfolding outcome_from ledger_outcome tape_outcome run_outcome worse_of
  outcome-end w l p h = rw (answers-end t s u p h, calls-end t s u id p h) (worse-none w)

  pub run_end : (l : Ledger) (p : ℕ) → length s ≤ p → run l (calls_at t s u id p) ≡ l
  unfolding run
  run_end l p h = rw (calls-end t s u id p h)

  -- A turn of the loop: from the place p to p', the ledger from l to l', the outcome so far from w to w'.
  pub record Turn (w : Outcome) (l : Ledger) (p : ℕ) (w' : Outcome) (l' : Ledger) (p' : ℕ) : Type 0 where
    pub past : p < p'
    pub within : p' ≤ length s
    pub runs : run l (calls_at t s u id p) ≡ run l' (calls_at t s u id p')
    pub comes : outcome_from w l p ≡ outcome_from w' l' p'

  module _ (p : ℕ) (h : p < length s) (x : Step) (is : x ≡ tape_step t s p u) (w : Outcome) (l : Ledger) where
    abbrev own : Call
    own = call t (handed s p x.answer) u id

    goes_on : is_end x.answer ≡ false
    goes_on = rw is (onward t s u p h).answers

    calls-here : calls_at t s u id p ≡ call_before x.answer own (calls_at t s u id x.next)
    calls-here = rw is (calls-on t s u id p)

    answers-here : answers_at t s u p ≡ x.answer ∷ answers_at t s u x.next
    answers-here = rw is (answers-on t s u p h)

    turn-own : Turn w l p (worse_of w (turn_outcome x.answer (entry_of x.answer l own))) (ledger_after x.answer l own) x.next
    unfolding outcome_from
    turn-own = record {
      past = rw is (onward t s u p h).past;
      within = rw is (onward t s u p h).within;
      runs = rw calls-here (run-turn x.answer l own (calls_at t s u id x.next) goes_on);
      comes = rw (calls-here, answers-here) (ap (worse_of w) (outcome-turn x.answer l own (answers_at t s u x.next) (calls_at t s u id x.next) goes_on) ∙ worse-more w _ _);
    }

    -- by what the code found: m is the message, e what came of it
    pub turn : (m L : List ℕ) (f : ℕ) (e : Result ℕ Fault) (o w' : Outcome) → m ≡ handed s p x.answer → e ≡ entry_of x.answer l (call t m u id)
        → L ≡ (ledger_after x.answer l (call t m u id)).bytes → o ≡ turn_outcome x.answer e → w' ≡ worse_of w o → f ≡ fill_of l.fill e → Turn w l p w' (lines L f) x.next
    turn m L f e o w' hm he hL ho hw hf =
        let ec : call t m u id ≡ own = ap (λ (y : List ℕ). call t y u id) hm in
        let ee : e ≡ entry_of x.answer l own = he ∙ ap (entry_of x.answer l) ec in
        let ew : w' ≡ worse_of w (turn_outcome x.answer (entry_of x.answer l own)) = hw ∙ ap (worse_of w) (ho ∙ ap (turn_outcome x.answer) ee) in
        let ef : f ≡ (ledger_after x.answer l own).fill = hf ∙ ap (fill_of l.fill) ee ∙ fill-after x.answer l own in
        let eL : L ≡ (ledger_after x.answer l own).bytes = hL ∙ ap (λ (y : Call). (ledger_after x.answer l y).bytes) ec in
        rw (ew, ef, eL) turn-own

-- under scratches as long as the one that the loop was lent: k at the tape's step, k' at the entry
pub turn-under : (t s store : List ℕ) (customer room k k' id p : ℕ) (x : Step) (w w' o : Outcome) (m L L' : List ℕ) (f f' : ℕ) (e : Result ℕ Fault)
    → k ≡ room → k' ≡ room → p < length s → x ≡ tape_step t s p (under store customer k) → m ≡ handed s p x.answer
    → e ≡ entry_of x.answer (lines L f) (call t m (under store customer k') id) → L' ≡ (ledger_after x.answer (lines L f) (call t m (under store customer k') id)).bytes
    → o ≡ turn_outcome x.answer e → w' ≡ worse_of w o → f' ≡ fill_of f e → Turn t s (under store customer room) id w (lines L f) p w' (lines L' f') x.next
turn-under t s store customer room k k' id p x w w' o m L L' f f' e hk hk' h q hm he hL ho hw hf =
    turn t s (under store customer room) id p h x (q ∙ ap (λ (n : ℕ). tape_step t s p (under store customer n)) hk) w (lines L f) m L' f' e o w' hm
    (he ∙ ap (λ (n : ℕ). entry_of x.answer (lines L f) (call t m (under store customer n) id)) hk')
    (hL ∙ ap (λ (n : ℕ). (ledger_after x.answer (lines L f) (call t m (under store customer n) id)).bytes) hk') ho hw hf

-- A refused table: one refusal where a byte is left, and no call.
pub fills-20 : (t s : List ℕ) (u : Under) (id : ℕ) (f : Fault) (l : Ledger) (r : Filled) → Err f ≡ table_verdict t
    → r.fill ≡ l.fill → r.outcome ≡ cond (eqb (length s) 0) Answered Refused → Fills l (answers_at t s u 0) (calls_at t s u id 0) r l.bytes
unfolding run ledger_outcome run_outcome
fills-20 t s u id f l r e h o =
    let none = calls-20 t s u id f e in
    record { bytes = rw none; fill = rw none h; outcome = rw none (o ∙ tape-20 t s u f e ∙ sym (worse-none (tape_outcome (answers_at t s u 0)))) }
