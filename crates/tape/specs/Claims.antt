-- What request 1 asks of the tape, sentence by sentence, over the definitions that the contracts cite. proofs/Claims.antt shows it of every
-- table t, tape s, settings store, customer and scratch.
use Rattle.schema.specs.Faults.{fault_at}
use Rattle.std.specs.Prelude.{Ok, Err, Some, None, ◌≡◌, true, false, List, [], ◌∷◌, ◌++◌, ℕ, ◌+◌, ◌<◌, ◌≤◌, length}
use Rattle.schema.specs.Table.{table_verdict}
use Rattle.opening.specs.Opening.{Under, message_verdict}
use Rattle.tape.specs.Tape.{whole, message_at, step_to, tape_step, tape_scratch, handed, answers_at, tape_answers, joined, Measured, own_answers, tail_answer}

-- The message b stands at p of the tape s.
pub record Stands (s : List ℕ) (p : ℕ) (b : List ℕ) : Type 0 where
  pub all : whole s p ≡ true
  pub bytes : message_at s p ≡ b

-- "The stations store messages end to end": the tape s is the messages bs, and behind them a cut tail c or nothing.
pub record Stored (s : List ℕ) (bs : List (List ℕ)) (c : List ℕ) : Type 0 where
  pub is : s ≡ joined bs ++ c
  pub measured : Measured bs
  pub cut : whole c 0 ≡ false

pub record TapeClaims (t s : List ℕ) (u : Under) : Type 0 where
  -- "hands out the next message's own bytes (the empty part if refused)"
  pub own-bytes : (p : ℕ) (b : List ℕ) → Stands s p b → (tape_step t s p u).answer ≡ Some (Ok tt) → handed s p (tape_step t s p u).answer ≡ b
  pub nothing : (p n q : ℕ) → (tape_step t s p u).answer ≡ Some (Err (fault_at n q)) → handed s p (tape_step t s p u).answer ≡ []
  -- "with its check answer"
  pub answer : (p : ℕ) (b : List ℕ) → Stands s p b → table_verdict t ≡ Ok tt → (tape_step t s p u).answer ≡ Some (message_verdict t b u)
  -- "A refused message is passed over by its size word", and so is an accepted one.
  pub passes : (p : ℕ) (b : List ℕ) → Stands s p b → table_verdict t ≡ Ok tt → (tape_step t s p u).next ≡ p + length b
  -- "With no bytes left the tape ends without a refusal; once ended, none are left": the reader stays where it is.
  pub ends : (p : ℕ) → length s ≤ p → tape_step t s p u ≡ step_to None p
  pub only_end : (p : ℕ) → (tape_step t s p u).answer ≡ None → length s ≤ p
  -- "If 1 to 3 are left, or the size passes the tape's end, answer 22 with the place on the tape where it starts, scratch untouched, and end."
  pub cut : (p : ℕ) → p < length s → table_verdict t ≡ Ok tt → whole s p ≡ false → tape_step t s p u ≡ step_to (Some (Err (fault_at 22 p))) (length s)
  pub cut-untouched : (p : ℕ) (room : List ℕ) → whole s p ≡ false → tape_scratch t u.store s p room ≡ room
  -- "Other places count from the message's start. Every answer but that 22 depends only on that message's bytes, the table and the scratch
  -- length", "on store and customer too": it is the same wherever the message stands, on any tape.
  pub anywhere : (s' : List ℕ) (p p' : ℕ) (b : List ℕ) → Stands s p b → Stands s' p' b → (tape_step t s p u).answer ≡ (tape_step t s' p' u).answer
  -- "Where bytes are left, 20 comes first and ends the tape, then that 22"
  pub table-first : (p n q : ℕ) → p < length s → table_verdict t ≡ Err (fault_at n q) → tape_step t s p u ≡ step_to (Some (Err (fault_at 20 0))) (length s)
  pub table-alone : (n q : ℕ) → 0 < length s → table_verdict t ≡ Err (fault_at n q) → tape_answers t s u ≡ Some (Err (fault_at 20 0)) ∷ []
  -- The reader always moves on, and never past the end; so its steps, one after the other, are the whole tape's answers.
  pub moves : (p : ℕ) → p < length s → (p < (tape_step t s p u).next) × ((tape_step t s p u).next ≤ length s)
  pub step-by-step : (p : ℕ) → p < length s → answers_at t s u p ≡ (tape_step t s p u).answer ∷ answers_at t s u (tape_step t s p u).next
  pub none_left : (p : ℕ) → length s ≤ p → answers_at t s u p ≡ []
  -- Every tape is messages end to end, and then a cut tail or nothing. The answers are each message's own, in order, and the tail's.
  pub stored : (bs : List (List ℕ)) × ((c : List ℕ) × Stored s bs c)
  pub end_to_end : (bs : List (List ℕ)) (c : List ℕ) → Stored s bs c → table_verdict t ≡ Ok tt → tape_answers t s u ≡ own_answers t u bs ++ tail_answer (length (joined bs)) c
  -- So one bad message b changes nothing of the others.
  pub others : (fs : List (List ℕ)) (b : List ℕ) (bs : List (List ℕ)) (c : List ℕ) → Stored s (fs ++ (b ∷ bs)) c → table_verdict t ≡ Ok tt
      → tape_answers t s u ≡ own_answers t u fs ++ (Some (message_verdict t b u) ∷ (own_answers t u bs ++ tail_answer (length (joined (fs ++ (b ∷ bs)))) c))
