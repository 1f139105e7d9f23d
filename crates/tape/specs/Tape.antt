-- A tape: "The stations store messages end to end." What its reader answers at a place of it, and of the whole tape.
use Rattle.std.specs.Prelude.{Ok, Err, Some, None, Option, ◌≡◌, Bool, cond, ◌&&◌, List, [], ◌∷◌, ◌++◌, ℕ, zero, suc, ◌+◌, length, leb}
use Rattle.wire.specs.Bytes.{part, le}
use Rattle.schema.specs.Faults.{Verdict, fault_at, need}
use Rattle.schema.specs.Table.{table_verdict}
use Rattle.opening.specs.Opening.{accepted, Under, message_verdict, scratch_after}
use Rattle.tape.specs.declared.Step.{Step}

-- What the reader says of the next message; nothing at the tape's end.
abbrev pub Answer : Type 0
Answer = Option Verdict

-- ONE STEP

-- How long the message at a place is, by its size word.
abbrev pub span_at : List ℕ → ℕ → ℕ
span_at tape at = 4 + le (part 4 at tape)

-- Whether a whole message stands there. Else it is a cut tail: "1 to 3 are left, or the size passes the tape's end".
unfoldable pub whole : List ℕ → ℕ → Bool
whole tape at = leb (at + 4) (length tape) && leb (at + span_at tape at) (length tape)

-- Where it ends; nothing where it is cut off.
unfoldable pub end_of : List ℕ → ℕ → Option ℕ
end_of tape at = cond (whole tape at) (Some (at + span_at tape at)) None

-- Its bytes.
abbrev pub message_at : List ℕ → ℕ → List ℕ
message_at tape at = part (span_at tape at) at tape

abbrev pub step_to : Answer → ℕ → Step
step_to answer next = record { answer = answer; next = next }

-- What the reader answers at a place of the tape, and the place where it goes on.
-- "With no bytes left the tape ends without a refusal; once ended, none are left." "Where bytes are left, 20 comes first and ends the tape, then that 22."
-- "If 1 to 3 are left, or the size passes the tape's end, answer 22 with the place on the tape where it starts, scratch untouched, and end."
-- "A refused message is passed over by its size word." "Other places count from the message's start."
unfoldable pub tape_step : List ℕ → List ℕ → ℕ → Under → Step
tape_step t tape at u =
    cond (leb (length tape) at) (step_to None at)
    (need (accepted (table_verdict t)) (step_to (Some (Err (fault_at 20 0))) (length tape))
    (need (whole tape at) (step_to (Some (Err (fault_at 22 at))) (length tape))
    (step_to (Some (message_verdict t (message_at tape at) u)) (at + span_at tape at))))

-- The scratch s afterwards: as the message's check leaves it, where there is a whole message.
unfoldable pub tape_scratch : List ℕ → List ℕ → List ℕ → ℕ → List ℕ → List ℕ
tape_scratch t store tape at s = cond (whole tape at) (scratch_after t store (message_at tape at) s) s

-- "hands out the next message's own bytes (the empty part if refused)", and where in the tape that part starts.
unfoldable pub handed : List ℕ → ℕ → Answer → List ℕ
handed tape at None = []
handed tape at (Some (Ok _)) = cond (whole tape at) (message_at tape at) []
handed tape at (Some (Err f)) = []

unfoldable pub handed_from : List ℕ → ℕ → Answer → ℕ
handed_from tape at None = 0
handed_from tape at (Some (Ok _)) = cond (whole tape at) at 0
handed_from tape at (Some (Err f)) = 0

-- THE WHOLE TAPE

-- An answer of a message, before those of the rest; none where the tape ended.
unfoldable pub before : Answer → List Answer → List Answer
before None xs = []
before (Some v) xs = Some v ∷ xs

-- The answers from a place on, of at most n messages.
unfoldable pub answers_from : ℕ → List ℕ → List ℕ → Under → ℕ → List Answer
answers_from zero t tape u at = []
answers_from (suc n) t tape u at = before (tape_step t tape at u).answer (answers_from n t tape u (tape_step t tape at u).next)

-- All of them. Each message takes four bytes or more, a cut tail one or more, so there are no more than bytes.
unfoldable pub answers_at : List ℕ → List ℕ → Under → ℕ → List Answer
answers_at t tape u at = answers_from (length tape) t tape u at

-- The answers of the whole tape.
abbrev pub tape_answers : List ℕ → List ℕ → Under → List Answer
tape_answers t tape u = answers_at t tape u 0

-- MESSAGES END TO END

-- A tape of these messages, "end to end".
unfoldable pub joined : List (List ℕ) → List ℕ
joined [] = []
joined (b ∷ bs) = b ++ joined bs

-- Each of them is as long as 4 + its size word.
unfoldable pub Measured : List (List ℕ) → Type 0
Measured [] = Unit
Measured (b ∷ bs) = (length b ≡ span_at b 0) × Measured bs

-- Each message's own check answer.
unfoldable pub own_answers : List ℕ → Under → List (List ℕ) → List Answer
own_answers t u [] = []
own_answers t u (b ∷ bs) = Some (message_verdict t b u) ∷ own_answers t u bs

-- The answer of a cut tail that starts at a place; none where there is no tail.
unfoldable pub tail_answer : ℕ → List ℕ → List Answer
tail_answer at [] = []
tail_answer at (x ∷ rest) = Some (Err (fault_at 22 at)) ∷ []
