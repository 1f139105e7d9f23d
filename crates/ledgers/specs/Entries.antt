-- A tape's messages in a ledger: "a whole shift's tape read past its bad messages, and a ledger line made only from a message that passed".
use Rattle.schema.specs.declared.Fault.{Fault}
use Rattle.std.specs.Prelude.{Ok, Err, Some, None, Result, ◌≡◌, cond, List, [], ◌∷◌, ℕ, zero, suc, length, eqb}
use Rattle.opening.specs.Opening.{Under}
use Rattle.tape.specs.Tape.{Answer, tape_step, handed}
use Rattle.answers.specs.declared.outcome.Outcome.{Outcome}
use Rattle.answers.specs.declared.outcome.Outcome.TheVariants.{Answered, Refused, Failed}
use Rattle.answers.specs.Outcomes.{worse_of}
use Rattle.tapes.specs.Outcomes.{tape_outcome}
use Rattle.ledger.specs.Ledger.{Call, call, line_of, Ledger, enters, entered, run}
use Rattle.ledgers.specs.declared.Filled.{Filled}

-- THE CALLS

-- The call for a message, before those of the rest: none where it is refused, and none where the tape ended.
unfoldable pub call_before : Answer → Call → List Call → List Call
call_before None c cs = []
call_before (Some (Ok _)) c cs = c ∷ cs
call_before (Some (Err f)) c cs = cs

-- The calls for the accepted messages from a place on, each with the bytes that the tape's reader hands out; of at most n messages.
unfoldable pub calls_from : ℕ → List ℕ → List ℕ → Under → ℕ → ℕ → List Call
calls_from zero t tape u id at = []
calls_from (suc n) t tape u id at =
    call_before (tape_step t tape at u).answer (call t (handed tape at (tape_step t tape at u).answer) u id) (calls_from n t tape u id (tape_step t tape at u).next)

-- All of them: there are no more messages than bytes.
unfoldable pub calls_at : List ℕ → List ℕ → Under → ℕ → ℕ → List Call
calls_at t tape u id at = calls_from (length tape) t tape u id at

-- Those of the whole tape.
abbrev pub calls : List ℕ → List ℕ → Under → ℕ → List Call
calls t tape u id = calls_at t tape u id 0

-- ONE MESSAGE

-- What comes of a message with this answer of the tape, and the ledger afterwards: a refused one makes no line.
unfoldable pub entry_of : Answer → Ledger → Call → Result ℕ Fault
entry_of None s c = Ok s.fill
entry_of (Some (Ok _)) s c = enters s (line_of c)
entry_of (Some (Err f)) s c = Err f

unfoldable pub ledger_after : Answer → Ledger → Call → Ledger
ledger_after None s c = s
ledger_after (Some (Ok _)) s c = entered s (line_of c)
ledger_after (Some (Err f)) s c = s

unfoldable pub fill_of : ℕ → Result ℕ Fault → ℕ
fill_of fill (Ok n) = n
fill_of fill (Err f) = fill

-- OUTCOMES

-- No room for a line is worse than a message that makes none: then nothing is written.
unfoldable pub entry_outcome : Result ℕ Fault → Outcome
entry_outcome (Ok n) = Answered
entry_outcome (Err f) = cond (eqb f.number 56) Failed Refused

unfoldable pub turn_outcome : Answer → Result ℕ Fault → Outcome
turn_outcome None e = Answered
turn_outcome (Some (Ok _)) e = entry_outcome e
turn_outcome (Some (Err f)) e = Refused

-- Of a run of calls, "each given ledger and fill as the last left them".
unfoldable pub run_outcome : Ledger → List Call → Outcome
run_outcome s [] = Answered
run_outcome s (c ∷ cs) = worse_of (entry_outcome (enters s (line_of c))) (run_outcome (entered s (line_of c)) cs)

-- With the messages that the tape refuses.
unfoldable pub ledger_outcome : Ledger → List Answer → List Call → Outcome
ledger_outcome s answers cs = worse_of (tape_outcome answers) (run_outcome s cs)

-- A WHOLE TAPE

-- The ledger s is left with these bytes, and r is said of it, by a tape with these answers and calls.
pub record Fills (s : Ledger) (answers : List Answer) (cs : List Call) (r : Filled) (left : List ℕ) : Type 0 where
  pub bytes : left ≡ (run s cs).bytes
  pub fill : r.fill ≡ (run s cs).fill
  pub outcome : r.outcome ≡ ledger_outcome s answers cs
