-- "a ledger line made only from a message that passed", of a tape's messages in a ledger.
use Rattle.std.specs.Prelude.{Ok, ◌≡◌, List, [], ◌∷◌, ℕ, ◌+◌, ◌*◌, length}
use Rattle.opening.specs.Opening.{Under, message_verdict}
use Rattle.tape.specs.Tape.{tape_answers}
use Rattle.answers.specs.declared.outcome.Outcome.TheVariants.{Failed}
use Rattle.ledger.specs.Ledger.{Call, Ledger, run, lines_of}
use Rattle.ledgers.specs.Entries.{calls, ledger_outcome}

-- Each of these calls is for a message that is accepted.
unfoldable pub Passed : List Call → Type 0
Passed [] = Unit
Passed (c ∷ cs) = (message_verdict c.table c.message c.reads ≡ Ok tt) × Passed cs

pub record EntryClaims (t tape : List ℕ) (u : Under) (id : ℕ) : Type 0 where
  pub passed : Passed (calls t tape u id)
  -- all of the lines or none: where the outcome is not Failed, and then alone the ledger is saved, every line is in
  pub none-lost : (s : Ledger) → (ledger_outcome s (tape_answers t tape u) (calls t tape u id) ≡ Failed → ⊥) → (run s (calls t tape u id)).fill ≡ s.fill + 64 * length (lines_of (calls t tape u id))
