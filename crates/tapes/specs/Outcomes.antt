-- What the exit status says of a tape.
use Rattle.tape.specs.Tape.{Answer}
use Rattle.std.specs.Prelude.{Ok, Err, Some, None, List, [], ◌∷◌}
use Rattle.answers.specs.declared.outcome.Outcome.{Outcome}
use Rattle.answers.specs.declared.outcome.Outcome.TheVariants.{Answered, Refused}
use Rattle.answers.specs.Outcomes.{worse_of}

unfoldable pub answer_outcome : Answer → Outcome
answer_outcome None = Answered
answer_outcome (Some (Ok _)) = Answered
answer_outcome (Some (Err f)) = Refused

-- A refused message is not made good by those behind it.
unfoldable pub tape_outcome : List Answer → Outcome
tape_outcome [] = Answered
tape_outcome (a ∷ rest) = worse_of (answer_outcome a) (tape_outcome rest)
