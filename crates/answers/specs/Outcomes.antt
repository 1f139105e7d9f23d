-- What the exit status says of an answer.
use Rattle.schema.specs.Faults.{Verdict}
use Rattle.std.specs.Prelude.{Ok, Err, ℤ, pos}
use Rattle.answers.specs.declared.outcome.Outcome.{Outcome}
use Rattle.answers.specs.declared.outcome.Outcome.TheVariants.{Answered, Refused, Failed}

unfoldable pub status_of : Outcome → ℤ
status_of Answered = pos 0
status_of Refused = pos 1
status_of Failed = pos 2

unfoldable pub outcome_of : Verdict → Outcome
outcome_of (Ok _) = Answered
outcome_of (Err f) = Refused

-- Of several answers: an error, or else a refusal, or else none.
unfoldable pub worse_of : Outcome → Outcome → Outcome
worse_of Answered b = b
worse_of Refused Answered = Refused
worse_of Refused Refused = Refused
worse_of Refused Failed = Failed
worse_of Failed b = Failed
