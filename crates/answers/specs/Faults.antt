-- What the command itself works out of an answer.
use Rattle.schema.specs.declared.Fault.{Fault}
use Rattle.schema.specs.Faults.{Verdict}
use Rattle.std.specs.Prelude.{Ok, Err, Result, Bool, cond, ◌&&◌, ◌||◌, List, ℕ, leb, eqb}
use Rattle.reading.specs.declared.Number.{Number}
use Rattle.opening.specs.Opening.{Under}
use Rattle.codec.specs.Answers.{number_answer, bytes_verdict}

unfoldable pub between : ℕ → ℕ → ℕ → Bool
between low high n = leb low n && leb n high

-- Whether a fault's place is no byte to look at: it is 0 and says nothing.
unfoldable pub placeless : ℕ → Bool
placeless n = between 20 23 n || between 28 30 n || eqb n 42 || between 46 48 n || eqb n 51 || eqb n 59

-- A field that is no number is asked for as bytes: "48 other kind".
unfoldable pub or_bytes : Result Number Fault → Verdict → Verdict
or_bytes (Err f) v = cond (eqb f.number 48) v (Err f)
or_bytes (Ok n) v = Ok tt

-- Why a field has no value to print.
abbrev pub field_verdict : List ℕ → List ℕ → Under → ℕ → ℕ → Verdict
field_verdict t b u field item = or_bytes (number_answer t b u field item) (bytes_verdict t b u field item)
