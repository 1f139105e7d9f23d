-- Rewriting: message to sheet to message.
use Rattle.std.specs.Prelude.{List, [], ℕ, ◌*◌, ◌≤◌, length, leb}
use Rattle.schema.specs.Faults.{need}
use Rattle.schema.specs.Schema.{Group}
use Rattle.settings.specs.declared.Ignored.{Ignored}
use Rattle.message.specs.Walk.{Reading, refused, done, message_r}
use Rattle.sheet.specs.Written.{Writing, stopped, wrote, written}

-- How long the scratch, the sheet room and the output are.
pub record Rooms : Type 0 where
  pub scratch : ℕ
  pub sheet : ℕ
  pub output : ℕ

-- "46 when a message is turned into a sheet and the sheet room is too short, after the message's faults"
unfoldable pub sheet_in : ℕ → Reading → Writing
sheet_in room (refused n p) = stopped n p
sheet_in room (done s m) = need (leb (length s) room) (stopped 46 0) (wrote s [] [])

-- The message of the sheet that was written, for an output of this length.
unfoldable pub onward : List Group → ℕ → Writing → Writing
onward gs room (stopped n p) = stopped n p
onward gs room (wrote s D r) = written gs room s

-- "Rewriting checks the message, then 46, then 47"; what follows 20.
unfoldable pub rewritten : Ignored → List Group → Rooms → List ℕ → Writing
rewritten x gs rooms b = onward gs rooms.output (sheet_in rooms.sheet (message_r x gs rooms.scratch b))

-- "scratch at least as long as its message, sheet room at least eleven times that long and output at least that long"
pub record Enough (rooms : Rooms) (b : List ℕ) : Type 0 where
  pub scratch : length b ≤ rooms.scratch
  pub sheet : 11 * length b ≤ rooms.sheet
  pub output : length b ≤ rooms.output
