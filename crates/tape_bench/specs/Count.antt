-- How many messages are accepted.
use Rattle.tape.specs.Tape.{Answer}
use Rattle.std.specs.Prelude.{Ok, Err, Some, None, List, [], ◌∷◌, ℕ, ◌+◌}

abbrev pub one : Answer → ℕ
one None = 0
one (Some (Ok _)) = 1
one (Some (Err f)) = 0

unfoldable pub count_accepted : List Answer → ℕ
count_accepted [] = 0
count_accepted (x ∷ xs) = one x + count_accepted xs
