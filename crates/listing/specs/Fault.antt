-- What a refused byte belongs to.
use Rattle.std.specs.Prelude.{Bool, cond, ◌||◌, ℕ, eqb}

-- "13 items run past the data area; 26, 27 value runs past the data area; byte already taken": the value has no room where its offset leads.
abbrev pub has_no_room : ℕ → Bool
has_no_room n = eqb n 13 || (eqb n 26 || eqb n 27)

-- Whatever has the byte there, such a value is what the walk was at. Any other byte is its own label's, or that of what the walk was at
-- where it has none.
unfoldable pub at_fault : ℕ → ℕ → ℕ → ℕ
at_fault number stop label = cond (eqb stop 0) label (cond (has_no_room number) stop (cond (eqb label 0) stop label))
