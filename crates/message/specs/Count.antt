-- A reading with the sheet left out and its length kept: what a check that writes no sheet finds.
use Rattle.std.specs.Prelude.{ℕ, ◌+◌, List, length}
use Rattle.message.specs.Walk.{Reading, refused, done}

pub data Count : Type 0 where
  failed : ℕ → ℕ → Count
  counted : ℕ → List ℕ → Count

unfoldable pub count : Reading → Count
count (refused n p) = failed n p
count (done s m) = counted (length s) m

-- With k bytes in front of the sheet.
unfoldable pub more : ℕ → Count → Count
more k (failed n p) = failed n p
more k (counted j m) = counted (k + j) m

-- One count and then, with the occupancy that it leaves, another.
unfoldable pub and_then : Count → (List ℕ → Count) → Count
and_then (failed n p) f = failed n p
and_then (counted k m) f = more k (f m)
