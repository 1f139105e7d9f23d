-- What a pass over a sheet finds that writes nothing: the first fault, or how many bytes go into data areas.
-- The bytes in place need no count: their widths are the schema's.
use Rattle.std.specs.Prelude.{List, ℕ, ◌+◌, ◌-◌, min, length}
use Rattle.sheet.specs.Written.{Writing, stopped, wrote}

-- A fault's number and place; or how many bytes of data there are, where the next record begins, and the sheet from there on.
pub data Count : Type 0 where
  failed : ℕ → ℕ → Count
  counted : ℕ → ℕ → List ℕ → Count

-- n: the sheet's length.
unfoldable pub count : ℕ → Writing → Count
count n (stopped k left) = failed k (n - left)
count n (wrote F D r) = counted (length D) (n - length r) r

-- "47 when a message is written and it is longer than the output or 65,536": how much longer does not matter, so a count stops there.
unfoldable pub capped : ℕ → ℕ
capped n = min n 65537

-- A count that goes on behind d bytes.
unfoldable pub after : ℕ → Count → Count
after d (failed k p) = failed k p
after d (counted j p r) = counted (capped (d + j)) p r
