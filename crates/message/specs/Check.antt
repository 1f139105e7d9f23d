-- What the check's functions answer, and what they ask of their callers.
use Rattle.schema.specs.declared.Fault.{Fault}
use Rattle.std.specs.Prelude.{Ok, Err, Result, ◌≡◌, ℕ, ◌+◌, ◌-◌, ◌*◌, ◌/◌, ◌%◌, ◌^◌, ◌<◌, ◌≤◌, min, Bool, cond, ◌||◌, List, [], length, drop, replicate, ◌==◌, nat_le}
use Rattle.schema.specs.Faults.{need}
use Rattle.schema.specs.Schema.{Kind, Field, width}
use Rattle.schema.specs.Table.{schema}
use Rattle.schema.specs.Layout.{Layout}
use Rattle.settings.specs.declared.Ignored.{Ignored}
use Rattle.message.specs.Occupancy.{occupy, pads_zero, pads_before}
use Rattle.message.specs.Sheet.{kind_mark, field_mark}
use Rattle.message.specs.Walk.{Here, here, Reader, Inner, Place, lost, found, marked_r, kind_r, value_r, static_r, group_r}
use Rattle.message.specs.Count.{Count, failed, counted}
use Rattle.message.specs.declared.failure.Failure.{Failure}
use Rattle.message.specs.declared.Step.{Step}
use Rattle.message.specs.declared.Found.{Found}
use Rattle.message.specs.declared.Frame.{Frame}

-- RULES

-- The code keeps in one number how many levels are left below a group and, from 16 on, which faults are ignored.
unfoldable pub levels_in : ℕ → ℕ
levels_in n = n % 16

unfoldable pub ignored_in : ℕ → Ignored
ignored_in n = record { absent = n / 16 % 2 == 1; pads = nat_le 2 (n / 16 % 4); unused = nat_le 4 (n / 16) }

-- MARKS
-- The code keeps no occupancy of the values that stand one behind the other from the data area's start on, as most do: it knows where they end.
-- Until a value stands elsewhere the scratch is not looked at.

-- What is taken, as one number: where the packed values end, with 2^17 added once a value stood elsewhere.
unfoldable pub packed : ℕ → ℕ
packed s = s % 131072

unfoldable pub scattered : ℕ → Bool
scattered s = nat_le 131072 s

-- The occupancy of a group with its data area at a, where s is taken and the scratch is m.
unfoldable pub occupancy_of : ℕ → ℕ → List ℕ → List ℕ
occupancy_of a s m = occupy a (min (packed s) (length m) - a) (cond (scattered s) m (replicate (length m) 0))

-- ANSWERS

-- The answer of a step of the walk; F gives the occupancy of what is taken.
unfoldable pub count_by : (ℕ → List ℕ) → Result Step Failure → Count
count_by F (Ok s) = counted s.length (F s.taken)
count_by F (Err f) = failed f.number f.place

-- The whole walk's answer, with occupancy m.
unfoldable pub count_of : Result ℕ Fault → List ℕ → Count
count_of (Ok k) m = counted k m
count_of (Err f) m = failed f.number f.place

-- A count that goes on behind a sheet of k bytes. The code adds in 64 bits; a sheet is at most eleven times as long as its message, so nothing is cut off.
unfoldable pub after : ℕ → Count → Count
after k (failed n p) = failed n p
after k (counted j m) = counted ((k + j) % 2 ^ 64) m

-- Where an offset leads.
unfoldable pub place_by : (ℕ → List ℕ) → Result Found Failure → Place
place_by F (Ok f) = found f.place f.count (F f.taken)
place_by F (Err f) = lost f.number f.place

-- A value of k bytes at p that was claimed, with the word n, is taken.
pub record Claims (F : ℕ → List ℕ) (p n k : ℕ) (f : Found) : Type 0 where
  pub place : f.place ≡ p
  pub word : f.count ≡ n
  pub taken : occupy p k (F f.taken) ≡ F f.taken

-- A value that was found has a count of four bytes, lies in the bytes b, and is taken.
pub record Lands (F : ℕ → List ℕ) (w : ℕ) (b : List ℕ) (f : Found) : Type 0 where
  pub four : f.count < 2 ^ 32
  pub inside : f.place + (4 + f.count * w) ≤ length b
  pub taken : occupy f.place (4 + f.count * w) (F f.taken) ≡ F f.taken

-- What comes behind a group's fields and its extension: "6", and the group's end mark.
unfoldable pub closing : Here → List ℕ → Count
closing h m =
    let x : List ℕ = drop h.area m in
    let y : List ℕ = drop h.area h.bytes in
    need (h.ignored.pads || pads_zero x y) (failed 6 (h.base + h.area + pads_before x y)) (counted 2 [])

-- READERS, AS THE CODE CALLS THEM

abbrev pub within : List ℕ → Frame → Here
within b f = here (ignored_in f.rules) b f.base f.area

-- An item with its mark; a field's value with its mark.
abbrev pub item_r : Inner → (ℕ → Reader) → Kind → Reader
item_r I S k = marked_r (kind_mark k) (kind_r I S k)

abbrev pub marked_value_r : Inner → (ℕ → ℕ) → (ℕ → Reader) → Field → Reader
marked_value_r I sw S f = marked_r (field_mark f) (value_r I sw S f)

-- The groups of the table t where x is ignored, with so many levels left, and static groups in them.
abbrev pub inner_of : Ignored → List ℕ → ℕ → Inner
inner_of x t levels = group_r x (schema t) levels

abbrev pub width_of : List ℕ → ℕ → ℕ → ℕ
width_of t d = width (schema t) d

abbrev pub static_of : Ignored → List ℕ → ℕ → ℕ → ℕ → Reader
static_of x t levels d = static_r (schema t) (inner_of x t levels) d

-- WHAT CALLERS SHOW

-- k is the index of the table t; the scratch m is that of the group's bytes b, whose fields stand before the data area.
pub record Ready (t k b m : List ℕ) (f : Frame) : Type 0 where
  pub layout : Layout t k
  pub same : length m ≡ length b
  pub small : f.base + length b ≤ 65536
  pub room : f.area ≤ length b
