-- What the functions that read a sheet answer, and what they ask of their callers.
use Rattle.std.specs.Prelude.{Ok, Err, Result, ◌≡◌, true, cond, List, [], ℕ, ◌+◌, ◌<◌, ◌≤◌, length, take, drop, leb, eqb}
use Rattle.wire.specs.Bytes.{part, le, same}
use Rattle.schema.specs.Faults.{fault_at, need}
use Rattle.schema.specs.Schema.{shallow}
use Rattle.schema.specs.Table.{schema}
use Rattle.schema.specs.declared.Fault.{Fault}
use Rattle.schema.specs.declared.Scope.{Scope}
use Rattle.schema.specs.declared.Scope.TheVariants.{Whole, Fields}
use Rattle.message.specs.Sheet.{GB, GE}
use Rattle.sheet.specs.Written.{Writing, stopped, wrote, Writer, due, none_w, then_w, marked_w}
use Rattle.sheet.specs.Show.{takes}
use Rattle.sheet.specs.Writers.{static_of, nested_of, extension_of}
use Rattle.parsing.specs.Count.{Count, failed, counted, count, capped, after}
use Rattle.parsing.specs.declared.Step.{Step}
use Rattle.parsing.specs.declared.Opened.{Opened}

-- ANSWERS

-- The answer of a whole sheet: the first fault, or the message's length, which is exact up to 65,536.
unfoldable pub parsed_of : Writing → Result ℕ Fault
parsed_of (stopped k p) = Err (fault_at k p)
parsed_of (wrote X D r) = Ok (capped (length X))

-- A step that passed, with where the next record begins and the count; and one that found a fault.
abbrev pub passed : ℕ → ℕ → Result Step Fault
passed next e = Ok (record { next = next; length = e })

abbrev pub refused : ℕ → ℕ → Result Step Fault
refused k p = Err (fault_at k p)

-- What a step of the pass over the sheet s found.
unfoldable pub found : List ℕ → Result Step Fault → Count
found s (Ok v) = counted v.length v.next (drop v.next s)
found s (Err f) = failed f.number f.place

-- c is what W makes of the sheet s from pos on, counted on from d. It does not depend on where W writes.
abbrev pub Counts : List ℕ → ℕ → Writer → ℕ → Count → Type 0
Counts s d W pos c = (at fr : ℕ) → c ≡ after d (count (length s) (W at fr (drop pos s)))

abbrev pub Finds : List ℕ → ℕ → Writer → ℕ → Result Step Fault → Type 0
Finds s d W pos v = Counts s d W pos (found s v)

-- RECORDS
-- "40 on the mark, 41, 40 on the rest", or 0: s begins with the record

-- a mark and n bytes
unfoldable pub record_fault : List ℕ → ℕ → List ℕ → ℕ
record_fault k n s =
    need (leb 2 (length s)) 40
    (need (same (take 2 s) k) 41
    (need (leb (2 + n) (length s)) 40 0))

-- a mark, a count, and so many bytes
unfoldable pub counted_fault : List ℕ → List ℕ → ℕ
counted_fault k s = cond (eqb (record_fault k 4 s) 0) (need (leb (6 + le (part 4 2 s)) (length s)) 40 0) (record_fault k 4 s)

-- WRITERS, AS THE CODE CALLS THEM

-- "`GE` closes it"
unfoldable pub end_w : Writer
end_w at fr s = due GE s (λ r. wrote [] [] r)

-- a dynamic group with its mark
abbrev pub opened_of : List ℕ → ℕ → ℕ → Writer
opened_of t levels allowed = marked_w GB (nested_of t levels allowed)

-- a group by its scope, and what stands behind its fields: "`SG` opens a static group and no record closes it"
unfoldable pub group_of : List ℕ → ℕ → ℕ → Scope → Writer
group_of t levels depth (Whole a) = opened_of t levels a
group_of t levels depth (Fields g) = static_of t levels depth g

unfoldable pub close_of : List ℕ → ℕ → Scope → Writer
close_of t levels (Whole a) = then_w 4 (extension_of t levels) end_w
close_of t levels (Fields g) = none_w

-- WHAT CALLERS SHOW

-- pos is a place of the sheet s, and d a count.
pub record Ready (s : List ℕ) (pos d : ℕ) : Type 0 where
  pub small : length s ≤ 1048576
  pub inside : pos ≤ length s
  pub low : d ≤ 65537

-- g is a group of the table t whose static depth is below this one.
abbrev pub Shallow : List ℕ → ℕ → ℕ → Type 0
Shallow t depth g = (g < length (schema t)) × (shallow (schema t) depth g ≡ true)

-- The depth that a group is read at. "35 .. static depth over 4": so 5 serves for any.
unfoldable pub Within : List ℕ → ℕ → Scope → Type 0
Within t depth (Whole a) = depth ≡ 5
Within t depth (Fields g) = Shallow t depth g

-- A GROUP THAT IS OPENED

abbrev pub opened : ℕ → ℕ → ℕ → ℕ → Opened
opened g l next e = record { group = g; levels = l; place = next; length = e }

-- The group's fields come next. A fault in them is the group's, and where there is none the group goes on with what closes it.
pub record Opening (t s : List ℕ) (levels depth : ℕ) (scope : Scope) (pos d : ℕ) (o : Opened) : Type 0 where
  pub ready : Ready s o.place o.length
  pub shallows : Shallow t depth o.group
  pub lower : o.levels + takes scope ≡ levels
  pub stops : (f : Fault) → Finds s o.length (static_of t o.levels depth o.group) o.place (Err f) → Finds s d (group_of t levels depth scope) pos (Err f)
  pub goes : (v : Step) → Finds s o.length (static_of t o.levels depth o.group) o.place (Ok v)
      → (c : Count) → Counts s v.length (close_of t o.levels scope) v.next c → Counts s d (group_of t levels depth scope) pos c

-- What opening the group finds: the group, or its fault.
abbrev pub Opens : List ℕ → List ℕ → ℕ → ℕ → Scope → ℕ → ℕ → Result Opened Fault → Type 0
Opens t s levels depth scope pos d (Ok o) = Opening t s levels depth scope pos d o
Opens t s levels depth scope pos d (Err f) = Finds s d (group_of t levels depth scope) pos (Err f)
