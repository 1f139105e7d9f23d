-- The records of a sheet as the printer goes through them, and the groups that are open.
use Rattle.std.specs.Prelude.{Bool, true, false, cond, ◌&&◌, Option, None, Some, List, ℕ, zero, suc, ◌+◌, ◌-◌, slice_index_or, slice_set, drop, leb, ltb, eqb}
use Rattle.wire.specs.Bytes.{part, le, same}
use Rattle.schema.specs.Table.{field_count, field_type, field_size, reference, scalar_width}
use Rattle.message.specs.Sheet.{GB, VA, ST, SQ, SG, XT, XU, mark_bytes, NO, GE}
use Rattle.rows.specs.Rows.{place_of, place_named}
use Rattle.showing.specs.declared.Frame.{Frame}
use Rattle.showing.specs.declared.Open.{Open}
use Rattle.showing.specs.declared.Record.{Record}
use Rattle.showing.specs.declared.Record.TheVariants.{Group, End, Value, Bytes, Sequence, Static, Absent, Extension, Unknown}

-- RECORDS

-- What a record is, by its mark.
unfoldable pub kind_of : List ℕ → Option Record
kind_of m =
    cond (same m (mark_bytes GB)) (Some Group)
    (cond (same m GE) (Some End)
    (cond (same m (mark_bytes VA)) (Some Value)
    (cond (same m (mark_bytes ST)) (Some Bytes)
    (cond (same m (mark_bytes SQ)) (Some Sequence)
    (cond (same m (mark_bytes SG)) (Some Static)
    (cond (same m NO) (Some Absent)
    (cond (same m (mark_bytes XT)) (Some Extension)
    (cond (same m (mark_bytes XU)) (Some Unknown) None))))))))

-- How many bytes the value of a `VA` record has, by its field's record in the table: type 19 has its own width.
unfoldable pub value_length : List ℕ → ℕ
value_length t = cond (eqb (field_type t) 19) (field_size t) (scalar_width (field_type t))

-- How long a record is that stands first in s, and whose field has the record t in the table.
unfoldable pub record_length : List ℕ → List ℕ → Record → ℕ
record_length s t Group = 10
record_length s t End = 2
record_length s t Value = 2 + value_length t
record_length s t Bytes = 6 + le (part 4 2 s)
record_length s t Sequence = 6
record_length s t Static = 2
record_length s t Absent = 2
record_length s t Extension = 6
record_length s t Unknown = 6 + le (part 4 2 s)

-- FRAMES

-- That of a group at its first field.
abbrev pub opened : ℕ → ℕ → Bool → Frame
opened group fields static = record { group = group; fields = fields; field = 0; items = 0; item = 0; embedded = static }

-- That of an extension of n groups. A group has at most 64 fields, so that number 64 stands for its extension, a sequence.
abbrev pub extension_of : ℕ → Frame
extension_of n = record { group = 0; fields = 65; field = 64; items = n; item = 0; embedded = true }

-- That of the innermost of d groups; there is no group 0.
abbrev pub frame_at : List Frame → ℕ → Frame
frame_at fs d = slice_index_or fs d (opened 0 0 false)

-- Whether no record closes the group, and nothing of it is left.
abbrev pub is_done : Frame → Bool
is_done f = f.embedded && leb f.fields f.field

-- After the field, and after one more item.
unfoldable pub next_field : Frame → Frame
next_field f = cond (ltb f.field f.fields) (record f { field = f.field + 1; items = 0; item = 0 }) f

unfoldable pub advanced : Frame → Frame
advanced f = cond (ltb (f.item + 1) f.items) (record f { item = f.item + 1 }) (next_field f)

-- At the start of a sequence of n items.
unfoldable pub in_sequence : Frame → ℕ → Frame
in_sequence f n = cond (eqb n 0) (advanced f) (record f { items = n; item = 0 })

-- After a record.
unfoldable pub after : List ℕ → Record → Frame → Frame
after s Group f = advanced f
after s End f = f
after s Value f = advanced f
after s Bytes f = advanced f
after s Sequence f = in_sequence f (le (part 4 2 s))
after s Static f = advanced f
after s Absent f = advanced f
after s Extension f = f
after s Unknown f = advanced f

-- How many of d groups are open once the innermost static groups and extensions with nothing left are closed.
unfoldable pub closed : List Frame → ℕ → ℕ
closed fs zero = 0
closed fs (suc d) = cond (is_done (frame_at fs (suc d))) (closed fs d) (suc d)

-- OPEN GROUPS

-- One more, with this frame.
abbrev pub pushed : Frame → Open → Open
pushed f o = record { depth = o.depth + 1; frames = slice_set o.frames (o.depth + 1) f }

-- One more is, whose record stands at p.
abbrev pub entered : List ℕ → ℕ → Bool → Open → Open
entered t p embedded o = pushed (opened p (field_count (drop p t)) embedded) o

-- After a record, as it opens or closes one.
unfoldable pub stepped : List ℕ → List ℕ → List ℕ → Record → Open → Open
stepped t s r Group o = entered t (place_named t (le (part 8 2 s))) false o
stepped t s r End o = record o { depth = o.depth - 1 }
stepped t s r Value o = o
stepped t s r Bytes o = o
stepped t s r Sequence o = o
stepped t s r Static o = entered t (place_of t (reference r)) true o
stepped t s r Absent o = o
stepped t s r Extension o = pushed (extension_of (le (part 4 2 s))) o
stepped t s r Unknown o = o
