-- The sheet's records. The sheet is document 01's word for a message's meaning, written out: "records in field order, a two-byte mark before each record".
use Rattle.std.specs.Prelude.{ℕ, cond, List, [], ◌∷◌}
use Rattle.schema.specs.Schema.{Kind, plain, inline, indirect, static, dynamic, Field}

-- The marks of the records that hold something: a value, a text, a static group, a sequence, a group, an extension, an extension group of unknown type.
pub data Mark : Type 0 where
  VA ST SG SQ GB XT XU : Mark

unfoldable pub mark_bytes : Mark → List ℕ
mark_bytes VA = 86 ∷ (65 ∷ [])
mark_bytes ST = 83 ∷ (84 ∷ [])
mark_bytes SG = 83 ∷ (71 ∷ [])
mark_bytes SQ = 83 ∷ (81 ∷ [])
mark_bytes GB = 71 ∷ (66 ∷ [])
mark_bytes XT = 88 ∷ (84 ∷ [])
mark_bytes XU = 88 ∷ (85 ∷ [])

-- "`NO` is an absent field", and `GE` closes a group.
abbrev pub NO : List ℕ
NO = 78 ∷ (79 ∷ [])

abbrev pub GE : List ℕ
GE = 71 ∷ (69 ∷ [])

-- "`VA` and the wire bytes: types 1..16, 19, 20. `ST` count u32 and bytes: 17, 18." "`SG` opens a static group", "`GB` type id u64 opens a group".
unfoldable pub kind_mark : Kind → Mark
kind_mark (plain w t) = VA
kind_mark (inline u c) = ST
kind_mark (indirect u) = ST
kind_mark (static g) = SG
kind_mark (dynamic g) = GB

-- "`SQ` count u32, then the items"
unfoldable pub field_mark : Field → Mark
field_mark f = cond f.sequence SQ (kind_mark f.kind)
