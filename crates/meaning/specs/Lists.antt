-- "and its sheet then lists its values exactly": the records of the values that Conforms.antt judges, one for each, in their order, and nothing else.
use Rattle.std.specs.Prelude.{cond, List, [], ◌∷◌, ◌++◌, ℕ, zero, suc, ◌+◌, eqb}
use Rattle.wire.specs.Bytes.{part, le, bytes_of}
use Rattle.schema.specs.Schema.{Group, find, known}
use Rattle.message.specs.Sheet.{VA, ST, SG, SQ, GB, XT, XU, mark_bytes, NO, GE}
use Rattle.message.specs.Walk.{byte}
use Rattle.meaning.specs.Conforms.{Value, number, presence, inline_text, text, list, group, extension, extending, subgroup, target, count_at, values_of, type_id}

-- G gives a dynamic group's records behind its mark.
unfoldable pub record_of : (List ℕ → List ℕ) → List Group → List ℕ → Value → List ℕ
record_of G gs b (number w t at) = mark_bytes VA ++ part w at b
record_of G gs b (presence w at) = cond (eqb (byte at b) 1) [] NO
record_of G gs b (inline_text u c at) = mark_bytes ST ++ (bytes_of 4 (byte at b) ++ part (byte at b) (at + 1) b)
record_of G gs b (text u at) = mark_bytes ST ++ part (4 + count_at b at) (target b at) b
record_of G gs b (list w at) = mark_bytes SQ ++ part 4 (target b at) b
record_of G gs b (group g at) = mark_bytes GB ++ G (part (4 + count_at b at) (target b at) b)
record_of G gs b (extension at) = cond (eqb (count_at b at) 0) [] (mark_bytes XT ++ part 4 (target b at) b)
record_of G gs b (extending at) =
    cond (known gs (le (part 8 (target b at + 4) b))) (mark_bytes GB ++ G (part (4 + count_at b at) (target b at) b)) (mark_bytes XU ++ part (4 + count_at b at) (target b at) b)
record_of G gs b subgroup = mark_bytes SG

unfoldable pub records : (List ℕ → List ℕ) → List Group → List ℕ → List Value → List ℕ
records G gs b [] = []
records G gs b (v ∷ vs) = record_of G gs b v ++ records G gs b vs

-- "`GB` type id u64 opens a group, `GE` closes it"; so many levels are left.
unfoldable pub group_records : List Group → ℕ → List ℕ → List ℕ
group_records gs zero b = []
group_records gs (suc l) b = part 8 4 b ++ (records (group_records gs l) gs b (values_of gs (find gs (type_id b)) b) ++ GE)

unfoldable pub sheet_of : List Group → List ℕ → List ℕ
sheet_of gs b = mark_bytes GB ++ group_records gs 8 b
