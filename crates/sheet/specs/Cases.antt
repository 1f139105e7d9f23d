-- Document 004's ten messages that conform stand in document 01's writing order: each is, byte for byte, what its own sheet makes.
use Rattle.std.specs.Prelude.{◌≡◌, refl, List, [], ◌∷◌, ℕ}
use Rattle.wire.specs.Bytes.{le, bytes_of, same}
use Rattle.wire.specs.Utf8.{after, begins, follow, text_from, is_valid, utf8}
use Rattle.schema.specs.Faults.{need}
use Rattle.schema.specs.Schema.{Group, passes, text_ok, kind_width, value_width, field_width, fields_width, fields_of, super_of, width, find, known, under, allows}
use Rattle.schema.specs.Table.{group_marked, scalar_width, kind_of, field_at, fields_at, group_at, enums_from, groups_from, enums, schema}
use Rattle.message.specs.Sheet.{mark_bytes, kind_mark, field_mark}
use Rattle.message.specs.Walk.{Reading, refused, done}
use Rattle.meaning.specs.Cases.{Case, cases}
use Rattle.sheet.specs.Written.{wrote, headed, joined, next_w, placed, grab, due, none_w, then_w, marked_w, optional_w, plain_w, counted, inline_w, indirect_w, text_b, inner_b, items_w, list_b, kind_w, value_w, field_w, fields_w, static_w, extending_b, extension_w, swapped, back_w, behind_w, closed, body_w, head_w, group_w, ended, sheet_w}

-- By the message's reading: one that is refused has no sheet.
abbrev pub MadeOf : List Group → Reading → List ℕ → Type 0
MadeOf gs (done s m) b = sheet_w gs s ≡ wrote b [] []
MadeOf gs (refused n p) b = Unit

abbrev pub EachMade : List Case → Type 0
EachMade [] = Unit
EachMade (c ∷ cs) = MadeOf (schema c.table) c.reading c.message × EachMade cs

pub ten-made : EachMade cases
unfolding le bytes_of same after begins follow text_from is_valid utf8 need passes text_ok kind_width value_width field_width fields_width fields_of super_of width find known under allows group_marked scalar_width kind_of field_at fields_at group_at enums_from groups_from enums schema mark_bytes kind_mark field_mark headed joined next_w placed grab due none_w then_w marked_w optional_w plain_w counted inline_w indirect_w text_b inner_b items_w list_b kind_w value_w field_w fields_w static_w extending_b extension_w swapped back_w behind_w closed body_w head_w group_w ended sheet_w
ten-made = (refl, (refl, (refl, (refl, (refl, (refl, (refl, (refl, (refl, (refl, (tt, (tt, tt))))))))))))
