-- Blanks under a small table, and the lines that the definitions make of them.
use Rattle.std.specs.Prelude.{◌≡◌, refl, List, [], ◌∷◌, ◌++◌, ℕ, replicate}
use Rattle.wire.specs.Bytes.{le, bytes_of, same, all_zero, zeros, pattern}
use Rattle.wire.specs.Utf8.{after, begins, follow, lowest, highest, text_from, is_valid, utf8}
use Rattle.schema.specs.Faults.{need, also}
use Rattle.schema.specs.Schema.{member, passes, test_fault, text_ok, kind_width, value_width, field_width, fields_width, fields_of, super_of, width, shallow_kind, shallow_fields, shallow, find, known, under, allows}
use Rattle.schema.specs.Symbols.{rank}
use Rattle.schema.specs.Table.{group_marked, scalar_width, kind_of, field_at, fields_at, values_at, group_at, enums_from, groups_from, places_from, enums, schema, places, is_enum, is_group, is_due, due_after, shape_from, shape_verdict, enum_verdict, symbol_verdict, group_verdict, size_ok, reference_ok, field_verdict, record_verdict, records_from, records_verdict, any_id, id_verdict, each_group, in_bounds, widths_verdict, begins_with, inherits, supers_verdict, stores_own, stored_verdict, table_verdict}
use Rattle.schema.specs.Cases.{group, field}
use Rattle.message.specs.Occupancy.{free, occupy, pads_zero, pads_before}
use Rattle.message.specs.Sheet.{mark_bytes, kind_mark, field_mark}
use Rattle.message.specs.Walk.{prefixed, next, none_r, then_r, marked_r, optional_r, plain_r, inline_r, in_area, locate, onward, indirect_r, text_r, inner_r, items_r, list_r, kind_r, value_r, field_r, fields_r, static_r, extending_r, groups_r, extension_r, extension_in, behind_r, padded, body_r, head_r, group_r, walk}
use Rattle.settings.specs.Store.{last_of, run, records, sound, ignored_by, governing}
use Rattle.opening.specs.Opening.{accepted, message_reading, verdict_of, message_verdict}
use Rattle.fields.specs.Fields.{signature_of, has_under, has_after, has_fields}
use Rattle.reading.specs.Item.{sequence_item, value_item, absent, value_place, field_item, item_from, item_of}
use Rattle.reading.specs.Number.{number_width, number_of, number_at}
use Rattle.reading.specs.Part.{part_of, part_at, bytes_in}
use Rattle.codec.specs.Answers.{number_answer, part_answer, message_type}
use Rattle.ledger.specs.Ledger.{word_of, Line, unfit, line, call, line_from, line_under, line_of}

-- An enumeration of the one symbol -2, and a group as Blank is, but for the barcode's size and the type in the grade's place.
abbrev table_of : ℕ → ℕ → List ℕ
table_of size grade =
    (0x45 ∷ 0x4e ∷ 1 ∷ 0 ∷ 0 ∷ 0 ∷ 0 ∷ 0 ∷ 0 ∷ 0 ∷ 0 ∷ 0 ∷ 0 ∷ 0 ∷ 0 ∷ 0 ∷ 0x53 ∷ 0x59 ∷ 0xfe ∷ 0xff ∷ 0xff ∷ 0xff ∷ 0 ∷ 0 ∷ 0 ∷ 0 ∷ 0 ∷ 0 ∷ 0 ∷ 0 ∷ 0 ∷ 0 ∷ [])
    ++ (group 1 0 5 ++ (field 17 0 0 size 0 ++ (field 5 0 0 0 0 ++ (field 5 0 0 0 0 ++ (field grade 0 0 0 0 ++ field 17 1 0 0 0)))))

-- Density 2650, speed 5728, a grade, and no note.
abbrev rest : ℕ → List ℕ
rest grade = 0x5a ∷ 0x0a ∷ 0 ∷ 0 ∷ 0x60 ∷ 0x16 ∷ 0 ∷ 0 ∷ grade ∷ 0xff ∷ 0xff ∷ 0xff ∷ 0 ∷ 0 ∷ 0 ∷ 0 ∷ 0 ∷ []

-- Size, type id 1 and no extension; the first four bytes of the fields, and what stands behind these.
abbrev message_of : ℕ → List ℕ → List ℕ → List ℕ
message_of size barcode behind = (size ∷ 0 ∷ 0 ∷ 0 ∷ 1 ∷ 0 ∷ 0 ∷ 0 ∷ 0 ∷ 0 ∷ 0 ∷ 0 ∷ 0 ∷ 0 ∷ 0 ∷ 0 ∷ []) ++ (barcode ++ behind)

-- The barcode `A1`, in the data area and in place, and one of no bytes.
abbrev blank : ℕ → List ℕ
blank grade = message_of 39 (21 ∷ 0 ∷ 0 ∷ 0 ∷ []) (rest grade ++ (2 ∷ 0 ∷ 0 ∷ 0 ∷ 0x41 ∷ 0x31 ∷ []))

abbrev inline_blank : List ℕ
inline_blank = message_of 33 (2 ∷ 0x41 ∷ 0x31 ∷ 0 ∷ []) (rest 0xfe)

abbrev no_barcode : List ℕ
no_barcode = message_of 37 (21 ∷ 0 ∷ 0 ∷ 0 ∷ []) (rest 0xfe ++ (0 ∷ 0 ∷ 0 ∷ 0 ∷ []))

-- With no settings and a scratch of 64 bytes, by the type id that is named.
abbrev line_of_blank : List ℕ → List ℕ → ℕ → Line
line_of_blank t b id = line_of (call t b (record { store = []; customer = 0; scratch = 64 }) id)

abbrev its_line : List ℕ
its_line =
    (0x4c ∷ 0x42 ∷ 2 ∷ 0x41 ∷ 0x31 ∷ []) ++ (replicate 38 0
    ++ ((0x5a ∷ 0x0a ∷ 0 ∷ 0 ∷ 0x60 ∷ 0x16 ∷ 0 ∷ 0 ∷ 0xfe ∷ 0xff ∷ 0xff ∷ 0xff ∷ []) ++ replicate 9 0))

pub record Cases : Type 0 where
  pub its-line : line_of_blank (table_of 0 20) (blank 0xfe) 1 ≡ line its_line
  pub inline : line_of_blank (table_of 3 20) inline_blank 1 ≡ line its_line
  pub own-number : line_of_blank (table_of 0 20) (blank 0xfd) 2 ≡ unfit 10 28
  pub another-type : line_of_blank (table_of 0 20) (blank 0xfe) 2 ≡ unfit 54 0
  pub other-fields : line_of_blank (table_of 0 6) (blank 0xfe) 1 ≡ unfit 54 0
  pub no-barcode : line_of_blank (table_of 0 20) no_barcode 1 ≡ unfit 55 0

pub cases : Cases
unfolding le bytes_of same all_zero zeros after begins follow lowest highest text_from is_valid utf8 need also member passes test_fault text_ok kind_width value_width field_width fields_width fields_of super_of width shallow_kind shallow_fields shallow find known under allows group_marked scalar_width kind_of field_at fields_at values_at group_at enums_from groups_from places_from enums schema places is_enum is_group is_due due_after shape_from shape_verdict rank enum_verdict symbol_verdict group_verdict size_ok reference_ok field_verdict record_verdict records_from records_verdict any_id id_verdict each_group in_bounds widths_verdict begins_with inherits supers_verdict stores_own stored_verdict table_verdict free occupy pads_zero pads_before mark_bytes kind_mark field_mark prefixed next none_r then_r marked_r optional_r plain_r inline_r in_area locate onward indirect_r text_r inner_r items_r list_r kind_r value_r field_r fields_r static_r extending_r groups_r extension_r extension_in behind_r padded body_r head_r group_r walk last_of run records sound ignored_by governing accepted message_reading verdict_of message_verdict pattern signature_of has_under has_after has_fields sequence_item value_item absent value_place field_item item_from item_of number_width number_of number_at part_of part_at bytes_in number_answer part_answer message_type word_of line_from line_under line_of
cases = record { its-line = refl; inline = refl; own-number = refl; another-type = refl; other-fields = refl; no-barcode = refl }
