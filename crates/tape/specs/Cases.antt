-- A tape of document 004's bills, with a message of four bytes, one with a presence flag of 2, and a cut tail: what the definitions answer.
use Rattle.std.specs.Prelude.{Ok, Err, Some, ◌≡◌, refl, List, [], ◌∷◌, ◌++◌, ℕ, take}
use Rattle.wire.specs.Bytes.{le, bytes_of, same, all_zero, zeros}
use Rattle.wire.specs.Utf8.{after, begins, follow, lowest, highest, text_from, is_valid, utf8}
use Rattle.schema.specs.Faults.{fault_at, need, also}
use Rattle.schema.specs.Schema.{member, passes, test_fault, text_ok, kind_width, value_width, field_width, fields_width, fields_of, super_of, width, shallow_kind, shallow_fields, shallow, find, known, under, allows}
use Rattle.schema.specs.Symbols.{rank}
use Rattle.schema.specs.Table.{group_marked, scalar_width, kind_of, field_at, fields_at, values_at, group_at, enums_from, groups_from, places_from, enums, schema, places, is_enum, is_group, is_due, due_after, shape_from, shape_verdict, enum_verdict, symbol_verdict, group_verdict, size_ok, reference_ok, field_verdict, record_verdict, records_from, records_verdict, any_id, id_verdict, each_group, in_bounds, widths_verdict, begins_with, inherits, supers_verdict, stores_own, stored_verdict, table_verdict}
use Rattle.schema.specs.Cases.{group, field}
use Rattle.message.specs.Occupancy.{free, occupy, pads_zero, pads_before}
use Rattle.message.specs.Sheet.{mark_bytes, kind_mark, field_mark}
use Rattle.message.specs.Walk.{prefixed, next, none_r, then_r, marked_r, optional_r, plain_r, inline_r, in_area, locate, onward, indirect_r, text_r, inner_r, items_r, list_r, kind_r, value_r, field_r, fields_r, static_r, extending_r, groups_r, extension_r, extension_in, behind_r, padded, body_r, head_r, group_r, walk}
use Rattle.settings.specs.Store.{last_of, run, records, sound, ignored_by, governing}
use Rattle.opening.specs.Opening.{accepted, Under, message_reading, verdict_of, message_verdict}
use Rattle.tape.specs.Tape.{whole, tape_step, before, answers_from, answers_at, tape_answers}

-- Type 5 is u32.
abbrev bill_table : List ℕ
bill_table = group 2 0 2 ++ (field 5 0 0 0 0 ++ field 5 1 0 0 0)

-- Amount 1000, Tip 100, by the presence flag of Tip.
abbrev bill : ℕ → List ℕ
bill flag =
    0x15 ∷ 0x00 ∷ 0x00 ∷ 0x00
    ∷ 0x02 ∷ 0x00 ∷ 0x00 ∷ 0x00 ∷ 0x00 ∷ 0x00 ∷ 0x00 ∷ 0x00
    ∷ 0x00 ∷ 0x00 ∷ 0x00 ∷ 0x00
    ∷ 0xe8 ∷ 0x03 ∷ 0x00 ∷ 0x00
    ∷ flag ∷ 0x64 ∷ 0x00 ∷ 0x00 ∷ 0x00 ∷ []

abbrev shift : List ℕ
shift = bill 1 ++ (0 ∷ 0 ∷ 0 ∷ 0 ∷ bill 2) ++ (bill 1 ++ (0x05 ∷ 0x00 ∷ 0x00 ∷ 0x00 ∷ 0x01 ∷ []))

-- With no settings and a scratch of this length.
abbrev plainly : ℕ → Under
plainly scratch = record { store = []; customer = 0; scratch = scratch }

pub record Cases : Type 0 where
  pub past-the-bad : tape_answers bill_table shift (plainly 25) ≡ Some (Ok tt) ∷ (Some (Err (fault_at 1 0)) ∷ (Some (Err (fault_at 11 20)) ∷ (Some (Ok tt) ∷ (Some (Err (fault_at 22 79)) ∷ []))))
  pub short-scratch : tape_answers bill_table shift (plainly 24) ≡ Some (Err (fault_at 21 0)) ∷ (Some (Err (fault_at 1 0)) ∷ (Some (Err (fault_at 21 0)) ∷ (Some (Err (fault_at 21 0)) ∷ (Some (Err (fault_at 22 79)) ∷ []))))
  pub bad-table : tape_answers (take 32 bill_table) shift (plainly 25) ≡ Some (Err (fault_at 20 0)) ∷ []
  pub empty : tape_answers (take 32 bill_table) [] (plainly 25) ≡ []

pub cases : Cases
unfolding le bytes_of same all_zero zeros after begins follow lowest highest text_from is_valid utf8 need also member passes test_fault text_ok kind_width value_width field_width fields_width fields_of super_of width shallow_kind shallow_fields shallow find known under allows group_marked scalar_width kind_of field_at fields_at values_at group_at enums_from groups_from places_from enums schema places is_enum is_group is_due due_after shape_from shape_verdict rank enum_verdict symbol_verdict group_verdict size_ok reference_ok field_verdict record_verdict records_from records_verdict any_id id_verdict each_group in_bounds widths_verdict begins_with inherits supers_verdict stores_own stored_verdict table_verdict free occupy pads_zero pads_before mark_bytes kind_mark field_mark prefixed next none_r then_r marked_r optional_r plain_r inline_r in_area locate onward indirect_r text_r inner_r items_r list_r kind_r value_r field_r fields_r static_r extending_r groups_r extension_r extension_in behind_r padded body_r head_r group_r walk last_of run records sound ignored_by governing accepted message_reading verdict_of message_verdict whole tape_step before answers_from answers_at
cases = record { past-the-bad = refl; short-scratch = refl; bad-table = refl; empty = refl }
