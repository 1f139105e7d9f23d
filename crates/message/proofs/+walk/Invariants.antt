use Rattle.std.proofs.Common.{◌≡◌, ◌+◌, ◌-◌, ◌*◌, ◌^◌, ◌<◌, ◌≤◌, true, length, drop}
use Rattle.schema.specs.Schema.{fields_width, shallow_fields, shallow}
use Rattle.schema.specs.Table.{fields_at, enums, schema}
use Rattle.schema.specs.FieldKinds.{kind_from}
use Rattle.message.specs.Walk.{indirect_r, items_r, fields_r, extending_r}
use Rattle.message.specs.Count.{count}
use Rattle.message.specs.Check.{levels_in, ignored_in, occupancy_of, after, within, item_r, inner_of, width_of, static_of}
use Rattle.message.proofs.CheckScopes.{weight}
use Rattle.message.proofs.+walk.Given as goal

abbrev pub decreases-check_dynamic : goal.decreases-check_dynamic
decreases-check_dynamic l = 64 * (levels_in l.frame.rules) + 4

abbrev pub decreases-check_extending : goal.decreases-check_extending
decreases-check_extending l = 64 * (levels_in l.frame.rules) + 6

abbrev pub decreases-check_extension : goal.decreases-check_extension
decreases-check_extension l = 64 * (levels_in l.frame.rules) + 8

abbrev pub decreases-check_field : goal.decreases-check_field
decreases-check_field l = 64 * (levels_in l.frame.rules) + 10 * l.depth + 20

abbrev pub decreases-check_fields : goal.decreases-check_fields
decreases-check_fields l = 64 * (levels_in l.frame.rules) + 10 * l.depth + 11

abbrev pub decreases-check_group : goal.decreases-check_group
decreases-check_group l = 64 * (levels_in l.outer.rules) + weight l.scope l.depth

abbrev pub decreases-check_groups : goal.decreases-check_groups
decreases-check_groups l = 64 * (levels_in l.frame.rules) + 7

abbrev pub decreases-check_item : goal.decreases-check_item
decreases-check_item l = 64 * (levels_in l.frame.rules) + 10 * l.depth + 17

abbrev pub decreases-check_items : goal.decreases-check_items
decreases-check_items l = 64 * (levels_in l.frame.rules) + 10 * l.depth + 18

abbrev pub decreases-check_nested : goal.decreases-check_nested
decreases-check_nested l = 64 * (levels_in l.frame.rules) + 3

abbrev pub decreases-check_rest : goal.decreases-check_rest
decreases-check_rest l = 64 * (levels_in l.frame.rules) + 9

abbrev pub decreases-check_value : goal.decreases-check_value
decreases-check_value l = 64 * (levels_in l.frame.rules) + 10 * l.depth + 19

abbrev pub decreases-close_group : goal.decreases-close_group
decreases-close_group l = 64 * (levels_in l.frame.rules) + 10

abbrev pub invariant-check_fields-loop : goal.invariant-check_fields-loop
invariant-check_fields-loop l = record {
  records : l.field + 16 * (l.total - l.counter) ≤ length l.table;
  inside : l.place + fields_width (width_of l.table (l.depth - 1)) (fields_at (enums l.table) (l.total - l.counter) (drop l.field l.table)) ≤ length l.bytes;
  shallow : shallow_fields (shallow (schema l.table) (l.depth - 1)) (width_of l.table (l.depth - 1)) (fields_at (enums l.table) (l.total - l.counter) (drop l.field l.table)) ≡ true;
  fits : l.step.length < 2 ^ 64;
  counts :
      after l.before (count (static_of (ignored_in l.frame.rules) l.table (levels_in l.frame.rules) l.depth l.group (within l.bytes l.frame) l.at (occupancy_of l.frame.area l.initial.step.taken l.initial.occupied)))
      ≡ after l.step.length (count (fields_r (inner_of (ignored_in l.frame.rules) l.table (levels_in l.frame.rules)) (width_of l.table (l.depth - 1)) (static_of (ignored_in l.frame.rules) l.table (levels_in l.frame.rules) (l.depth - 1)) (fields_at (enums l.table) (l.total - l.counter) (drop l.field l.table)) (within l.bytes l.frame) l.place (occupancy_of l.frame.area l.step.taken l.occupied)));
}

abbrev pub invariant-check_groups-loop : goal.invariant-check_groups-loop
invariant-check_groups-loop l = record {
  inside : l.place + (l.total - l.counter) * 4 ≤ length l.bytes;
  fits : l.step.length < 2 ^ 64;
  counts :
      after l.before (count (items_r 4 (indirect_r 26 1 (extending_r (schema l.table) (inner_of (ignored_in l.frame.rules) l.table (levels_in l.frame.rules)))) l.total (within l.bytes l.frame) l.at (occupancy_of l.frame.area l.initial.step.taken l.initial.occupied)))
      ≡ after l.step.length (count (items_r 4 (indirect_r 26 1 (extending_r (schema l.table) (inner_of (ignored_in l.frame.rules) l.table (levels_in l.frame.rules)))) (l.total - l.counter) (within l.bytes l.frame) l.place (occupancy_of l.frame.area l.step.taken l.occupied)));
}

abbrev pub invariant-check_items-loop : goal.invariant-check_items-loop
invariant-check_items-loop l = record {
  inside : l.place + (l.total - l.counter) * l.width ≤ length l.bytes;
  fits : l.step.length < 2 ^ 64;
  counts :
      after l.before (count (items_r l.width (item_r (inner_of (ignored_in l.frame.rules) l.table (levels_in l.frame.rules)) (static_of (ignored_in l.frame.rules) l.table (levels_in l.frame.rules) l.depth) (kind_from (enums l.table) l.kind)) l.total (within l.bytes l.frame) l.at (occupancy_of l.frame.area l.initial.step.taken l.initial.occupied)))
      ≡ after l.step.length (count (items_r l.width (item_r (inner_of (ignored_in l.frame.rules) l.table (levels_in l.frame.rules)) (static_of (ignored_in l.frame.rules) l.table (levels_in l.frame.rules) l.depth) (kind_from (enums l.table) l.kind)) (l.total - l.counter) (within l.bytes l.frame) l.place (occupancy_of l.frame.area l.step.taken l.occupied)));
}
