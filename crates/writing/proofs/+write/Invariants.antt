use Prim.Native.Nat.{◌+◌, ◌*◌}
use Rattle.sheet.specs.Writers.{item_of, extending_of}
use Rattle.writing.proofs.Loops.{ItemsLeft, FieldsLeft}
use Rattle.writing.proofs.Scopes.{deep}
use Rattle.writing.proofs.+write.Given as goal

abbrev pub decreases-close_group : goal.decreases-close_group
decreases-close_group l = 64 * l.levels + 9

abbrev pub decreases-write_extending : goal.decreases-write_extending
decreases-write_extending l = 64 * l.levels + 6

abbrev pub decreases-write_extension : goal.decreases-write_extension
decreases-write_extension l = 64 * l.levels + 8

abbrev pub decreases-write_field : goal.decreases-write_field
decreases-write_field l = 64 * l.levels + 10 * l.depth + 9

abbrev pub decreases-write_fields : goal.decreases-write_fields
decreases-write_fields l = 64 * l.levels + 10 * l.depth

abbrev pub decreases-write_group : goal.decreases-write_group
decreases-write_group l = 64 * l.levels + deep l.scope l.depth + 1

abbrev pub decreases-write_groups : goal.decreases-write_groups
decreases-write_groups l = 64 * l.levels + 7

abbrev pub decreases-write_item : goal.decreases-write_item
decreases-write_item l = 64 * l.levels + 10 * l.depth + 6

abbrev pub decreases-write_items : goal.decreases-write_items
decreases-write_items l = 64 * l.levels + 10 * l.depth + 7

abbrev pub decreases-write_nested : goal.decreases-write_nested
decreases-write_nested l = 64 * l.levels + 3

abbrev pub decreases-write_value : goal.decreases-write_value
decreases-write_value l = 64 * l.levels + 10 * l.depth + 8

abbrev pub invariant-write_fields-loop : goal.invariant-write_fields-loop
invariant-write_fields-loop l = FieldsLeft l.table l.sheet l.levels l.depth l.group l.total l.at l.fn.ends.free l.fn.ends.pos l.initial.out l.counter l.field l.place l.ends.free l.ends.pos l.out

abbrev pub invariant-write_groups-loop : goal.invariant-write_groups-loop
invariant-write_groups-loop l = ItemsLeft l.sheet 4 (extending_of l.table l.levels) l.total l.at l.fn.ends.free l.fn.ends.pos l.initial.out l.counter l.place l.ends.free l.ends.pos l.out

abbrev pub invariant-write_items-loop : goal.invariant-write_items-loop
invariant-write_items-loop l = ItemsLeft l.sheet l.width (item_of l.table l.levels l.depth l.kind) l.total l.at l.fn.ends.free l.fn.ends.pos l.initial.out l.counter l.place l.ends.free l.ends.pos l.out
