use Prim.Native.Nat.{◌+◌, ◌-◌, ◌*◌}
use Rattle.sheet.specs.Show.{item_of, extending_of, takes}
use Rattle.sheet.proofs.Loops.{ItemsLeft, FieldsLeft}
use Rattle.sheet.proofs.+show.Given as goal

abbrev pub decreases-close_group : goal.decreases-close_group
decreases-close_group l = 64 * l.levels + 9

abbrev pub decreases-show_extending : goal.decreases-show_extending
decreases-show_extending l = 64 * l.levels + 6

abbrev pub decreases-show_extension : goal.decreases-show_extension
decreases-show_extension l = 64 * l.levels + 8

abbrev pub decreases-show_field : goal.decreases-show_field
decreases-show_field l = 64 * l.levels + 10 * l.depth + 9

abbrev pub decreases-show_fields : goal.decreases-show_fields
decreases-show_fields l = 64 * l.levels + 10 * l.depth

abbrev pub decreases-show_group : goal.decreases-show_group
decreases-show_group l = 64 * l.levels + 10 * l.depth + 1 - 64 * takes l.scope

abbrev pub decreases-show_groups : goal.decreases-show_groups
decreases-show_groups l = 64 * l.levels + 7

abbrev pub decreases-show_item : goal.decreases-show_item
decreases-show_item l = 64 * l.levels + 10 * l.depth + 6

abbrev pub decreases-show_items : goal.decreases-show_items
decreases-show_items l = 64 * l.levels + 10 * l.depth + 7

abbrev pub decreases-show_nested : goal.decreases-show_nested
decreases-show_nested l = 64 * l.levels + 3

abbrev pub decreases-show_value : goal.decreases-show_value
decreases-show_value l = 64 * l.levels + 10 * l.depth + 8

abbrev pub invariant-show_fields-loop : goal.invariant-show_fields-loop
invariant-show_fields-loop l = FieldsLeft l.table l.bytes l.levels l.depth l.group l.at l.pos l.initial.out l.total l.counter l.field l.place l.next l.out

abbrev pub invariant-show_groups-loop : goal.invariant-show_groups-loop
invariant-show_groups-loop l = ItemsLeft l.bytes 4 (extending_of l.table l.levels) l.total l.at l.pos l.initial.out l.counter l.place l.next l.out

abbrev pub invariant-show_items-loop : goal.invariant-show_items-loop
invariant-show_items-loop l = ItemsLeft l.bytes l.width (item_of l.table l.levels l.depth l.kind) l.total l.at l.pos l.initial.out l.counter l.place l.next l.out
