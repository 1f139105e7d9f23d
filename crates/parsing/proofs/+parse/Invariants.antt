use Prim.Native.Nat.{◌+◌, ◌*◌}
use Rattle.sheet.specs.Writers.{static_of, item_of, extending_of}
use Rattle.parsing.proofs.Loops.{ItemsLeft, FieldsLeft}
use Rattle.parsing.proofs.Scopes.{weight}
use Rattle.parsing.proofs.+parse.Given as goal

abbrev pub decreases-check_extending : goal.decreases-check_extending
decreases-check_extending l = 64 * l.levels + 6

abbrev pub decreases-check_extension : goal.decreases-check_extension
decreases-check_extension l = 64 * l.levels + 8

abbrev pub decreases-check_field : goal.decreases-check_field
decreases-check_field l = 64 * l.levels + 10 * l.depth + 9

abbrev pub decreases-check_fields : goal.decreases-check_fields
decreases-check_fields l = 64 * l.levels + 10 * l.depth

abbrev pub decreases-check_group : goal.decreases-check_group
decreases-check_group l = 64 * l.levels + weight l.depth l.scope

abbrev pub decreases-check_groups : goal.decreases-check_groups
decreases-check_groups l = 64 * l.levels + 7

abbrev pub decreases-check_item : goal.decreases-check_item
decreases-check_item l = 64 * l.levels + 10 * l.depth + 6

abbrev pub decreases-check_items : goal.decreases-check_items
decreases-check_items l = 64 * l.levels + 10 * l.depth + 7

abbrev pub decreases-close_group : goal.decreases-close_group
decreases-close_group l = 64 * l.levels + 9

abbrev pub invariant-check_fields-loop : goal.invariant-check_fields-loop
invariant-check_fields-loop l = FieldsLeft l.table l.sheet l.levels l.deeper (static_of l.table l.levels l.depth l.group) l.total l.place l.before l.counter l.field l.step

abbrev pub invariant-check_groups-loop : goal.invariant-check_groups-loop
invariant-check_groups-loop l = ItemsLeft l.sheet 4 (extending_of l.table l.levels) l.total l.place l.before l.counter l.step

abbrev pub invariant-check_items-loop : goal.invariant-check_items-loop
invariant-check_items-loop l = ItemsLeft l.sheet l.width (item_of l.table l.levels l.depth l.kind) l.total l.place l.before l.counter l.step
