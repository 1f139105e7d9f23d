use Prim.Native.Nat.{◌+◌, ◌*◌, ◌≤◌}
use mathlib.Core.Path.{◌≡◌}
use lib.ListN.{length}
use Rattle.layout.proofs.walk.Group.+lay.Given as goal

abbrev pub decreases-lay_dynamic : goal.decreases-lay_dynamic
decreases-lay_dynamic l = 100 * l.spot.levels + 1

abbrev pub decreases-lay_extension : goal.decreases-lay_extension
decreases-lay_extension l = 100 * l.spot.levels + 80

abbrev pub decreases-lay_field : goal.decreases-lay_field
decreases-lay_field l = 100 * l.spot.levels + 10 * l.depth + 19

abbrev pub decreases-lay_fields : goal.decreases-lay_fields
decreases-lay_fields l = 100 * l.spot.levels + 10 * l.depth + 10

abbrev pub decreases-lay_group : goal.decreases-lay_group
decreases-lay_group l = 100 * l.outer.levels

abbrev pub decreases-lay_item : goal.decreases-lay_item
decreases-lay_item l = 100 * l.spot.levels + 10 * l.depth + 16

abbrev pub decreases-lay_items : goal.decreases-lay_items
decreases-lay_items l = 100 * l.spot.levels + 10 * l.depth + 17

abbrev pub decreases-lay_value : goal.decreases-lay_value
decreases-lay_value l = 100 * l.spot.levels + 10 * l.depth + 18

abbrev pub invariant-lay_fields-loop-i : goal.invariant-lay_fields-loop-i
invariant-lay_fields-loop-i l = (length l.labels ≡ length l.initial.labels) × (l.place ≤ 65540)

abbrev pub invariant-lay_items-loop-i : goal.invariant-lay_items-loop-i
invariant-lay_items-loop-i l = (length l.labels ≡ length l.initial.labels) × (l.place ≤ 65540)
