use Rattle.std.proofs.Common.{◌≡◌, ℕ, ◌<◌, ◌≤◌, length}
use Rattle.schema.specs.Schema.{under}
use Rattle.schema.specs.Table.{schema}
use Rattle.schema.proofs.allows.Given as goal

abbrev pub invariant-loop-above : goal.invariant-loop-above
invariant-loop-above l = (l.above < length (schema l.table)) × ((n : ℕ) × (l.above ≤ n) × (under (schema l.table) l.group l.named l.group ≡ under (schema l.table) n l.named l.above))

abbrev pub decreases-loop-above : goal.decreases-loop-above
decreases-loop-above l = l.above
