use Rattle.std.proofs.Common.{ℕ, ◌<◌, ◌≤◌, length}
use Rattle.schema.specs.Table.{schema}
use Rattle.table.specs.Measure.{levels, Grown}
use Rattle.table.proofs.measure_groups.Given as goal

abbrev pub invariant-loop-g : goal.invariant-loop-g
invariant-loop-g l = (l.g ≤ length (schema l.table)) × (Grown l.table l.initial.index l.index) × ((h : ℕ) → l.g ≤ h → h < length (schema l.table) → 0 < levels l.index h)
