use Rattle.std.proofs.Common.{◌≡◌, true, ◌+◌, ◌-◌, ◌*◌, ◌≤◌, length, drop}
use Rattle.schema.specs.Table.{fields_at, enums, schema}
use Rattle.table.specs.Measure.{sound_fields, Grown}
use Rattle.table.proofs.Widths.{Summed}
use Rattle.table.proofs.+measure_group.Given as goal

abbrev pub decreases-measure_group : goal.decreases-measure_group
decreases-measure_group l = l.g

abbrev pub invariant-loop-i : goal.invariant-loop-i
invariant-loop-i l = (l.width ≤ 4097 * l.i) × (l.levels ≤ 5) × (Grown l.table l.initial.index l.index)
    × (Summed (schema l.table) l.g (fields_at (enums l.table) (l.count - l.i) (drop (l.first + 16 * l.i) l.table)) l.width l.levels)
    × (sound_fields (length (schema l.table)) l.g (fields_at (enums l.table) (l.count - l.i) (drop (l.first + 16 * l.i) l.table)) ≡ true)
