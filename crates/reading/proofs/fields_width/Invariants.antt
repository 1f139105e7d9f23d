use Rattle.std.proofs.Common.{◌≡◌, ◌+◌, ◌*◌, ◌≤◌, drop}
use Rattle.schema.specs.Schema.{fields_width}
use Rattle.schema.specs.Table.{fields_at, enums}
use Rattle.schema.specs.Layout.{width_in}
use Rattle.reading.proofs.Items.{width_from}
use Rattle.reading.proofs.fields_width.Given as goal

abbrev pub invariant-loop-i : goal.invariant-loop-i
invariant-loop-i l = (l.width ≤ 4097 * l.i) × (fields_width (width_in l.index) (fields_at (enums l.table) l.count (drop l.row l.table)) ≡ l.width + width_from (width_in l.index) (enums l.table) l.table l.row l.count l.i)
