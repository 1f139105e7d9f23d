use Rattle.std.proofs.Common.{◌≡◌, ◌-◌, ◌*◌, drop}
use Rattle.schema.specs.Table.{record_count, shape_verdict, shape_from}
use Rattle.table.specs.Index.{due_of, Begun}
use Rattle.table.proofs.check_shape.Given as goal

abbrev pub invariant-loop-i : goal.invariant-loop-i
invariant-loop-i l = (Begun l.table l.index l.i l.shape.enumerations l.shape.groups l.shape.owed) × (shape_verdict l.table ≡ shape_from (record_count l.table - l.i) (due_of l.shape) (16 * l.i) (drop (16 * l.i) l.table))
