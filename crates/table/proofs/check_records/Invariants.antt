use Rattle.std.proofs.Common.{◌≡◌, ◌-◌, ◌*◌, length, drop}
use Rattle.table.proofs.Records.{Left}
use Rattle.schema.specs.Table.{enums, schema, record_count, records_verdict, records_from}
use Rattle.table.proofs.check_records.Given as goal

abbrev pub invariant-loop-i : goal.invariant-loop-i
invariant-loop-i l = (Left l.table l.next l.i) × (records_verdict l.table ≡ records_from (length (enums l.table)) (schema l.table) (record_count l.table - l.i) l.next l.low (16 * l.i) (drop (16 * l.i) l.table))
