use Rattle.std.proofs.Common.{◌≤◌}
use Rattle.listing.proofs.tables.print_records.Given as goal

abbrev pub invariant-loop-row : goal.invariant-loop-row
invariant-loop-row l = (l.enumerations ≤ l.row-index) × (l.groups ≤ l.row-index) × (l.fields ≤ l.row-index)
