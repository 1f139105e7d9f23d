use Rattle.std.proofs.Common.{◌≡◌, ◌+◌, take}
use Rattle.schema.specs.Schema.{find}
use Rattle.schema.specs.Table.{schema}
use Rattle.schema.proofs.Groups.{groups_in}
use Rattle.schema.proofs.find.Given as goal

abbrev pub invariant-loop-i : goal.invariant-loop-i
invariant-loop-i l = find (take l.n (schema l.table)) l.id ≡ l.i + find (groups_in (schema l.table) l.n l.i) l.id
