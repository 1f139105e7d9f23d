use Rattle.std.proofs.Common.{◌+◌, ◌≤◌, [], length, get_or}
use Rattle.schema.specs.Table.{enums}
use Rattle.schema.proofs.Symbols.{Running}
use Rattle.schema.proofs.has_symbol.Given as goal

abbrev pub invariant-loop-search : goal.invariant-loop-search
invariant-loop-search l = (l.search.first + l.search.count ≤ length (get_or (enums l.table) l.list [])) × Running (get_or (enums l.table) l.list []) l.value l.search

abbrev pub decreases-loop-search : goal.decreases-loop-search
decreases-loop-search l = l.search.count
