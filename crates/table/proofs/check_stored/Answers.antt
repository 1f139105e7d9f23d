use Rattle.std.proofs.Common.{rules}
use Rattle.schema.specs.Table.{stores_own, stored_verdict}
use Rattle.table.proofs.check_stored.Goals as goal

pub returns : goal.returns
unfolding stored_verdict
returns c = c.check_each.ensures (stores_own c.args.table.now) (λ g l before b post. search rules)
