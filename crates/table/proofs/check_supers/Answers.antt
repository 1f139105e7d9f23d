use Rattle.std.proofs.Common.{rules}
use Rattle.schema.specs.Table.{inherits, supers_verdict}
use Rattle.table.proofs.check_supers.Goals as goal

pub returns : goal.returns
unfolding supers_verdict
returns c = c.check_each.ensures (λ _ p. inherits c.args.table.now p) (λ g l before b post. search rules)
