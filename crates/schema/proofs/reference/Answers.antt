use Rattle.std.proofs.Common.{sym, ◌∙◌, rules}
use Rattle.schema.proofs.Records.{number-at}
use Rattle.schema.proofs.reference.Goals as goal

pub returns : goal.returns
returns c = (c.read_u16.ensures.0 ∙ sym (number-at 2 6 c.args.at c.args.table.now), search rules)
