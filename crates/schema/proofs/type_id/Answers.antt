use Rattle.std.proofs.Common.{sym, ◌∙◌}
use Rattle.schema.proofs.Records.{number-at}
use Rattle.schema.proofs.type_id.Goals as goal

pub returns : goal.returns
returns c = c.read_u64.ensures ∙ sym (number-at 8 2 c.args.at c.args.table.now)
