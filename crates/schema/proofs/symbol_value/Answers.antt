use Rattle.std.proofs.Common.{sym, ◌∙◌}
use Rattle.schema.proofs.Records.{number-at}
use Rattle.schema.proofs.symbol_value.Goals as goal

pub returns : goal.returns
returns c = c.read_u32.ensures.0 ∙ sym (number-at 4 2 c.args.at c.args.table.now)
