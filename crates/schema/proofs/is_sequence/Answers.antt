use Rattle.std.proofs.Common.{sym}
use Rattle.schema.proofs.Records.{field-sequence}
use Rattle.schema.proofs.is_sequence.Goals as goal

pub returns : goal.returns
returns c = λ es. sym (field-sequence es c.args.table.now c.args.at)
