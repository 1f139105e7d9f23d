use Rattle.std.proofs.Common.{sym}
use Rattle.schema.proofs.Records.{field-optional}
use Rattle.schema.proofs.is_optional.Goals as goal

pub returns : goal.returns
returns c = λ es. sym (field-optional es c.args.table.now c.args.at)
