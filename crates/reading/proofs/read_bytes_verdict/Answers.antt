use Rattle.std.proofs.Common.{ap, ◌∙◌}
use Rattle.reading.specs.Part.{verdict_of}
use Rattle.reading.proofs.Found.{verdict-and}
use Rattle.reading.proofs.read_bytes_verdict.Goals as goal

pub returns : goal.returns
returns c = c.and.ensures ∙ verdict-and _ ∙ ap verdict_of c.find_part.ensures
