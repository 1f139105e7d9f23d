use Rattle.std.proofs.Common.{rules}
use Rattle.tape.specs.Tape.{handed, handed_from}
use Rattle.tape.proofs.part_at.Goals as goal

pub returns-in-Some-Err : goal.returns-in-Some-Err
unfolding handed handed_from
returns-in-Some-Err c = search rules

pub returns-in-None : goal.returns-in-None
unfolding handed handed_from
returns-in-None c = search rules
