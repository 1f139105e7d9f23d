use Rattle.std.proofs.Common.{sym, ap}
use Rattle.blink_native.specs.Boundary.{exported}
use Rattle.blink_native.proofs.BlinkVerdictFromResultUnitFault.from.Goals as goal

pub returns-in-Ok : goal.returns-in-Ok
unfolding exported
returns-in-Ok c = sym (ap exported c.in-Ok.is)

pub returns-in-Err : goal.returns-in-Err
unfolding exported
returns-in-Err c = sym (ap exported c.in-Err.is)
