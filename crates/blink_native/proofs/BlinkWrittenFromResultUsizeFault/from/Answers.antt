use Rattle.std.proofs.Common.{sym, ap}
use Rattle.blink_native.specs.Boundary.{exported_written}
use Rattle.blink_native.proofs.BlinkWrittenFromResultUsizeFault.from.Goals as goal

pub returns-in-Ok : goal.returns-in-Ok
unfolding exported_written
returns-in-Ok c = sym (ap exported_written c.in-Ok.is)

pub returns-in-Err : goal.returns-in-Err
unfolding exported_written
returns-in-Err c = sym (ap exported_written c.in-Err.is)
