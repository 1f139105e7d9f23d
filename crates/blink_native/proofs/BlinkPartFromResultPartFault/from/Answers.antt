use Rattle.std.proofs.Common.{sym, ap}
use Rattle.blink_native.specs.Boundary.{exported_span}
use Rattle.blink_native.proofs.BlinkPartFromResultPartFault.from.Goals as goal

pub returns-in-Ok : goal.returns-in-Ok
unfolding exported_span
returns-in-Ok c = sym (ap exported_span c.in-Ok.is)

pub returns-in-Err : goal.returns-in-Err
unfolding exported_span
returns-in-Err c = sym (ap exported_span c.in-Err.is)
