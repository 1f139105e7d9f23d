use native.Mathlib.Omega.{arith}
use Rattle.values.proofs.Rooms.{wrote_then}
use Rattle.values.proofs.times.put_fraction.Goals as goal

pub returns : goal.returns
returns c = wrote_then c.mark-dot.ensures c.digits.ensures (omega (arith, c.requires, c.mark-dot.ensures.next, c.digits.ensures.next))
