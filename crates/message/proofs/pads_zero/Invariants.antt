use Rattle.std.proofs.Common.{◌≡◌, ◌&&◌, drop}
use Rattle.message.specs.Occupancy.{pads_zero}
use Rattle.message.proofs.pads_zero.Given as goal

abbrev pub invariant-loop-i : goal.invariant-loop-i
invariant-loop-i l = pads_zero (drop l.at l.occupied) (drop l.at l.bytes) ≡ l.zero && pads_zero (drop l.i l.occupied) (drop l.i l.bytes)
