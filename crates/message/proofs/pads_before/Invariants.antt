use Rattle.std.proofs.Common.{◌≡◌, ◌+◌, ◌-◌, drop}
use Rattle.message.specs.Occupancy.{pads_before}
use Rattle.message.proofs.pads_before.Given as goal

abbrev pub invariant-loop-i : goal.invariant-loop-i
invariant-loop-i l = pads_before (drop l.at l.occupied) (drop l.at l.bytes) ≡ l.i - l.at + pads_before (drop l.i l.occupied) (drop l.i l.bytes)
