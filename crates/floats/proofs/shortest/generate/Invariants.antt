use Prim.Native.Nat.{◌-◌, ◌<◌, ◌^◌}
use Rattle.floats.proofs.shortest.generate.Given as goal

abbrev pub invariant-loop-places : goal.invariant-loop-places
invariant-loop-places l = l.digits < 10 ^ (l.places - 1)
