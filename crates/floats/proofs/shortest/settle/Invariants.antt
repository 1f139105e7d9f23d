use Prim.Native.Nat.{◌-◌, ◌*◌, ◌^◌}
use mathlib.Core.Path.{◌≡◌}
use Rattle.floats.specs.Limbs.{value}
use Rattle.floats.proofs.shortest.settle.Given as goal

abbrev pub invariant-loop-scale : goal.invariant-loop-scale
invariant-loop-scale l = value l.s ≡ 10 ^ (l.scale - l.least) * value l.initial.s
