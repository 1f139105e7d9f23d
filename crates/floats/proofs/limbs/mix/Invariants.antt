use Prim.Native.Nat.{◌+◌, ◌*◌, ◌^◌}
use mathlib.Core.Path.{◌≡◌}
use lib.ListN.{take}
use Rattle.floats.specs.Limbs.{value}
use Rattle.floats.proofs.limbs.mix.Given as goal

abbrev pub invariant-loop-i : goal.invariant-loop-i
invariant-loop-i l = value (take l.i l.out) + l.over * 4294967296 ^ l.i ≡ value (take l.i l.a) + l.k * value (take l.i l.b)
