use Prim.Native.Nat.{◌+◌, ◌*◌, ◌^◌}
use mathlib.Core.Path.{◌≡◌}
use lib.ListN.{take, drop}
use Rattle.floats.specs.Limbs.{value}
use Rattle.floats.proofs.limbs.times.Given as goal

abbrev pub invariant-loop-x : goal.invariant-loop-x
invariant-loop-x l = record { rest : drop l.x-index l.a ≡ drop l.x-index l.initial.a; front : value (take l.x-index l.a) + l.over * 4294967296 ^ l.x-index ≡ l.k * value (take l.x-index l.initial.a) }
