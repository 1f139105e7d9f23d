use Prim.Native.Nat.{◌+◌, ◌*◌, ◌^◌, ◌<◌}
use mathlib.Core.Path.{◌≡◌}
use lib.ListN.{take, drop}
use Rattle.std.specs.Int.{from_bool}
use Rattle.floats.specs.Limbs.{value}
use Rattle.floats.proofs.limbs.subtract.Given as goal

abbrev pub invariant-loop-i : goal.invariant-loop-i
invariant-loop-i l = record {
  rest : drop l.i l.a ≡ drop l.i l.initial.a;
  front : value (take l.i l.a) + value (take l.i l.b) ≡ value (take l.i l.initial.a) + from_bool l.owed * 4294967296 ^ l.i;
  small : value (take l.i l.a) < 4294967296 ^ l.i;
}
