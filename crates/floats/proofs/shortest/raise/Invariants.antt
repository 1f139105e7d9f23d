use Prim.Native.Nat.{◌*◌, ◌^◌}
use mathlib.Core.Path.{◌≡◌}
use Rattle.floats.specs.Limbs.{value}
use Rattle.floats.proofs.shortest.raise.Given as goal

abbrev pub invariant-loop : goal.invariant-loop
invariant-loop l = value l.a ≡ l.base ^ l.counter * value l.initial.a
