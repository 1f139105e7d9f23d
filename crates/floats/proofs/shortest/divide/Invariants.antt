use Prim.Native.Nat.{◌+◌, ◌*◌}
use mathlib.Core.Path.{◌≡◌}
use Rattle.floats.specs.Limbs.{value}
use Rattle.floats.proofs.shortest.divide.Given as goal

abbrev pub invariant-loop-digit : goal.invariant-loop-digit
invariant-loop-digit l = value l.initial.r ≡ l.digit * value l.s + value l.r
