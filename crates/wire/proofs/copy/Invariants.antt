use Prim.Native.Nat.{◌≤◌}
use mathlib.Core.Path.{◌≡◌}
use lib.ListN.{length}
use Rattle.wire.specs.Bytes.{part, splice}
use Rattle.wire.proofs.copy.Given as goal

abbrev pub invariant-loop-left : goal.invariant-loop-left
invariant-loop-left l = (l.left ≤ l.n) × (length l.out ≡ length l.initial.out) × (splice l.n l.at (part l.n l.from l.s) l.initial.out ≡ splice l.left l.at (part l.left l.from l.s) l.out)

abbrev pub decreases-loop-left : goal.decreases-loop-left
decreases-loop-left l = l.left
