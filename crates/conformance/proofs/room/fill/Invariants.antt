use Prim.Native.Nat.{◌-◌}
use mathlib.Core.Path.{◌≡◌}
use lib.ListN.{length}
use Rattle.wire.specs.Bytes.{splice}
use Rattle.conformance.specs.Room.{filled}
use Rattle.conformance.proofs.room.fill.Given as goal

abbrev pub invariant-loop-i : goal.invariant-loop-i
invariant-loop-i l =
    filled 0 (length l.initial.room) ≡ splice (length l.initial.room - l.i) l.i (filled l.i (length l.initial.room - l.i)) l.room
