use Prim.Native.Nat.{◌<◌}
use mathlib.Core.Path.{◌≡◌}
use lib.ListN.{drop}
use Rattle.conformance.specs.Room.{adler_from, adler}
use Rattle.conformance.proofs.room.adler32.Given as goal

abbrev pub invariant-loop-byte : goal.invariant-loop-byte
invariant-loop-byte l = (l.a < 65521) × (l.b < 65521) × (adler l.room ≡ adler_from l.a l.b (drop l.byte-index l.room))
