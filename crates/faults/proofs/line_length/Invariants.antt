use Prim.Native.Nat.{◌+◌}
use mathlib.Core.Path.{◌≡◌}
use mathlib.Core.List.{◌++◌}
use lib.ListN.{drop}
use Rattle.wire.specs.Bytes.{part}
use Rattle.faults.specs.Words.{line}
use Rattle.faults.proofs.line_length.Given as goal

abbrev pub invariant-loop-n : goal.invariant-loop-n
invariant-loop-n l = line (drop l.at l.text) ≡ part l.n l.at l.text ++ line (drop (l.at + l.n) l.text)
