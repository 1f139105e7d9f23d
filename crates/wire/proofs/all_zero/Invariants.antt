use mathlib.Core.Path.{◌≡◌}
use mathlib.Core.Bool.{◌&&◌}
use lib.ListN.{drop}
use Rattle.wire.specs.Bytes.{all_zero}
use Rattle.wire.proofs.all_zero.Given as goal

abbrev pub invariant-loop-b : goal.invariant-loop-b
invariant-loop-b l = all_zero l.b-items ≡ l.zero && all_zero (drop l.b-index l.b-items)
