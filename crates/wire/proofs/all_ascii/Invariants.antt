use mathlib.Core.Path.{◌≡◌}
use mathlib.Core.Bool.{◌&&◌}
use lib.ListN.{drop}
use Rattle.wire.specs.Scan.{all_ascii}
use Rattle.wire.proofs.all_ascii.Given as goal

abbrev pub invariant-loop-b : goal.invariant-loop-b
invariant-loop-b l = all_ascii l.s ≡ l.ascii && all_ascii (drop l.b-index l.s)
