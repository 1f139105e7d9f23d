use mathlib.Core.Path.{◌∙◌}
use native.Mathlib.Omega.{arith}
use Rattle.values.proofs.Rooms.{places-count}
use Rattle.values.proofs.spelling.places.Goals as goal

pub returns : goal.returns
returns c = let k = c.ilog10.ensures in let m = c.max.ensures in
    (c.max-2.ensures ∙ places-count c.args.least c.args.n c.ilog10.result c.requires.0 c.requires.1 k.bound (rw m at k.power_le) (rw m at k.next_power_gt), omega (arith, k.bound))
