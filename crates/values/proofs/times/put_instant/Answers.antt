use Prim.Native.Nat.{◌*◌}
use mathlib.Core.Path.{◌≡◌}
use native.Mathlib.Omega.{arith}
use lib.IntN.{pos, ◌-ℤ◌}
use mir.Syntax.{w64}
use mir.Val.{SFits}
use Rattle.std.specs.Int.{int_div_euclid, int_rem_euclid}
use Rattle.std.proofs.lemmas.Int.{ints, to_z-of_z, to_z_pos}
use Rattle.std.proofs.lemmas.Grind.{common_steps}
use Rattle.values.proofs.Rooms.{wrote-text}
use Rattle.values.proofs.Names.{instant}
use Rattle.values.proofs.times.put_instant.Goals as goal

pub returns : goal.returns
returns c = let z = c.args.n in
    let e = to_z-of_z w64 z c.ranges.n in
    let l = to_z_pos w64 (86400 * c.args.unit) (omega arith) in
    let q : c.div_euclid-days.result ≡ int_div_euclid z (pos (86400 * c.args.unit)) = rw (e, l) at c.div_euclid-days.ensures in
    let r : c.rem_euclid-part.result ≡ int_rem_euclid z (pos (86400 * c.args.unit)) = rw (e, l) at c.rem_euclid-part.ensures.value in
    let fits : SFits w64 (c.div_euclid-days.result -ℤ pos 10957) = grind (arith, common_steps) in (
      c.put_moment.ensures.0,
      wrote-text _ c.put_moment.ensures.1 (instant c.args.unit c.args.count z _ _
          (rw (← q) (omega (arith, ints)))
          (rw (← r) (grind (arith, ints)))),
    )
