use Prim.Native.Nat.{◌/◌}
use mathlib.Core.Path.{refl}
use native.Mathlib.Omega.{arith}
use native.Mathlib.Nat.{div-le_self}
use Rattle.values.specs.Times.{time_of, time_text}
use Rattle.values.proofs.Rooms.{places-most, wrote_then, wrote-text}
use Rattle.values.proofs.times.put_time.Goals as goal

pub put_clock-dot-requires : goal.put_clock-dot-requires
put_clock-dot-requires c = omega (arith, places-most 2 (c.args.n / c.args.unit / 3600) (omega arith) (omega (arith, div-le_self c.args.n c.args.unit)))

pub put_fraction-requires : goal.put_fraction-requires
put_fraction-requires c = omega (arith, places-most 2 (c.args.n / c.args.unit / 3600) (omega arith) (omega (arith, div-le_self c.args.n c.args.unit)), c.put_clock-dot.ensures.next, c.put_clock-dot.ensures.kept)

pub returns : goal.returns
unfolding time_of time_text
returns c = let p = places-most 2 (c.args.n / c.args.unit / 3600) (omega arith) (omega (arith, div-le_self c.args.n c.args.unit)) in
    let k = c.put_clock-dot.ensures in
    let f = c.put_fraction.ensures in
    (omega (arith, k.next, f.next), wrote-text _ (wrote_then k f (omega (arith, k.next, f.next))) refl)
