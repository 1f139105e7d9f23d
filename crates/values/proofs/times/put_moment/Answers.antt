use mir.Syntax.{w64}
use mir.Facts.{to_z-of_z}
use native.Mathlib.Omega.{arith}
use Prim.Native.Nat.{◌/◌}
use Rattle.values.proofs.Names.{moment-is}
use Rattle.values.proofs.Rooms.{places-small, wrote_then, wrote-text}
use Rattle.values.proofs.times.put_moment.Goals as goal

pub put_clock-dot-requires : goal.put_clock-dot-requires
put_clock-dot-requires c = omega (arith, places-small 2 (c.args.seconds / 3600) (omega arith), c.put_date-day.ensures.0, c.mark-hour.ensures.next, c.mark-hour.ensures.kept, c.put_date-day.ensures.1.kept)

pub put_fraction-end-requires : goal.put_fraction-end-requires
put_fraction-end-requires c = omega (arith, places-small 2 (c.args.seconds / 3600) (omega arith), c.put_date-day.ensures.0, c.mark-hour.ensures.next, c.mark-hour.ensures.kept, c.put_date-day.ensures.1.kept, c.put_clock-dot.ensures.next, c.put_clock-dot.ensures.kept)

pub mark-requires : goal.mark-requires
mark-requires c = omega (arith, places-small 2 (c.args.seconds / 3600) (omega arith), c.put_date-day.ensures.0, c.mark-hour.ensures.next, c.mark-hour.ensures.kept, c.put_date-day.ensures.1.kept, c.put_clock-dot.ensures.next, c.put_clock-dot.ensures.kept, c.put_fraction-end.ensures.next, c.put_fraction-end.ensures.kept)

pub returns : goal.returns
returns c = let y = c.put_date-day.ensures in
    let p = places-small 2 (c.args.seconds / 3600) (omega arith) in
    let t1 = wrote_then y.1 c.mark-hour.ensures (omega (arith, c.requires, y.0, c.mark-hour.ensures.next)) in
    let b = wrote_then c.put_clock-dot.ensures c.put_fraction-end.ensures (omega (arith, c.requires, p, y.0, y.1.kept, c.mark-hour.ensures.next, c.mark-hour.ensures.kept, c.put_clock-dot.ensures.next, c.put_fraction-end.ensures.next)) in
    let t2 = wrote_then t1 b (omega (arith, c.requires, p, y.0, c.mark-hour.ensures.next, c.put_clock-dot.ensures.next, c.put_fraction-end.ensures.next)) in
    let t3 = wrote_then t2 c.mark.ensures (omega (arith, c.requires, p, y.0, c.mark-hour.ensures.next, c.put_clock-dot.ensures.next, c.put_fraction-end.ensures.next, c.mark.ensures.next)) in (
      omega (arith, c.requires, p, y.0, c.mark-hour.ensures.next, c.put_clock-dot.ensures.next, c.put_fraction-end.ensures.next, c.mark.ensures.next),
      wrote-text _ t3 (moment-is _ c.args.days c.args.seconds c.args.fraction c.args.count (to_z-of_z {w = w64} c.ranges.days)),
    )
