use native.Mathlib.Omega.{arith}
use mathlib.Core.Path.{refl}
use Rattle.values.specs.Times.{padded, clock_text}
use Rattle.values.proofs.Rooms.{wrote_then, wrote_as}
use Rattle.values.proofs.times.put_clock.Goals as goal

pub returns : goal.returns
unfolding padded clock_text
returns c = let t1 = wrote_then c.padded-hour.ensures c.mark-minute.ensures (omega (arith, c.requires, c.padded-hour.ensures.next, c.mark-minute.ensures.next)) in
    let t2 = wrote_then t1 c.digits-next.ensures (omega (arith, c.requires, c.padded-hour.ensures.next, c.mark-minute.ensures.next, c.digits-next.ensures.next)) in
    let t3 = wrote_then t2 c.mark-second.ensures (omega (arith, c.requires, c.padded-hour.ensures.next, c.mark-minute.ensures.next, c.digits-next.ensures.next, c.mark-second.ensures.next)) in
    let t4 = wrote_then t3 c.digits.ensures (omega (arith, c.requires, c.padded-hour.ensures.next, c.mark-minute.ensures.next, c.digits-next.ensures.next, c.mark-second.ensures.next, c.digits.ensures.next)) in
    wrote_as _ _ t4 (omega arith) refl
