use native.Mathlib.Omega.{arith}
use mir.Syntax.{w64}
use mir.Facts.{to_z-of_z}
use Rattle.values.proofs.Rooms.{wrote_then, wrote-text}
use Rattle.values.proofs.Names.{date-is}
use borrow.Author.Rules.{rules}
use Rattle.values.proofs.times.put_date.Goals as goal

pub returns : goal.returns
returns c = let y = c.put_year-at.ensures in
    let t1 = wrote_then y.1 c.mark-month.ensures (omega (arith, c.requires, y.0, c.mark-month.ensures.next)) in
    let t2 = wrote_then t1 c.digits-next.ensures (omega (arith, c.requires, y.0, c.mark-month.ensures.next, c.digits-next.ensures.next)) in
    let t3 = wrote_then t2 c.mark-last.ensures (omega (arith, c.requires, y.0, c.mark-month.ensures.next, c.digits-next.ensures.next, c.mark-last.ensures.next)) in
    let t4 = wrote_then t3 c.digits.ensures (omega (arith, c.requires, y.0, c.mark-month.ensures.next, c.digits-next.ensures.next, c.mark-last.ensures.next, c.digits.ensures.next)) in (
      omega (arith, y.0, c.mark-month.ensures.next, c.digits-next.ensures.next, c.mark-last.ensures.next, c.digits.ensures.next),
      wrote-text _ t4 (date-is c.day_of-day.result _ c.args.days _ c.from.result c.from-2.result c.day_of-day.ensures (to_z-of_z {w = w64} c.ranges.days) (search rules) c.from.ensures c.from-2.ensures),
    )
