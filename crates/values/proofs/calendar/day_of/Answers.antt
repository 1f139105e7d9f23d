use mathlib.Core.Path.{◌∙◌}
use Rattle.std.proofs.lemmas.Int.{to_z-of_z}
use mir.Syntax.{w64}
use Rattle.values.proofs.Days.{day-before, day-from}
use Rattle.values.proofs.calendar.day_of.Goals as goal

pub returns-then-days-lt0 : goal.returns-then-days-lt0
returns-then-days-lt0 c = let e = to_z-of_z w64 c.args.days c.ranges.days in
    let u = c.unsigned_abs-n.ensures.value in
    c.day_in.ensures ∙ rw (u, e) (day-before c.args.days (rw e at c.if-days-lt0.true))

pub returns : goal.returns
returns c = let e = to_z-of_z w64 c.args.days c.ranges.days in
    c.day_in-2.ensures ∙ rw e (day-from c.args.days (rw e at c.if-days-lt0.false))
