use mathlib.Core.Path.{refl}
use Rattle.values.specs.Calendar.{year_in}
use Rattle.values.proofs.Days.{year-in}
use Rattle.values.proofs.calendar.year_in.Goals as goal

pub returns : goal.returns
unfolding year_in
returns c = let e = c.min-hundreds.ensures in
    let f = c.min-ones.ensures in
    let l = year-in c.args.n c.requires in
    rw (f, e) (refl, l.0, l.1, l.2)
