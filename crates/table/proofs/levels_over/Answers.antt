use Rattle.std.proofs.Common.{eq-eqb, ne_eqb}
use Rattle.table.specs.Measure.{levels_over}
use Rattle.table.proofs.levels_over.Goals as goal

pub returns-then-index-g-eq0 : goal.returns-then-index-g-eq0
unfolding levels_over
returns-then-index-g-eq0 c = rw (eq-eqb _ _ c.if-index-g-eq0.true)

pub returns : goal.returns
unfolding levels_over
returns c = rw (ne_eqb _ _ c.if-index-g-eq0.false, c.group_levels.ensures.0)
