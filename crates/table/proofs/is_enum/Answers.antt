use Rattle.std.proofs.Common.{eq-eqb, ne_eqb}
use Rattle.schema.specs.Table.{is_enum}
use Rattle.table.proofs.is_enum.Goals as goal

pub returns-then-shape-eq0 : goal.returns-then-shape-eq0
unfolding is_enum
returns-then-shape-eq0 c = rw (eq-eqb _ _ c.if-shape-eq0.true) c.has_mark.ensures

pub returns-else-shape-eq0 : goal.returns-else-shape-eq0
unfolding is_enum
returns-else-shape-eq0 c = rw (ne_eqb _ _ c.if-shape-eq0.false)
