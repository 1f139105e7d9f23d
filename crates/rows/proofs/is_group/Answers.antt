use Rattle.schema.specs.Table.{group_marked}
use Rattle.rows.proofs.is_group.Goals as goal

pub returns-then-has_mark : goal.returns-then-has_mark
unfolding group_marked
returns-then-has_mark c = rw (← c.has_mark.ensures, c.if-has_mark.true)

pub returns-else-has_mark : goal.returns-else-has_mark
unfolding group_marked
returns-else-has_mark c = rw (← c.has_mark.ensures, c.if-has_mark.false) c.has_mark-else-has_mark.ensures
