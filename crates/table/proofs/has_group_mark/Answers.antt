use Rattle.std.proofs.Common.{sym, ◌∙◌}
use Rattle.schema.specs.Table.{group_marked}
use Rattle.table.proofs.has_group_mark.Goals as goal

pub returns-then-has_mark : goal.returns-then-has_mark
unfolding group_marked
returns-then-has_mark c = rw (sym c.has_mark.ensures ∙ c.if-has_mark.true) cc

pub returns-else-has_mark : goal.returns-else-has_mark
unfolding group_marked
returns-else-has_mark c = rw (sym c.has_mark.ensures ∙ c.if-has_mark.false) cc
