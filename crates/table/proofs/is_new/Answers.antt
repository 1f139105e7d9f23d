use Rattle.std.proofs.Common.{sym, ◌∙◌}
use Rattle.table.proofs.Laws.{id-test}
use Rattle.table.proofs.is_new.Goals as goal

pub returns-else-not-has_id : goal.returns-else-not-has_id
returns-else-not-has_id c = rw (sym c.has_id.ensures ∙ c.if-not-has_id.false) (id-test _ _ _ _ _ c.requires.2 c.type_id.ensures c.find.ensures.0)
