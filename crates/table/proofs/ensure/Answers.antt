use Rattle.std.proofs.Common.{sym}
use Rattle.table.proofs.Laws.{need-yes, need-no}
use Rattle.table.proofs.ensure.Goals as goal

pub returns-then-holds : goal.returns-then-holds
returns-then-holds c = sym (need-yes _ _ _ c.if-holds.true)

pub returns-else-holds : goal.returns-else-holds
returns-else-holds c = sym (need-no _ _ _ c.if-holds.false)
