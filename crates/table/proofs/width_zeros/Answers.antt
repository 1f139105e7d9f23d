use Rattle.std.proofs.Common.{sym, ◌∙◌}
use Rattle.table.proofs.Laws.{zeros-at}
use Rattle.table.proofs.width_zeros.Goals as goal

pub returns-else-has_mark : goal.returns-else-has_mark
returns-else-has_mark c = rw (sym c.has_mark.ensures ∙ c.if-has_mark.false) (sym (zeros-at 2 14 c.args.p _ c.args.table.now c.read_u16.ensures.0))
