use mathlib.Core.Path.{sym}
use Rattle.table.proofs.Laws.{zeros-at}
use Rattle.table.proofs.ends_zero.Goals as goal

pub returns : goal.returns
returns c = let a = c.args in
    sym (zeros-at 8 8 a.p _ a.table.now c.read_u64.ensures)
