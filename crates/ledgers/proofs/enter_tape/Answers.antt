use mathlib.Core.Path.{sym, ◌∙◌}
use lib.ListN.{length}
use Rattle.opening.specs.Opening.{under}
use Rattle.ledger.specs.Ledger.{lines}
use Rattle.ledgers.proofs.Laws.{fills-20}
use Rattle.ledgers.proofs.enter_tape.Goals as goal

pub returns-in_default : goal.returns-in_default
returns-in_default c = let a = c.args in fills-20 a.context.table.now a.tape.now (under a.context.store.now a.context.customer (length a.scratch.now)) a.id _ (lines a.ledger.now a.start) _ (sym c.in_default.is ∙ c.index_table.ensures.verdict) c.refuse_all.ensures.0 c.refuse_all.ensures.1
