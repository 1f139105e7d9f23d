use mathlib.Core.Path.{sym, ◌∙◌}
use lib.ListN.{length}
use Rattle.opening.specs.Opening.{under}
use Rattle.tapes.proofs.Laws.{outcome-20}
use Rattle.tapes.proofs.check_tape.Goals as goal

pub returns-in_default : goal.returns-in_default
returns-in_default c = let a = c.args in c.refuse_table.ensures ∙ outcome-20 a.context.table.now a.tape.now (under a.context.store.now a.context.customer (length a.scratch.now)) _ (sym c.in_default.is ∙ c.index_table.ensures.verdict)
