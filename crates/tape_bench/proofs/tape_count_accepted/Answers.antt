use mathlib.Core.Path.{sym, ◌∙◌}
use Rattle.tape_bench.proofs.Laws.{none}
use Rattle.tape_bench.proofs.tape_count_accepted.Goals as goal

pub returns-in_default : goal.returns-in_default
returns-in_default c = none _ _ _ _ (sym c.in_default.is ∙ c.index_table.ensures.verdict)
