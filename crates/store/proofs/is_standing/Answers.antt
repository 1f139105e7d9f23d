use Rattle.std.proofs.Common.{sym, ◌∙◌}
use Rattle.store.proofs.Laws.{stands-not, stands-flags}
use Rattle.store.proofs.is_standing.Goals as goal

pub returns-then-has_mark : goal.returns-then-has_mark
returns-then-has_mark c = rw c.flags_of.ensures at c.are_good.ensures ∙ stands-flags c.args.store.now c.args.n c.requires (sym c.has_mark.ensures ∙ c.if-has_mark.true)

pub returns-else-has_mark : goal.returns-else-has_mark
returns-else-has_mark c = c.if-has_mark.false ∙ stands-not c.args.store.now c.args.n c.requires (sym c.has_mark.ensures ∙ c.if-has_mark.false)
