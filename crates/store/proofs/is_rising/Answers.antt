use mathlib.Core.Path.{◌∙◌}
use Rattle.store.proofs.Laws.{rising-is}
use Rattle.store.proofs.is_rising.Goals as goal

pub returns : goal.returns
returns c = let a = c.args in
    c.is_above.ensures ∙ rising-is a.store.now a.k a.from _ _ _ c.read_u16-2.ensures.0 c.read_u16.ensures.0 c.newest-last.ensures.0
