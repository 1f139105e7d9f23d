use Rattle.settings.specs.Store.{above}
use Rattle.store.proofs.is_above.Goals as goal

pub returns-in-Some : goal.returns-in-Some
unfolding above
returns-in-Some c = rw (c.in-Some.is, c.read_u16.ensures.0)

pub returns-in-None : goal.returns-in-None
unfolding above
returns-in-None c = rw c.in-None.is
