use Rattle.message.proofs.CheckScopes.{opens-static}
use Rattle.message.proofs.open_group.Goals as goal

pub returns-in-Fields : goal.returns-in-Fields
returns-in-Fields c = λ m d at R F. let a = c.args in opens-static _ _ _ m a.frame d at _ _ _ c.in-Fields.is R F _
