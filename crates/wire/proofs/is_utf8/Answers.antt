use mathlib.Core.Path.{sym, ◌∙◌}
use Rattle.wire.proofs.Forms.{utf8-end}
use Rattle.wire.proofs.is_utf8.Goals as goal

pub loop-i-preserved : goal.loop-i-preserved
loop-i-preserved c = (c.in-Some.ensures.inside, c.loop-i.invariant.1 ∙ c.in-Some.ensures.passes)

pub returns-then-rest-i : goal.returns-then-rest-i
returns-then-rest-i c = sym (c.loop-i.invariant.1 ∙ utf8-end _ _ c.if-rest-i.true)
