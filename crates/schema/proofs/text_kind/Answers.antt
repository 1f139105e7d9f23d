use Rattle.std.proofs.Common.{eq-eqb, ne_eqb}
use Rattle.schema.specs.FieldKinds.{kind_from, text_kind}
use Rattle.schema.proofs.text_kind.Goals as goal

pub returns-then-capacity-eq0 : goal.returns-then-capacity-eq0
unfolding kind_from text_kind
returns-then-capacity-eq0 c = λ es. simp (eq-eqb _ _ c.if-capacity-eq0.true, text_kind, kind_from)

pub returns-else-capacity-eq0 : goal.returns-else-capacity-eq0
unfolding kind_from text_kind
returns-else-capacity-eq0 c = λ es. simp (ne_eqb _ _ c.if-capacity-eq0.false, text_kind, kind_from)
