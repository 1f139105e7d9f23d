use Rattle.std.proofs.Common.{sym, ◌∙◌}
use Rattle.fields.proofs.Laws.{left_step, left_false, left-none, other_length}
use Rattle.fields.proofs.have_signature.Goals as goal

pub returns-then-signature-count : goal.returns-then-signature-count
returns-then-signature-count c = λ es. sym (other_length es _ _ _ c.if-signature-count.true)

pub returns-then-not-has_signature : goal.returns-then-not-has_signature
returns-then-not-has_signature c = λ es. sym (c.loop-i.invariant.1 es ∙ left_false es _ _ _ _ _ c.loop-i.invariant.0 c.loop-i-test.true (sym (c.has_signature.ensures es) ∙ c.if-not-has_signature.true))

pub loop-i-preserved : goal.loop-i-preserved
loop-i-preserved c = (c.loop-i.invariant.0, λ es. c.loop-i.invariant.1 es ∙ left_step es _ _ _ _ _ c.loop-i.invariant.0 c.loop-i-test.true (sym (c.has_signature.ensures es) ∙ c.if-not-has_signature.false))

pub returns : goal.returns
returns c = λ es. sym (c.loop-i.invariant.1 es ∙ left-none es _ _ _ _ _ c.loop-i.invariant.0 c.loop-i-test.false c.loop-i.auto.i-end)
