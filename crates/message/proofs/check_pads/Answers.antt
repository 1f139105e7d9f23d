use Rattle.std.proofs.Common.{sym, refl, ◌∙◌}
use Rattle.message.proofs.CheckAnswers.{refuses, counts}
use Rattle.message.proofs.CheckGroups.{closing-clean, closing-dirty}
use Rattle.message.proofs.check_pads.Goals as goal

pub returns-then-are_pads_blank : goal.returns-then-are_pads_blank
returns-then-are_pads_blank c = let a = c.args in counts _ _ _ _ _ (closing-clean _ a.bytes.now a.frame.base a.frame.area _ (rw c.ignores_pads.ensures at (sym c.are_pads_blank.ensures ∙ c.if-are_pads_blank.true))) refl

pub returns : goal.returns
returns c = let a = c.args in refuses _ _ _ _ (closing-dirty _ a.bytes.now a.frame.base a.frame.area _ _ c.bad_pad.ensures.0 (rw c.ignores_pads.ensures at (sym c.are_pads_blank.ensures ∙ c.if-are_pads_blank.false)))
