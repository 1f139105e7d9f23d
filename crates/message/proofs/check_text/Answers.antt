use Rattle.std.proofs.Common.{sym, refl, ◌∙◌}
use Rattle.message.specs.Check.{occupancy_of}
use Rattle.message.proofs.CheckAnswers.{exits, refuses, counts}
use Rattle.message.proofs.CheckValues.{text-lost, text-bad, text-counts}
use Rattle.message.proofs.check_text.Goals as goal

pub returns-in_err-found : goal.returns-in_err-found
returns-in_err-found c = let a = c.args in
    rw (exits _ _ c.from_residual.ensures.1) (refuses _ _ _ _ (text-lost _ a.utf8 a.bytes.now a.frame.base a.frame.area a.at (occupancy_of a.frame.area a.taken a.occupied.now) _ _ c.in_err-found.ensures.0))

pub returns-then-not-is_text : goal.returns-then-not-is_text
returns-then-not-is_text c = let a = c.args in refuses _ _ _ _ (text-bad _ a.utf8 a.bytes.now a.frame.base a.frame.area a.at (occupancy_of a.frame.area a.taken a.occupied.now) _ _ c.in_ok-found.ensures.0 (sym c.is_text.ensures ∙ c.if-not-is_text.true))

pub returns : goal.returns
returns c = let a = c.args in counts _ _ _ _ _ (text-counts _ a.utf8 a.bytes.now a.frame.base a.frame.area a.at (occupancy_of a.frame.area a.taken a.occupied.now) _ _ c.in_ok-found.ensures.0 (sym c.is_text.ensures ∙ c.if-not-is_text.false) c.in_ok-found.ensures.1.inside) refl
