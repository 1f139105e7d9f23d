use Rattle.std.proofs.Common.{sym, refl, ◌∙◌}
use Rattle.message.proofs.CheckAnswers.{refuses, counts}
use Rattle.message.proofs.CheckValues.{flag-wrong, absent-dirty, absent-counts}
use Rattle.message.proofs.check_absent.Goals as goal

pub returns-then-bytes-at-ne0 : goal.returns-then-bytes-at-ne0
returns-then-bytes-at-ne0 c = λ k R F. let a = c.args in refuses F _ _ _ (flag-wrong _ k a.width R a.bytes.now a.frame.base a.frame.area a.at (F a.taken) _ refl c.requires.0 c.if-bytes-at-ne0.true)

pub returns-then-is_blank : goal.returns-then-is_blank
returns-then-is_blank c = λ k R F. let a = c.args in counts F _ _ _ 2 (absent-counts _ k a.width R a.bytes.now a.frame.base a.frame.area a.at (F a.taken) _ refl c.requires.0 c.if-bytes-at-ne0.false (rw c.ignores_absent.ensures at (sym c.is_blank.ensures ∙ c.if-is_blank.true))) refl

pub returns : goal.returns
returns c = λ k R F. let a = c.args in refuses F _ _ _ (absent-dirty _ k a.width R a.bytes.now a.frame.base a.frame.area a.at (F a.taken) _ refl c.requires.0 c.if-bytes-at-ne0.false _ c.count_zeros.ensures.0 (rw c.ignores_absent.ensures at (sym c.is_blank.ensures ∙ c.if-is_blank.false)))
