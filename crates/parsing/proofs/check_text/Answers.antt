use mathlib.Core.Path.{sym, ◌∙◌}
use Rattle.sheet.proofs.ShowReaders.{is-ST}
use Rattle.parsing.proofs.Answers.{handed}
use Rattle.parsing.proofs.Values.{text-bad, text-good, text-wrong}
use Rattle.parsing.proofs.check_text.Goals as goal

pub returns-in_err-count : goal.returns-in_err-count
returns-in_err-count c = let a = c.args in rw (handed c.from_residual.ensures.1) (text-bad a.sheet.now a.place a.before c.requires a.utf8 _ (rw is-ST at c.in_err-count.ensures))

pub returns-then-not-is_text : goal.returns-then-not-is_text
returns-then-not-is_text c = let a = c.args in let n = c.in_ok-count.ensures in text-wrong a.sheet.now a.place a.before c.requires a.utf8 (rw is-ST at n.0) _ n.1 (sym c.is_text.ensures ∙ c.if-not-is_text.true)

pub returns : goal.returns
returns c = let a = c.args in let n = c.in_ok-count.ensures in text-good a.sheet.now a.place a.before c.requires a.utf8 (rw is-ST at n.0) _ n.1 (sym c.is_text.ensures ∙ c.if-not-is_text.false) _ c.longer.ensures.0
