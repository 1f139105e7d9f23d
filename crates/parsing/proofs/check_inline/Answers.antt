use mathlib.Core.Path.{sym, ◌∙◌}
use native.Mathlib.Omega.{arith}
use Rattle.sheet.proofs.ShowReaders.{is-ST}
use Rattle.parsing.proofs.Answers.{handed}
use Rattle.parsing.proofs.Values.{inline-bad, inline-over, inline-good, inline-wrong}
use Rattle.parsing.proofs.check_inline.Goals as goal

pub returns-in_err-count : goal.returns-in_err-count
returns-in_err-count c = let a = c.args in λ I S. rw (handed c.from_residual.ensures.1) (inline-bad a.sheet.now a.place a.before c.requires a.utf8 I S a.capacity _ (rw is-ST at c.in_err-count.ensures))

pub returns-then-from-count : goal.returns-then-from-count
returns-then-from-count c = let a = c.args in let n = c.in_ok-count.ensures in λ I S. inline-over a.sheet.now a.place a.before c.requires a.utf8 I S a.capacity (rw is-ST at n.0) _ n.1 (omega arith)

pub returns-then-not-is_text : goal.returns-then-not-is_text
returns-then-not-is_text c = let a = c.args in let n = c.in_ok-count.ensures in λ I S. inline-wrong a.sheet.now a.place a.before c.requires a.utf8 I S a.capacity (rw is-ST at n.0) _ n.1 (omega arith) (sym c.is_text.ensures ∙ c.if-not-is_text.true)

pub returns : goal.returns
returns c = let a = c.args in let n = c.in_ok-count.ensures in λ I S. inline-good a.sheet.now a.place a.before c.requires a.utf8 I S a.capacity (rw is-ST at n.0) _ n.1 (omega arith) (sym c.is_text.ensures ∙ c.if-not-is_text.false)
