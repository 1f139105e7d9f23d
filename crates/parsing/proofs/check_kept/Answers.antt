use mathlib.Core.Path.{sym, ap, ◌∙◌}
use Rattle.schema.specs.Schema.{known}
use Rattle.schema.specs.Table.{schema}
use Rattle.sheet.proofs.ShowReaders.{is-XU}
use Rattle.parsing.proofs.Answers.{handed}
use Rattle.parsing.proofs.Values.{kept-bad, kept-short, kept-known, kept-good}
use Rattle.parsing.proofs.check_kept.Goals as goal

pub returns-in_err-count : goal.returns-in_err-count
returns-in_err-count c = let a = c.args in λ I. rw (handed c.from_residual.ensures.1) (kept-bad a.sheet.now a.place a.before c.requires.1 (schema a.table.now) I c.requires.2 _ (rw is-XU at c.in_err-count.ensures))

pub returns-then-count-lt12 : goal.returns-then-count-lt12
returns-then-count-lt12 c = let a = c.args in let n = c.in_ok-count.ensures in λ I. kept-short a.sheet.now a.place a.before c.requires.1 (schema a.table.now) I c.requires.2 (rw is-XU at n.0) _ n.1 c.if-count-lt12.true

pub returns-then-is_known : goal.returns-then-is_known
returns-then-is_known c = let a = c.args in let n = c.in_ok-count.ensures in λ I. kept-known a.sheet.now a.place a.before c.requires.1 (schema a.table.now) I c.requires.2 (rw is-XU at n.0) _ n.1 c.if-count-lt12.false (ap (known (schema a.table.now)) (sym c.read_u64.ensures) ∙ sym c.is_known.ensures ∙ c.if-is_known.true)

pub returns : goal.returns
returns c = let a = c.args in let n = c.in_ok-count.ensures in λ I. kept-good a.sheet.now a.place a.before c.requires.1 (schema a.table.now) I c.requires.2 (rw is-XU at n.0) _ n.1 c.if-count-lt12.false (ap (known (schema a.table.now)) (sym c.read_u64.ensures) ∙ sym c.is_known.ensures ∙ c.if-is_known.false) _ c.longer.ensures.0
