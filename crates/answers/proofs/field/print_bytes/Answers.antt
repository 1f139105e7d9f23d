use Rattle.std.proofs.lemmas.Result.{err_from_is_err_and}
use mathlib.Core.Path.{sym, ◌∙◌}
use Rattle.reading.specs.Part.{verdict_of}
use Rattle.answers.proofs.Laws.{of-part}
use Rattle.answers.proofs.field.print_bytes.Goals as goal

pub returns-in_err-part : goal.returns-in_err-part
unfolding verdict_of
returns-in_err-part c = let p = err_from_is_err_and c.from_residual.result c.from_residual.ensures.1 in rw (p.1, p.2) (of-part _ _ _ _ _ _ (sym c.in_err-part.was ∙ c.find_bytes.ensures.value))

pub returns : goal.returns
unfolding verdict_of
returns c = of-part _ _ _ _ _ _ (sym c.in_ok-part.was ∙ c.find_bytes.ensures.value)
