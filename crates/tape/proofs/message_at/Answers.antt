use Rattle.std.proofs.Common.{refl, sym, ◌∙◌}
use Rattle.tape.proofs.Laws.{no_end, an-end, handed-none, from-none, handed-some, from_some}
use Rattle.tape.proofs.message_at.Goals as goal

pub returns : goal.returns
returns c = let e = an-end c.args.tape.now c.args.at _ (sym c.in-Some.is ∙ c.end_of.ensures.value) in record { what = e.bytes ∙ handed-some _ _ e.all; block = refl; offset = from_some _ _ e.all _ }

pub returns-in_default : goal.returns-in_default
returns-in_default c = let w = no_end c.args.tape.now c.args.at (sym c.in_default.is ∙ c.end_of.ensures.value) in record { what = handed-none _ _ w; block = refl; offset = from-none _ _ w _ }
