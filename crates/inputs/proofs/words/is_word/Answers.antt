use Rattle.std.proofs.Common.{rules}
use Rattle.std.proofs.lemmas.Bool.Decides.{Decides-eqb}
use Rattle.std.proofs.lemmas.Slice.Eq.{slice_eq-Decides}
use Rattle.inputs.proofs.Laws.{same-decides}
use Rattle.inputs.proofs.words.is_word.Goals as goal

pub returns : goal.returns
returns c = let h = slice_eq-Decides Decides-eqb c.args.argument.now c.args.word.now c.eq.result c.eq.ensures in search (rules, h, same-decides)
