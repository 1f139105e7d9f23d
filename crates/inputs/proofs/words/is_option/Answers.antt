use Rattle.std.proofs.Common.{rules, take, sym, ◌∷◌, []}
use Rattle.std.proofs.lemmas.Bool.Decides.{Decides-eqb}
use Rattle.std.proofs.lemmas.Slice.Eq.{slice_eq-Decides}
use Rattle.inputs.proofs.Laws.{same-decides}
use Rattle.inputs.proofs.words.is_option.Goals as goal

pub returns : goal.returns
returns c =
    let s = take 2 c.args.argument.now in
    let h = slice_eq-Decides Decides-eqb (45 ∷ 45 ∷ []) s c.starts_with.result c.starts_with.ensures.value in
    let k = same-decides s (45 ∷ 45 ∷ []) in
    search (rules, h, k, sym)
