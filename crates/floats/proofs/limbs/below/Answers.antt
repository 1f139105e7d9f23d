use mathlib.Core.Path.{◌≡◌, refl, ap, ◌∙◌}
use native.Mathlib.Omega.{arith}
use Rattle.std.specs.Ordering.{is_lt, nat_cmp}
use Rattle.std.proofs.lemmas.Iterator.Adapters.{YieldsList-from_rev_slice}
use Rattle.std.proofs.lemmas.Iterator.Search.{cmp_from_yields_List}
use Rattle.floats.proofs.Values.{below-is}
use Rattle.floats.proofs.limbs.below.Goals as goal

pub returns : goal.returns
returns c = let a = c.args.a.now in let b = c.args.b.now in
    c.is_lt.ensures
    ∙ ap is_lt (cmp_from_yields_List (λ x y. y ≡ x) _ nat_cmp _ c.cmp.ensures.ran (YieldsList-from_rev_slice a cc) (λ it e. YieldsList-from_rev_slice b cc) (λ x y. refl))
    ∙ below-is a b c.requires (λ j. omega (arith, c.type_inv.a j)) (λ j. omega (arith, c.type_inv.b j))
