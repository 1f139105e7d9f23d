use mathlib.Core.Path.{◌∙◌, refl}
use Prim.Native.Nat.{◌*◌, ◌/◌}
use native.Mathlib.Omega.{arith}
use lib.ListN.{length}
use borrow.Author.Tests.{tests}
use borrow.Author.Rules.{rules}
use Rattle.std.proofs.lemmas.Iterator.{YieldsList-from_range, YieldsList-from_map}
use Rattle.std.proofs.lemmas.Iterator.Consumers.{YieldsList-at}
use Rattle.std.proofs.lemmas.Iterator.Search.{find_from_yields_List}
use Rattle.rows.proofs.Places.{named, place-named}
use Rattle.rows.proofs.group_named.Goals as goal

pub returns : goal.returns
returns c = let t = c.args.table.now in
    c.unwrap_or.ensures
    ∙ place-named t c.args.id _
    (find_from_yields_List (named t c.args.id) _ _ _ c.find.ensures.ran
    (YieldsList-from_map _ (λ k. 16 * k) (YieldsList-at c.map.ensures.source (YieldsList-from_range 0 _ (length t / 16) refl (omega arith))) c.map.ensures.closure (λ x r q k. search (rules, tests)))
    (λ x b q k. search (rules, tests)))
