use mathlib.Core.Path.{◌∙◌, refl}
use Prim.Native.Nat.{◌*◌, ◌/◌}
use native.Mathlib.Omega.{arith}
use lib.ListN.{length, drop}
use borrow.Author.Tests.{tests}
use borrow.Author.Rules.{rules}
use Rattle.std.proofs.lemmas.Iterator.{YieldsList-from_range, YieldsList-from_map}
use Rattle.std.proofs.lemmas.Iterator.Consumers.{YieldsList-at, YieldsList-from_filter, nth_from_yields_List}
use Rattle.schema.specs.Table.{group_marked}
use Rattle.rows.proofs.Places.{place-numbered}
use Rattle.rows.proofs.group_numbered.Goals as goal

pub returns : goal.returns
returns c = let t = c.args.table.now in
    c.unwrap_or.ensures
    ∙ place-numbered t c.args.number _
    (nth_from_yields_List _ _ _ c.nth.ensures.ran
    (YieldsList-from_filter _ (λ at. group_marked (drop at t))
    (YieldsList-at c.filter.ensures.source (YieldsList-from_map _ (λ k. 16 * k) (YieldsList-at c.map.ensures.source (YieldsList-from_range 0 _ (length t / 16) refl (omega arith))) c.map.ensures.closure (λ x r q k. search (rules, tests))))
    c.filter.ensures.closure (λ x r q k. search (rules, tests))))
