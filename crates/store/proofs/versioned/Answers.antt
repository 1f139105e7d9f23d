use Rattle.std.proofs.Common.{◌≡◌, suc, ◌-◌, sym, ◌∙◌, arith}
use Rattle.settings.proofs.Last.{last-hit, last-miss, last_none}
use Rattle.store.proofs.versioned.Goals as goal

pub returns-then-is_version : goal.returns-then-is_version
returns-then-is_version c = let l = c.loop-k in let q : suc (l.k - 1) ≡ l.k = omega (arith, c.loop-k-test.true) in
    (q ∙ sym (l.invariant ∙ last-hit _ l.k c.loop-k-test.true (sym c.is_version.ensures ∙ c.if-is_version.true)), omega arith)

pub loop-k-preserved : goal.loop-k-preserved
loop-k-preserved c = let l = c.loop-k in l.invariant ∙ last-miss _ l.k c.loop-k-test.true (sym c.is_version.ensures ∙ c.if-is_version.false)

pub returns : goal.returns
returns c = (last_none _ c.loop-k.k c.loop-k-test.false ∙ sym c.loop-k.invariant, omega arith)
