use Rattle.std.proofs.Common.{◌≡◌, ◌+◌, ◌-◌, sym, ◌∙◌, arith}
use Rattle.settings.proofs.Last.{last-hit, last-miss, last_none}
use Rattle.printing.proofs.store.newest.Goals as goal

pub loop-n-preserved : goal.loop-n-preserved
loop-n-preserved c = c.loop-n.invariant ∙ last-miss _ c.loop-n.n c.loop-n-test.true (sym c.is_of.ensures ∙ c.if-is_of.false)

pub returns-then-is_of : goal.returns-then-is_of
returns-then-is_of c =
    let e : c.loop-n.n - 1 + 1 ≡ c.loop-n.n = omega arith in
    e ∙ sym (c.loop-n.invariant ∙ last-hit _ c.loop-n.n c.loop-n-test.true (sym c.is_of.ensures ∙ c.if-is_of.true))

pub returns : goal.returns
returns c = last_none _ c.loop-n.n c.loop-n-test.false ∙ sym c.loop-n.invariant
