use Rattle.std.proofs.Common.{◌≡◌, suc, ◌-◌, sym, ◌∙◌, arith, eq-eqb, ne_eqb}
use Rattle.settings.proofs.Last.{last-hit, last-miss, last_none}
use Rattle.store.proofs.newest.Goals as goal

pub returns-then-read_u16-customer : goal.returns-then-read_u16-customer
returns-then-read_u16-customer c = let l = c.loop-k in let q : suc (l.k - 1) ≡ l.k = omega (arith, c.loop-k-test.true) in
    (q ∙ sym (l.invariant ∙ last-hit _ l.k c.loop-k-test.true (eq-eqb _ _ (sym c.read_u16.ensures.0 ∙ c.if-read_u16-customer.true))), omega arith)

pub loop-k-preserved : goal.loop-k-preserved
loop-k-preserved c = let l = c.loop-k in
    l.invariant ∙ last-miss _ l.k c.loop-k-test.true (ne_eqb _ _ (λ e. c.if-read_u16-customer.false (c.read_u16.ensures.0 ∙ e)))

pub returns : goal.returns
returns c = (last_none _ c.loop-k.k c.loop-k-test.false ∙ sym c.loop-k.invariant, omega arith)
