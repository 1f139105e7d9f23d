use Rattle.std.proofs.Common.{sym, ◌∙◌, arith}
use Rattle.schema.proofs.Symbols.{symbols-count, halves, running, running-on, running-over}
use Rattle.schema.proofs.has_symbol.Goals as goal

pub loop-search-init : goal.loop-search-init
loop-search-init c =
    let a = c.args in
    let p = c.requires in
    let n = symbols-count a.table.now a.index.now p.0 a.list p.1 ∙ sym c.symbol_total-total.ensures.0 in
    (omega (arith, n), running _ a.value _ n)

pub loop-search-smaller : goal.loop-search-smaller
loop-search-smaller c =
    let a = c.args in
    let n = halves _ a.value (c.requires.0.ordered a.list) c.loop-search.search c.loop-search-test.true c.loop-search.invariant.0 in
    rw c.halve-search.ensures (omega (arith, n.half, c.loop-search-test.true))

pub loop-search-preserved : goal.loop-search-preserved
loop-search-preserved c =
    let a = c.args in
    let o = c.requires.0.ordered a.list in
    let n = halves _ a.value o c.loop-search.search c.loop-search-test.true c.loop-search.invariant.0 in
    rw c.halve-search.ensures (omega (arith, n.among.1, c.loop-search.invariant.0), running-on _ a.value o _ c.loop-search-test.true c.loop-search.invariant.1)

pub returns : goal.returns
returns c =
    let a = c.args in
    let p = c.requires in
    let n = symbols-count a.table.now a.index.now p.0 a.list p.1 ∙ sym c.symbol_total-total.ensures.0 in
    rw (← n) (running-over _ a.value (p.0.ordered a.list) _ c.loop-search-test.false c.loop-search.invariant.1)
