use Rattle.std.proofs.Common.{◌-◌, sym, ◌∙◌, arith}
use Rattle.store.specs.Check.{rising}
use Rattle.store.proofs.Laws.{run-stop, run_end, run-turn, rising-all}
use Rattle.store.proofs.few_rising.Goals as goal

pub returns-then-not-is_rising : goal.returns-then-not-is_rising
returns-then-not-is_rising c = let st = c.args.store.now in let l = c.loop-k in
    (sym (l.invariant ∙ run-stop (rising st) (c.args.n - l.k) l.k (rising-all st l.k ∙ sym c.is_rising.ensures ∙ c.if-not-is_rising.true)), omega (arith, c.loop-k-test.true))

pub loop-k-preserved : goal.loop-k-preserved
loop-k-preserved c = let st = c.args.store.now in let l = c.loop-k in
    l.invariant ∙ run-turn (rising st) c.args.n l.k c.loop-k-test.true (rising-all st l.k ∙ sym c.is_rising.ensures ∙ c.if-not-is_rising.false)

pub returns : goal.returns
returns c = let l = c.loop-k in (sym (l.invariant ∙ run_end (rising c.args.store.now) c.args.n l.k c.loop-k-test.false l.auto.k-end), omega arith)
