use Rattle.std.proofs.Common.{◌-◌, sym, ◌∙◌, length, arith}
use Rattle.store.specs.Check.{standing}
use Rattle.store.proofs.Laws.{run-turn, run-stop, stands-short}
use Rattle.store.proofs.count_standing.Goals as goal

pub returns-then-not-is_standing : goal.returns-then-not-is_standing
returns-then-not-is_standing c = let st = c.args.store.now in let l = c.loop-n in
    (sym (l.invariant ∙ run-stop (standing st) (length st - l.n) l.n (sym c.is_standing.ensures ∙ c.if-not-is_standing.true)), omega (arith, c.loop-n-test.true))

pub loop-n-preserved : goal.loop-n-preserved
loop-n-preserved c = let st = c.args.store.now in let l = c.loop-n in
    l.invariant ∙ run-turn (standing st) (length st) l.n (omega (arith, c.loop-n-test.true)) (sym c.is_standing.ensures ∙ c.if-not-is_standing.false)

pub returns : goal.returns
returns c = let st = c.args.store.now in let l = c.loop-n in
    (sym (l.invariant ∙ run-stop (standing st) (length st - l.n) l.n (sym (stands-short st l.n (omega (arith, c.loop-n-test.false)))) ∙ omega (arith, c.loop-n-test.false, l.auto.n-end)), omega arith)
