use Rattle.std.proofs.Common.{◌-◌, sym, ◌∙◌, arith}
use lib.ListN.{length-set}
use Rattle.store.specs.Check.{rising}
use Rattle.store.proofs.Laws.{run-stop, run_end, run-turn, seen_next, rises}
use Rattle.store.proofs.rising_in.Goals as goal

pub returns-then-not-is_rising : goal.returns-then-not-is_rising
returns-then-not-is_rising c = let st = c.args.store.now in
    let l = c.loop-k in
    let r = rises st l.slots l.k _ c.read_u16.ensures.0 l.invariant.2 in
    (sym (l.invariant.1 ∙ run-stop (rising st) (c.args.n - l.k) l.k (sym r ∙ sym c.is_rising.ensures ∙ c.if-not-is_rising.true)), omega (arith, c.loop-k-test.true))

pub loop-k-preserved : goal.loop-k-preserved
loop-k-preserved c = let st = c.args.store.now in
    let l = c.loop-k in
    let e = c.read_u16.ensures.0 in
    let r = rises st l.slots l.k _ e l.invariant.2 in
    (length-set l.slots _ _ ∙ l.invariant.0, l.invariant.1 ∙ run-turn (rising st) c.args.n l.k c.loop-k-test.true (sym r ∙ sym c.is_rising.ensures ∙ c.if-not-is_rising.false), seen_next st l.slots l.k _ e l.invariant.2 (omega (arith, l.invariant.0, c.requires.1)))

pub returns : goal.returns
returns c = let l = c.loop-k in (sym (l.invariant.1 ∙ run_end (rising c.args.store.now) c.args.n l.k c.loop-k-test.false l.auto.k-end), omega arith)
