use Rattle.std.proofs.Common.{sym, refl, ◌∙◌, arith, rules}
use native.Mathlib.Nat.{sub-zero}
use Rattle.message.specs.Check.{occupancy_of, within}
use Rattle.message.proofs.CheckAnswers.{exits, bounded}
use Rattle.message.proofs.CheckFields.{items-passed, items-stopped, items-end, items_left}
use Rattle.message.proofs.check_texts.Goals as goal

pub loop-init : goal.loop-init
loop-init c = record { inside = rw sub-zero c.requires.3; fits = search rules; counts = rw sub-zero refl }

pub check_text-requires : goal.check_text-requires
check_text-requires c = let a = c.args in (search rules, c.requires.1, c.requires.2, omega (arith, c.loop.invariant.inside, items_left a.total c.loop.counter 4 c.loop-test.true))

pub returns-in_err-step : goal.returns-in_err-step
returns-in_err-step c = let a = c.args in let l = c.loop in
    rw (exits _ _ c.from_residual.ensures.1) (items-stopped 4 _ (within a.bytes.now a.frame) a.total l.counter l.place l.step.length (occupancy_of a.frame.area l.step.taken l.occupied) _ c.loop-test.true _ _ c.in_err-step.ensures ∙ sym l.invariant.counts)

pub loop-preserved : goal.loop-preserved
loop-preserved c = let a = c.args in let l = c.loop in record {
  inside = omega (arith, l.invariant.inside, items_left a.total l.counter 4 c.loop-test.true);
  fits = bounded _ _ _ _ c.in_ok-step.ensures;
  counts = l.invariant.counts ∙ items-passed 4 _ (within a.bytes.now a.frame) a.total l.counter l.place l.step.length (occupancy_of a.frame.area l.step.taken l.occupied) _ c.loop-test.true _ c.in_ok-step.ensures;
}

pub returns : goal.returns
returns c = let a = c.args in let l = c.loop in items-end 4 _ (within a.bytes.now a.frame) a.total l.counter l.place l.step.length (occupancy_of a.frame.area l.step.taken l.occupied) _ _ refl refl c.loop-test.false l.invariant.fits ∙ sym l.invariant.counts
