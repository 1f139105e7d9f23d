use Rattle.std.proofs.Common.{sym, refl, ◌∙◌, arith, rules}
use native.Mathlib.Nat.{sub-zero}
use Rattle.schema.specs.Table.{enums}
use Rattle.schema.specs.Layout.{width_in}
use Rattle.message.specs.Walk.{here}
use Rattle.message.proofs.CheckAnswers.{exits}
use Rattle.message.proofs.CheckFields.{items-passed, items-stopped, items-end, items_left}
use Rattle.message.proofs.check_numbers.Goals as goal

pub loop-init : goal.loop-init
loop-init c = let q = c.from-width.ensures ∙ c.tested_width.ensures (enums c.args.table.now) (width_in c.args.index.now) in
    record { inside = rw (sub-zero, q) c.requires.1; fits = search rules; counts = λ y I S area F. rw sub-zero refl }

pub check_number-requires : goal.check_number-requires
check_number-requires c = let q = c.from-width.ensures ∙ c.tested_width.ensures (enums c.args.table.now) (width_in c.args.index.now) in
    (c.requires.0, omega (arith, q, c.loop.invariant.inside, items_left c.args.total c.loop.counter c.from-width.result c.loop-test.true), c.requires.2)

pub returns-in_err-step : goal.returns-in_err-step
returns-in_err-step c = λ y I S area F. let a = c.args in let l = c.loop in
    let q = c.from-width.ensures ∙ c.tested_width.ensures (enums a.table.now) (width_in a.index.now) in
    rw (exits _ _ c.from_residual.ensures.1, ← q) (items-stopped _ _ (here y a.bytes.now a.base area) a.total l.counter l.place l.step.length (F l.step.taken) F c.loop-test.true F _ (c.in_err-step.ensures y I S area F) ∙ sym (l.invariant.counts y I S area F))

pub loop-preserved : goal.loop-preserved
loop-preserved c = let a = c.args in let l = c.loop in record {
  inside = omega (arith, l.invariant.inside, items_left a.total l.counter c.from-width.result c.loop-test.true);
  fits = search rules;
  counts = λ y I S area F. l.invariant.counts y I S area F ∙ items-passed _ _ (here y a.bytes.now a.base area) a.total l.counter l.place l.step.length (F l.step.taken) F c.loop-test.true _ (c.in_ok-step.ensures y I S area F);
}

pub returns : goal.returns
returns c = λ y I S area F. let a = c.args in let l = c.loop in
    let q = c.from-width.ensures ∙ c.tested_width.ensures (enums a.table.now) (width_in a.index.now) in
    rw (← q) (items-end _ _ (here y a.bytes.now a.base area) a.total l.counter l.place l.step.length (F l.step.taken) F _ refl refl c.loop-test.false l.invariant.fits ∙ sym (l.invariant.counts y I S area F))
