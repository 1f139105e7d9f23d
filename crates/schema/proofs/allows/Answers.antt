use Rattle.std.proofs.Common.{◌-◌, sym, ◌∙◌, arith}
use Rattle.schema.specs.Table.{schema}
use Rattle.schema.proofs.Groups.{allows-any, allows-under, under_same, under_top, under_next, placed-super}
use Rattle.schema.proofs.allows.Goals as goal

pub returns-in_default : goal.returns-in_default
returns-in_default c = allows-any (schema c.args.table.now) _ c.args.group (omega (arith, c.in_default.ensures))

pub returns-in_default-checked_sub : goal.returns-in_default-checked_sub
returns-in_default-checked_sub c = let gs = schema c.args.table.now in let i = c.loop-above.invariant in
    let s = rw c.group_place.ensures.0 at c.super_number-number.ensures.0 ∙ sym (placed-super _ _ _ c.requires.0.placed _ i.0) in
    sym (allows-under gs _ _ _ (c.in-Some.ensures) ∙ i.1.2
    ∙ under_top gs _ _ _ _ s (c.requires.0.supers _) (λ e. c.loop-above-test.true (sym e)) i.1.1 (omega (arith, c.in_default-checked_sub.ensures)))

pub loop-above-smaller : goal.loop-above-smaller
loop-above-smaller c =
    let s = rw c.group_place.ensures.0 at c.super_number-number.ensures.0 ∙ sym (placed-super _ _ _ c.requires.0.placed _ c.loop-above.invariant.0) in
    let n = c.in-Some-checked_sub.ensures in omega (arith, c.requires.0.supers c.loop-above.above, s, n.0, n.1)

pub loop-above-preserved : goal.loop-above-preserved
loop-above-preserved c = let gs = schema c.args.table.now in let i = c.loop-above.invariant in
    let s = rw c.group_place.ensures.0 at c.super_number-number.ensures.0 ∙ sym (placed-super _ _ _ c.requires.0.placed _ i.0) in
    let low = c.requires.0.supers c.loop-above.above in
    let n = c.in-Some-checked_sub.ensures in (
      omega (arith, s, low, n.0, n.1, i.0),
      (i.1.0 - 1, omega (arith, s, low, n.0, n.1, i.1.1), rw n.1 (i.1.2 ∙ under_next gs _ _ _ _ s low (λ e. c.loop-above-test.true (sym e)) i.1.1 (omega (arith, n.0)))),
    )

pub returns : goal.returns
returns c = let gs = schema c.args.table.now in
    sym (allows-under gs _ _ _ (c.in-Some.ensures) ∙ c.loop-above.invariant.1.2 ∙ under_same gs _ _ _ (sym c.loop-above-test.false))
