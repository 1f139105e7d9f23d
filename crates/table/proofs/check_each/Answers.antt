use Rattle.std.proofs.Common.{◌≡◌, true, sym, ◌∙◌, arith, below_more}
use Rattle.schema.specs.Layout.{group_place}
use Rattle.table.proofs.Groups.{each-stop, each_turn, each-end}
use Rattle.table.proofs.check_each.Goals as goal

pub returns-then-not-passes : goal.returns-then-not-passes
returns-then-not-passes T c = λ test d.
    let l = c.loop-g in
    let P = c.requires.placing in
    let all = c.group_total-g-end.ensures.0 ∙ P.total in
    let i = l.invariant test d in
    let fails = sym (d l.g (omega (arith, all, c.loop-g-test.true)) i.0 _ c.if-not-passes.ensures) in
    rw c.group_place.ensures.0 (each-stop c.args.number test c.args.table.now c.args.index.now P _ all l.g i.1 c.loop-g-test.true fails)

pub loop-g-preserved : goal.loop-g-preserved
loop-g-preserved T c = λ test d.
    let l = c.loop-g in
    let P = c.requires.placing in
    let all = c.group_total-g-end.ensures.0 ∙ P.total in
    let i = l.invariant test d in
    let passes : test l.g (group_place c.args.index.now l.g) ≡ true = sym (d l.g (omega (arith, all, c.loop-g-test.true)) i.0 _ c.if-not-passes.ensures) in
    (below_more _ _ i.0 passes, each_turn c.args.number test c.args.table.now c.args.index.now P _ all l.g i.1 c.loop-g-test.true passes)

pub returns : goal.returns
returns T c = λ test d.
    let l = c.loop-g in
    let P = c.requires.placing in
    each-end c.args.number test c.args.table.now c.args.index.now P _ (c.group_total-g-end.ensures.0 ∙ P.total) l.g (l.invariant test d).1 l.auto.g-end c.loop-g-test.false
