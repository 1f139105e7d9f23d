use Rattle.std.proofs.Common.{◌∙◌, arith}
use Rattle.table.proofs.Widths.{grown-none, grown-more, down}
use Rattle.table.proofs.measure_groups.Goals as goal

pub loop-g-init : goal.loop-g-init
loop-g-init c =
    let h = c.requires in
    let n = c.group_total-g.ensures.0 ∙ h.0.total in
    (omega (arith, n), grown-none _ _ h.0 h.1, λ g p q. absurd (omega (arith, n, p, q)))

pub measure_group-requires : goal.measure_group-requires
measure_group-requires c =
    let l = c.loop-g.invariant in
    (l.1.placing, l.1.kept, c.requires.2, omega (arith, l.0, c.loop-g-test.true))

pub loop-g-preserved-then-group_levels-eq0 : goal.loop-g-preserved-then-group_levels-eq0
loop-g-preserved-then-group_levels-eq0 c =
    let l = c.loop-g in
    let m = c.measure_group.ensures in
    (omega (arith, l.invariant.0), grown-more _ _ l.index _ l.invariant.1 m.0, down l.index c.measure_group.new.index l.g _ l.invariant.2 m.0.more m.1)

pub loop-g-preserved : goal.loop-g-preserved
loop-g-preserved c =
    let l = c.loop-g in
    (omega (arith, l.invariant.0), l.invariant.1, down l.index l.index l.g _ l.invariant.2 (λ _ q. q) (omega (arith, c.if-group_levels-eq0.false, c.group_levels.ensures.0)))

pub returns : goal.returns
returns c = let l = c.loop-g.invariant in (l.1, λ g q. l.2 g (omega (arith, c.loop-g-test.false)) q)
