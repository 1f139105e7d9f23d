use mathlib.Core.Path.{sym, ◌∙◌}
use native.Mathlib.Omega.{arith}
use borrow.Author.Tests.{eq-eqb}
use Rattle.table.proofs.Supers.{inherits-none, super-below, inherits-placed}
use Rattle.table.proofs.inherits.Goals as goal

pub group_place-requires : goal.group_place-requires
group_place-requires c =
    let a = c.args in
    let h = c.requires in
    let s = super-below a.table.now a.index.now h.0 a.g _ _ h.1 h.2 c.group_place-p.ensures.0 c.super_number-above.ensures.0 in
    (h.0.long, omega (arith, s, h.0.few, h.1))

pub begins_with-requires : goal.begins_with-requires
begins_with-requires c =
    let a = c.args in
    let h = c.requires in
    let p = c.group_place-p.ensures.0 in
    let s = super-below a.table.now a.index.now h.0 a.g _ _ h.1 h.2 p c.super_number-above.ensures.0 in
    (rw p (h.0.placed.inside a.g h.1), rw c.group_place.ensures.0 (h.0.placed.inside _ (omega (arith, s, c.if-above-eq0.false, h.1))))

pub returns-then-above-eq0 : goal.returns-then-above-eq0
returns-then-above-eq0 c =
    let p = c.group_place-p in
    rw (eq-eqb _ _ c.if-above-eq0.true, ← p.ensures.0) (sym (inherits-none c.args.table.now p.result _ c.super_number-above.ensures.0 c.if-above-eq0.true))

pub returns-else-above-eq0 : goal.returns-else-above-eq0
returns-else-above-eq0 c =
    let a = c.args in
    let h = c.requires in
    let p = c.group_place-p.ensures.0 in
    rw (← p) (c.begins_with.ensures ∙ sym (inherits-placed a.table.now a.index.now h.0 a.g _ _ h.1 h.2 p c.super_number-above.ensures.0 c.if-above-eq0.false _ c.group_place.ensures.0))
