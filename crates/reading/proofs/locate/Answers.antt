use mathlib.Core.Path.{refl, ◌∙◌}
use native.Mathlib.Omega.{arith}
use Rattle.schema.proofs.Groups.{layout-widths}
use Rattle.reading.proofs.Found.{message-long, find-ready, group-found, group-few, rows_in, rows-laid, rows-item}
use Rattle.reading.proofs.locate.Goals as goal

pub read_u64-requires : goal.read_u64-requires
read_u64-requires c =
    let a = c.args in
    let pre = c.requires in
    let l = message-long _ a.table.now a.index.now a.message.now pre.0 pre.1 in omega (arith, l)

pub find-group-requires : goal.find-group-requires
find-group-requires c =
    let a = c.args in
    let pre = c.requires in
    find-ready _ a.table.now a.index.now a.message.now pre.0 pre.1 _ c.group_total.ensures.0

pub group_place-at-requires : goal.group_place-at-requires
group_place-at-requires c =
    let a = c.args in
    let pre = c.requires in
    (pre.0.long, group-few _ a.table.now a.index.now a.message.now pre.0 pre.1 _ (group-found _ a.table.now a.index.now a.message.now pre.0 pre.1 _ _ _ c.group_total.ensures.0 c.read_u64.ensures c.find-group.ensures.0))

pub field_count-requires : goal.field_count-requires
field_count-requires c =
    let a = c.args in
    let pre = c.requires in
    let l = rows_in _ a.table.now a.index.now a.message.now pre.0 pre.1 _ (group-found _ a.table.now a.index.now a.message.now pre.0 pre.1 _ _ _ c.group_total.ensures.0 c.read_u64.ensures c.find-group.ensures.0) _ _ c.group_place-at.ensures.0 refl in omega (arith, l)

pub locate_from-requires : goal.locate_from-requires
locate_from-requires c =
    let a = c.args in
    let pre = c.requires in
    (layout-widths _ _ pre.0, rows_in _ a.table.now a.index.now a.message.now pre.0 pre.1 _ (group-found _ a.table.now a.index.now a.message.now pre.0 pre.1 _ _ _ c.group_total.ensures.0 c.read_u64.ensures c.find-group.ensures.0) _ _ c.group_place-at.ensures.0 c.field_count.ensures.0, pre.0.small, rows-laid _ a.table.now a.index.now a.message.now pre.0 pre.1 _ (group-found _ a.table.now a.index.now a.message.now pre.0 pre.1 _ _ _ c.group_total.ensures.0 c.read_u64.ensures c.find-group.ensures.0) _ _ c.group_place-at.ensures.0 c.field_count.ensures.0)

pub returns : goal.returns
returns c =
    let a = c.args in
    let pre = c.requires in
    (c.locate_from.ensures.0 ∙ rows-item _ a.table.now a.index.now a.message.now pre.0 pre.1 _ (group-found _ a.table.now a.index.now a.message.now pre.0 pre.1 _ _ _ c.group_total.ensures.0 c.read_u64.ensures c.find-group.ensures.0) _ _ c.group_place-at.ensures.0 c.field_count.ensures.0 a.field a.item, c.locate_from.ensures.1)
