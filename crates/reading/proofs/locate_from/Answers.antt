use mathlib.Core.Path.{refl, sym, ◌∙◌}
use native.Mathlib.Omega.{arith}
use Rattle.schema.specs.Table.{enums}
use Rattle.schema.specs.Layout.{width_in}
use Rattle.reading.specs.Item.{item_in}
use Rattle.reading.proofs.Items.{from-none, from_at, laid-at}
use Rattle.reading.proofs.locate_from.Goals as goal

pub returns-then-count-field : goal.returns-then-count-field
returns-then-count-field c =
    let a = c.args in
    (unfold item_in in sym (from-none (width_in a.index.now) a.group.now (enums a.table.now) a.table.now a.item a.count a.field a.row a.at c.if-count-field.true), refl)

pub overflow_add-at : goal.overflow_add-at
overflow_add-at c =
    let a = c.args in
    let l = laid-at (width_in a.index.now) a.group.now (enums a.table.now) a.table.now a.item a.count a.field a.row a.at _ c.if-count-field.false c.fields_width-before.ensures c.requires.3 in omega (arith, l.inside)

pub locate_item-requires : goal.locate_item-requires
locate_item-requires c =
    let a = c.args in
    let pre = c.requires in
    (pre.0, omega (arith, pre.1, c.if-count-field.false), laid-at (width_in a.index.now) a.group.now (enums a.table.now) a.table.now a.item a.count a.field a.row a.at _ c.if-count-field.false c.fields_width-before.ensures pre.3)

pub returns : goal.returns
returns c =
    let a = c.args in
    (c.locate_item.ensures.0 ∙ from_at (width_in a.index.now) a.group.now (enums a.table.now) a.table.now a.item a.count a.field a.row a.at _ c.if-count-field.false c.fields_width-before.ensures, c.locate_item.ensures.1)
