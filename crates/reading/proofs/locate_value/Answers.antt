use mathlib.Core.Path.{refl, sym, ◌∙◌}
use Rattle.schema.specs.Table.{enums}
use Rattle.schema.specs.Layout.{width_in}
use Rattle.reading.proofs.Items.{value-sequence, value-one, value_none}
use borrow.Author.Rules.{rules}
use Rattle.reading.proofs.locate_value.Goals as goal

pub locate_in_sequence-requires : goal.locate_in_sequence-requires
locate_in_sequence-requires c =
    let pre = c.requires in
    (pre.0, pre.1, pre.2 (sym (c.is_sequence.ensures (enums c.args.table.now)) ∙ c.if-is_sequence.true))

pub returns-then-is_sequence : goal.returns-then-is_sequence
returns-then-is_sequence c =
    let a = c.args in
    (c.locate_in_sequence.ensures.0 ∙ value-sequence a.table.now a.row (width_in a.index.now) a.group.now a.at a.item (sym (c.is_sequence.ensures (enums a.table.now)) ∙ c.if-is_sequence.true), c.locate_in_sequence.ensures.1)

pub returns-then-item-eq0 : goal.returns-then-item-eq0
returns-then-item-eq0 c =
    let a = c.args in
    (value-one a.table.now a.row (width_in a.index.now) a.group.now a.at a.item (sym (c.is_sequence.ensures (enums a.table.now)) ∙ c.if-is_sequence.false) c.if-item-eq0.true, search rules)

pub returns : goal.returns
returns c =
    let a = c.args in
    (value_none a.table.now a.row (width_in a.index.now) a.group.now a.at a.item (sym (c.is_sequence.ensures (enums a.table.now)) ∙ c.if-is_sequence.false) c.if-item-eq0.false, refl)
