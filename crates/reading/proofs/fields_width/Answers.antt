use Rattle.std.proofs.Common.{sym, ◌∙◌, rules, arith}
use Rattle.schema.specs.Table.{enums}
use Rattle.schema.specs.Layout.{width_in}
use Rattle.reading.proofs.Items.{width-all, width-more, width-end}
use Rattle.reading.proofs.fields_width.Goals as goal

pub loop-i-init : goal.loop-i-init
loop-i-init c =
    let a = c.args in
    (search rules, width-all (width_in a.index.now) (enums a.table.now) a.table.now a.row a.count)

pub loop-i-preserved : goal.loop-i-preserved
loop-i-preserved c = (omega (arith, c.loop-i.invariant.0, c.field_width-width.ensures.1), c.loop-i.invariant.1 ∙ width-more _ _ _ _ _ _ _ _ c.loop-i-test.true (c.field_width-width.ensures.0 _))

pub returns : goal.returns
returns c = sym (c.loop-i.invariant.1 ∙ width-end _ _ _ _ _ _ _ (omega arith))
