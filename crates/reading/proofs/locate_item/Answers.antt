use mathlib.Core.Path.{refl, ◌≡◌, sym, ◌∙◌}
use Rattle.schema.specs.Table.{enums}
use Rattle.schema.specs.Layout.{width_in}
use Rattle.reading.specs.Item.{field_in, value_item, field_item}
use Rattle.reading.proofs.Items.{field-absent, field-present, field-required, flag-inside, led-present, led-required}
use Rattle.reading.proofs.locate_item.Goals.{then-is_optional+else-group-at-eq0, else-is_optional}
use Rattle.reading.proofs.locate_item.Goals as goal

pub bounds-group-at : goal.bounds-group-at
bounds-group-at c =
    let a = c.args in
    flag-inside a.table.now a.row (width_in a.index.now) a.group.now a.at a.item c.requires.2 (sym (c.is_optional.ensures (enums a.table.now)) ∙ c.if-is_optional.true)

pub returns-then-group-at-eq0 : goal.returns-then-group-at-eq0
returns-then-group-at-eq0 c =
    let a = c.args in
    (field-absent a.table.now a.row (width_in a.index.now) a.group.now a.at a.item (sym (c.is_optional.ensures (enums a.table.now)) ∙ c.if-is_optional.true) c.if-group-at-eq0.true, refl)

pub locate_value-requires : goal.locate_value-requires
locate_value-requires c =
    let a = c.args in
    let l = c.requires.2 in
    let t = a.table.now in
    let sw = width_in a.index.now in
    let b = a.group.now in
    let o = sym (c.is_optional.ensures (enums t)) in (
      c.requires.0,
      c.requires.1,
      elim c.if-is_optional.branch [
        | then-is_optional+else-group-at-eq0 w ↦ rw w.place-is (led-present t a.row sw b a.at a.item l (o ∙ w.if-is_optional.true) w.if-group-at-eq0.false)
        | else-is_optional w ↦ rw w.place-is (led-required t a.row sw b a.at a.item l (o ∙ w.if-is_optional.false))
      ],
    )

pub returns : goal.returns
returns c =
    let a = c.args in
    let t = a.table.now in
    let sw = width_in a.index.now in
    let b = a.group.now in
    let o = sym (c.is_optional.ensures (enums t)) in
    let f = field_in t a.row in
    let e : value_item sw f b c.if-is_optional.place a.item ≡ field_item sw f b a.at a.item = elim c.if-is_optional.branch [
      | then-is_optional+else-group-at-eq0 w ↦ rw w.place-is (field-present t a.row sw b a.at a.item (o ∙ w.if-is_optional.true) w.if-group-at-eq0.false)
      | else-is_optional w ↦ rw w.place-is (field-required t a.row sw b a.at a.item (o ∙ w.if-is_optional.false))
    ] in
    (c.locate_value.ensures.0 ∙ e, c.locate_value.ensures.1)
