use Rattle.std.proofs.Common.{refl, ◌∙◌, arith}
use Rattle.schema.specs.Table.{enums}
use Rattle.fields.proofs.Laws.{no-record, some_record, shape-2, rows_in, shape-28, shape-found}
use Rattle.fields.proofs.shape_under.Goals as goal

pub returns-in_default : goal.returns-in_default
returns-in_default c = rw c.refusal.ensures (shape-2 _ _ c.requires _ (no-record _ _ c.requires _ _ c.group_record.ensures c.in_default.is) c.args.field)

pub field_count-requires : goal.field_count-requires
field_count-requires c = let s = some_record _ _ c.requires _ _ c.group_record.ensures _ c.in-Some.is in omega (arith, rows_in _ _ c.requires _ _ s _ refl)

pub returns-then-field_count-field : goal.returns-then-field_count-field
returns-then-field_count-field c = let s = some_record _ _ c.requires _ _ c.group_record.ensures _ c.in-Some.is in
    rw c.refusal-then-field_count-field.ensures (shape-28 _ _ c.requires _ _ s _ c.field_count.ensures.0 _ c.if-field_count-field.true)

pub shape_at-requires : goal.shape_at-requires
shape_at-requires c = let s = some_record _ _ c.requires _ _ c.group_record.ensures _ c.in-Some.is in
    omega (arith, rows_in _ _ c.requires _ _ s _ c.field_count.ensures.0, c.if-field_count-field.false)

pub returns : goal.returns
returns c = let s = some_record _ _ c.requires _ _ c.group_record.ensures _ c.in-Some.is in
    c.shape_at.ensures (enums c.args.table.now) ∙ shape-found _ _ c.requires _ _ s _ c.field_count.ensures.0 _ c.if-field_count-field.false
