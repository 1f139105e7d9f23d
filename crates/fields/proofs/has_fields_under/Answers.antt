use Rattle.std.proofs.Common.{refl, ◌∙◌, arith}
use Rattle.schema.specs.Table.{enums}
use Rattle.fields.proofs.Laws.{no-record, some_record, rows_in, has-no-group, has-known}
use Rattle.fields.proofs.has_fields_under.Goals as goal

pub returns-in_default : goal.returns-in_default
returns-in_default c = has-no-group _ _ c.requires _ (no-record _ _ c.requires _ _ c.group_record.ensures c.in_default.is) _

pub field_count-requires : goal.field_count-requires
field_count-requires c = let s = some_record _ _ c.requires _ _ c.group_record.ensures _ c.in-Some.is in omega (arith, rows_in _ _ c.requires _ _ s _ refl)

pub have_signature-requires : goal.have_signature-requires
have_signature-requires c = let s = some_record _ _ c.requires _ _ c.group_record.ensures _ c.in-Some.is in (rows_in _ _ c.requires _ _ s _ c.field_count.ensures.0, c.requires.small)

pub returns : goal.returns
returns c = let s = some_record _ _ c.requires _ _ c.group_record.ensures _ c.in-Some.is in
    c.have_signature.ensures (enums c.args.table.now) ∙ has-known _ _ c.requires _ _ s _ c.field_count.ensures.0 _
