use Rattle.std.proofs.Common.{◌∙◌, arith}
use Rattle.schema.proofs.Records.{field-kind}
use Rattle.schema.proofs.Types.{kind-flag, kind-millis, kind-nanos, kind-string, kind-binary, kind-fixed, kind-symbol, kind-static, kind-dynamic, kind-plain, kind-any}
use Rattle.schema.proofs.kind_at.Goals as goal

pub returns-in_default : goal.returns-in_default
returns-in_default c = λ es. kind-plain es _ _ _ _ c.scalar_width.ensures (λ e. omega (arith, e)) (λ e. omega (arith, e)) (λ e. omega (arith, e)) c.if-number-lt17.true ∙ field-kind es c.args.table.now c.args.at _ _ _ c.field_type-number.ensures c.field_size-size.ensures c.reference-to.ensures.0

pub returns-in-11 : goal.returns-in-11
returns-in-11 c = λ es. kind-flag es _ _ _ c.in-11.is ∙ field-kind es c.args.table.now c.args.at _ _ _ c.field_type-number.ensures c.field_size-size.ensures c.reference-to.ensures.0

pub returns-in-15 : goal.returns-in-15
returns-in-15 c = λ es. kind-millis es _ _ _ c.in-15.is ∙ field-kind es c.args.table.now c.args.at _ _ _ c.field_type-number.ensures c.field_size-size.ensures c.reference-to.ensures.0

pub returns-in-16 : goal.returns-in-16
returns-in-16 c = λ es. kind-nanos es _ _ _ c.in-16.is ∙ field-kind es c.args.table.now c.args.at _ _ _ c.field_type-number.ensures c.field_size-size.ensures c.reference-to.ensures.0

pub returns-in-17 : goal.returns-in-17
returns-in-17 c = λ es. c.text_kind.ensures es ∙ kind-string es _ _ _ c.in-17.is ∙ field-kind es c.args.table.now c.args.at _ _ _ c.field_type-number.ensures c.field_size-size.ensures c.reference-to.ensures.0

pub returns-in-18 : goal.returns-in-18
returns-in-18 c = λ es. c.text_kind-in-18.ensures es ∙ kind-binary es _ _ _ c.in-18.is ∙ field-kind es c.args.table.now c.args.at _ _ _ c.field_type-number.ensures c.field_size-size.ensures c.reference-to.ensures.0

pub returns-in-19 : goal.returns-in-19
returns-in-19 c = λ es. kind-fixed es _ _ _ c.in-19.is ∙ field-kind es c.args.table.now c.args.at _ _ _ c.field_type-number.ensures c.field_size-size.ensures c.reference-to.ensures.0

pub returns-in-20 : goal.returns-in-20
returns-in-20 c = λ es. kind-symbol es _ _ _ c.in-20.is ∙ field-kind es c.args.table.now c.args.at _ _ _ c.field_type-number.ensures c.field_size-size.ensures c.reference-to.ensures.0

pub returns-in-21 : goal.returns-in-21
returns-in-21 c = λ es. kind-static es _ _ _ c.in-21.is ∙ field-kind es c.args.table.now c.args.at _ _ _ c.field_type-number.ensures c.field_size-size.ensures c.reference-to.ensures.0

pub returns-in-22 : goal.returns-in-22
returns-in-22 c = λ es. kind-dynamic es _ _ _ c.in-22.is ∙ field-kind es c.args.table.now c.args.at _ _ _ c.field_type-number.ensures c.field_size-size.ensures c.reference-to.ensures.0

pub returns-in_default-2 : goal.returns-in_default-2
returns-in_default-2 c = λ es. kind-any es _ _ _ (omega arith) ∙ field-kind es c.args.table.now c.args.at _ _ _ c.field_type-number.ensures c.field_size-size.ensures c.reference-to.ensures.0
