use Prim.Native.Nat.{◌-◌}
use native.Mathlib.Omega.{arith}
use mathlib.Core.Path.{sym, ◌∙◌, refl, ap}
use lib.ListN.{drop}
use lib.Dec.{leb}
use Rattle.wire.specs.Bytes.{part, same}
use Rattle.schema.proofs.Types.{plain-is}
use Rattle.schema.specs.Schema.{shallow}
use Rattle.schema.specs.Table.{field_at, enums, schema}
use Rattle.schema.specs.declared.FieldKind.TheVariants.{Plain}
use Rattle.schema.proofs.Groups.{static-inside}
use Rattle.schema.proofs.Depth.{and_both, shallow-some, wide-kind}
use Rattle.message.specs.Check.{width_of}
use Rattle.message.proofs.CheckFields.{kind-static, start-inside, start-shallow}
use Rattle.sheet.specs.Writers.{inner_of, static_of, extension_of}
use Rattle.sheet.proofs.Widths.{wides-static}
use Rattle.sheet.proofs.Writers.{items-one, field_plain, value-one, items-plain, items-text, start-static}
use Rattle.sheet.proofs.ShowReaders.{is-SG, is-SQ, is-XT, is-XU}
use Rattle.parsing.specs.Parse.{end_w, group_of, close_of, Ready, Within}
use Rattle.parsing.proofs.Answers.{ready, ready_at, count-as, handed}
use Rattle.parsing.proofs.Records.{judged-ok}
use Rattle.parsing.proofs.Fields.{absent-passes, field-there, sequence-bad, sequence-good, item-plain, item-number, item-inline, item-indirect, item-dynamic, static-bad, static-good}
use Rattle.parsing.proofs.Groups.{extension-none, extension-bad, extension-empty, extension-some, extending-group}
use Rattle.parsing.proofs.Loops.{then-passed, then-stopped, none_left, items-start, items-passed, items-stopped, items-end, field-inside, field-shallow, fields-passed, fields-stopped, fields-end}
use Rattle.parsing.proofs.Scopes.{less-left}
use borrow.Author.Rules.{rules}
use Rattle.parsing.proofs.+parse.Goals.{check_field-then-is_sequence+in_ok-check_record, check_field-else-is_sequence+in_default, check_fields-then-plain-ne0+in_ok-step, check_fields-else-plain-ne0+in_ok-step-2}
use Rattle.parsing.proofs.+parse.Goals as goal

pub check_extending-check_kept-requires : goal.check_extending-check_kept-requires
check_extending-check_kept-requires t c = (c.requires.0, c.requires.1, ap (same (part 2 c.args.place c.args.sheet.now)) (sym is-XU) ∙ sym c.stands.ensures ∙ c.if-stands.true)

pub check_extending-check_group-requires : goal.check_extending-check_group-requires
unfolding Within
check_extending-check_group-requires t c = (omega arith, (c.requires.0, c.requires.1, refl))

pub check_extending-returns : goal.check_extending-returns
unfolding group_of
check_extending-returns t c = let a = c.args in let t = a.table.now in extending-group a.sheet.now a.place a.before (schema t) (inner_of t a.levels) (ap (same (part 2 a.place a.sheet.now)) (sym is-XU) ∙ sym c.stands.ensures ∙ c.if-stands.false) _ c.check_group.ensures

pub check_extension-returns-then-count-eq0 : goal.check_extension-returns-then-count-eq0
check_extension-returns-then-count-eq0 t c = let a = c.args in let t = a.table.now in extension-empty a.sheet.now a.place a.before c.requires.1 (schema t) (inner_of t a.levels) (ap (same (part 2 a.place a.sheet.now)) (sym is-XT) ∙ sym c.stands.ensures ∙ c.if-not-stands.false) (judged-ok _ _ (rw is-XT at c.in_ok-check_record.ensures.answer)) _ c.read_u32-count.ensures.0 c.if-count-eq0.true

pub check_extension-returns : goal.check_extension-returns
check_extension-returns t c = let a = c.args in let t = a.table.now in extension-some a.sheet.now a.place a.before c.requires.1 (schema t) (inner_of t a.levels) (ap (same (part 2 a.place a.sheet.now)) (sym is-XT) ∙ sym c.stands.ensures ∙ c.if-not-stands.false) (judged-ok _ _ (rw is-XT at c.in_ok-check_record.ensures.answer)) _ c.read_u32-count.ensures.0 c.if-count-eq0.false _ c.longer-body.ensures.0 _ c.check_groups.ensures

pub check_extension-returns-then-not-stands : goal.check_extension-returns-then-not-stands
check_extension-returns-then-not-stands t c = let a = c.args in let t = a.table.now in extension-none a.sheet.now a.place a.before c.requires.1 (schema t) (inner_of t a.levels) (ap (same (part 2 a.place a.sheet.now)) (sym is-XT) ∙ sym c.stands.ensures ∙ c.if-not-stands.true)

pub check_field-returns-then-is_absent : goal.check_field-returns-then-is_absent
check_field-returns-then-is_absent t c = let a = c.args in let t = a.table.now in absent-passes a.sheet.now a.place a.before (inner_of t a.levels) (width_of t a.depth) (static_of t a.levels a.depth) (field_at (enums t) (drop a.field t)) _ (c.is_absent.ensures (enums t)) c.if-is_absent.true c.requires.1

pub check_field-check_group-requires : goal.check_field-check_group-requires
unfolding Within
check_field-check_group-requires t c = (omega arith, (c.requires.0, c.requires.1, refl))

pub check_field-returns-in-Dynamic : goal.check_field-returns-in-Dynamic
unfolding group_of
check_field-returns-in-Dynamic t c = let a = c.args in let t = a.table.now in let k = c.kind_at-kind.ensures (enums t) in
    field-there a.sheet.now a.place a.before (inner_of t a.levels) (width_of t a.depth) (static_of t a.levels a.depth) (field_at (enums t) (drop a.field t)) _ (c.is_absent.ensures (enums t)) c.if-is_absent.false _
    (λ at fr. count-as _ _ (value-one (inner_of t a.levels) (width_of t a.depth) (static_of t a.levels a.depth) (field_at (enums t) (drop a.field t)) at fr a.place a.sheet.now _ k (sym (c.is_sequence.ensures (enums t)) ∙ c.if-is_sequence.false))
    (item-dynamic a.sheet.now a.place a.before (inner_of t a.levels) (static_of t a.levels a.depth) (enums t) _ _ _ c.in-Dynamic.is c.check_group.ensures at fr))

pub check_field-check_items-requires : goal.check_field-check_items-requires
check_field-check_items-requires t c = let a = c.args in let t = a.table.now in let R = c.requires.1 in
    let d = rw (sym (c.kind_at-kind.ensures (enums t))) at c.requires.3 in
    let r : Ready a.sheet.now c.if-is_sequence.start c.if-is_sequence.length = (elim c.if-is_sequence.branch [
      | check_field-then-is_sequence+in_ok-check_record w ↦ record { small = R.small; inside = omega (arith, w.in_ok-check_record.ensures.inside); low = omega arith }
      | check_field-else-is_sequence+in_default w ↦ rw (w.start-is, w.length-is) R
    ]) in
    (search rules, (c.requires.0, r, c.kind_width-width.ensures.0 (enums t) ∙ wide-kind t a.index.now c.requires.0 a.depth _ d, d))

pub check_field-returns : goal.check_field-returns
check_field-returns t c = let a = c.args in let t = a.table.now in let k = c.kind_at-kind.ensures (enums t) in let d = rw (sym k) at c.requires.3 in
    field-there a.sheet.now a.place a.before (inner_of t a.levels) (width_of t a.depth) (static_of t a.levels a.depth) (field_at (enums t) (drop a.field t)) _ (c.is_absent.ensures (enums t)) c.if-is_absent.false _ (elim c.if-is_sequence.branch [
      | check_field-then-is_sequence+in_ok-check_record w ↦ sequence-good a.sheet.now a.place a.before (inner_of t a.levels) (width_of t a.depth) (static_of t a.levels a.depth) (field_at (enums t) (drop a.field t)) _ k (sym (c.is_sequence.ensures (enums t)) ∙ w.if-is_sequence.true) c.requires.1 (judged-ok _ _ (rw is-SQ at w.in_ok-check_record.ensures.answer)) (wides-static (schema t) (inner_of t a.levels) a.depth) _ _ _ w.read_u32-total.ensures.0 (c.kind_width-width.ensures.0 (enums t) ∙ wide-kind t a.index.now c.requires.0 a.depth _ d) w.longer-length.ensures.0 _ (rw (w.total-is, w.start-is, w.length-is) at c.check_items.ensures)
      | check_field-else-is_sequence+in_default w ↦ λ at fr. count-as _ _ (value-one (inner_of t a.levels) (width_of t a.depth) (static_of t a.levels a.depth) (field_at (enums t) (drop a.field t)) at fr a.place a.sheet.now _ k (sym (c.is_sequence.ensures (enums t)) ∙ w.if-is_sequence.false) ∙ sym (items-one _ _ at fr _)) (rw (w.total-is, w.start-is, w.length-is) at c.check_items.ensures at fr)
    ])

pub check_fields-overflow_sub-deeper : goal.check_fields-overflow_sub-deeper
check_fields-overflow_sub-deeper t c = omega (arith, shallow-some (schema c.args.table.now) _ _ c.requires.3)

pub check_group-check_fields-requires : goal.check_group-check_fields-requires
check_group-check_fields-requires t c = let a = c.args in let o = c.in_ok-open.ensures a.depth c.requires.2 in
    (omega (arith, less-left a.table.now a.levels a.depth _ a.scope c.requires.2 o.lower), (c.requires.0, o.ready, o.shallows.0, o.shallows.1))

pub check_group-close_group-requires : goal.check_group-close_group-requires
check_group-close_group-requires t c = let a = c.args in let o = c.in_ok-open.ensures a.depth c.requires.2 in
    (omega (arith, less-left a.table.now a.levels a.depth _ a.scope c.requires.2 o.lower, shallow-some (schema a.table.now) _ _ o.shallows.1), (c.requires.0, ready a.sheet.now _ _ _ (c.in_ok-fields.ensures 0 0) c.requires.1.small))

pub check_group-returns : goal.check_group-returns
check_group-returns t c = let a = c.args in (c.in_ok-open.ensures a.depth c.requires.2).goes _ c.in_ok-fields.ensures _ c.close_group.ensures

pub check_item-check_group-requires : goal.check_item-check_group-requires
unfolding Within
check_item-check_group-requires t c = let a = c.args in let t = a.table.now in let sw = width_of t a.depth in
    let q = and_both (leb 1 (sw _)) (shallow (schema t) a.depth _) (sym (kind-static sw (enums t) a.kind (shallow (schema t) a.depth) _ c.in-Static.is) ∙ c.requires.2) in
    (search rules, (c.requires.0, ready_at c.requires.1 _ c.in_ok-check_record-in-Static.ensures.inside, (static-inside (schema t) a.depth _ q.0, q.1)))

pub check_item-returns-in-Plain : goal.check_item-returns-in-Plain
check_item-returns-in-Plain t c = let a = c.args in let t = a.table.now in item-plain a.sheet.now a.place a.before (inner_of t a.levels) (static_of t a.levels a.depth) (enums t) a.kind _ _ (c.in-Plain.is ∙ ap Plain (sym c.from.ensures)) c.check_plain.ensures

pub check_item-returns-in-Number : goal.check_item-returns-in-Number
check_item-returns-in-Number t c = let a = c.args in let t = a.table.now in item-number a.sheet.now a.place a.before (inner_of t a.levels) (static_of t a.levels a.depth) (enums t) a.kind _ _ c.in-Number.is (c.check_number.ensures (inner_of t a.levels) (static_of t a.levels a.depth))

pub check_item-returns-in-Inline : goal.check_item-returns-in-Inline
check_item-returns-in-Inline t c = let a = c.args in let t = a.table.now in item-inline a.sheet.now a.place a.before (inner_of t a.levels) (static_of t a.levels a.depth) (enums t) a.kind _ _ _ c.in-Inline.is (c.check_inline.ensures (inner_of t a.levels) (static_of t a.levels a.depth))

pub check_item-returns-in-Indirect : goal.check_item-returns-in-Indirect
check_item-returns-in-Indirect t c = let a = c.args in let t = a.table.now in item-indirect a.sheet.now a.place a.before (inner_of t a.levels) (static_of t a.levels a.depth) (enums t) a.kind _ _ c.in-Indirect.is c.check_text.ensures

pub check_item-check_group-requires-in-Dynamic : goal.check_item-check_group-requires-in-Dynamic
unfolding Within
check_item-check_group-requires-in-Dynamic t c = (omega arith, (c.requires.0, c.requires.1, refl))

pub check_item-returns-in-Dynamic : goal.check_item-returns-in-Dynamic
unfolding group_of
check_item-returns-in-Dynamic t c = let a = c.args in let t = a.table.now in item-dynamic a.sheet.now a.place a.before (inner_of t a.levels) (static_of t a.levels a.depth) (enums t) a.kind _ _ c.in-Dynamic.is c.check_group-in-Dynamic.ensures

pub check_items-returns-in-Plain : goal.check_items-returns-in-Plain
check_items-returns-in-Plain t c = let a = c.args in let t = a.table.now in λ at fr. count-as _ _ (items-plain (inner_of t a.levels) (width_of t a.depth) (static_of t a.levels a.depth) (enums t) a.kind _ _ at fr _ c.requires.2 _ (c.in-Plain.is ∙ ap Plain (sym c.from.ensures))) (c.check_plains.ensures at fr)

pub check_items-returns-in-Indirect : goal.check_items-returns-in-Indirect
check_items-returns-in-Indirect t c = let a = c.args in let t = a.table.now in λ at fr. count-as _ _ (items-text (inner_of t a.levels) (width_of t a.depth) (static_of t a.levels a.depth) (enums t) a.kind _ _ at fr _ c.requires.2 _ c.in-Indirect.is) (c.check_texts.ensures at fr)

pub close_group-check_end-requires : goal.close_group-check_end-requires
close_group-check_end-requires t c = ready c.args.sheet.now _ _ _ (c.in_ok-extension-in-Whole.ensures 0 0) c.requires.1.small

pub close_group-returns-in-Fields : goal.close_group-returns-in-Fields
unfolding close_of
close_group-returns-in-Fields t c = let a = c.args in rw c.in-Fields.is (none_left a.sheet.now a.place a.before c.requires.1)

pub check_extension-returns-in_err-check_record : goal.check_extension-returns-in_err-check_record
check_extension-returns-in_err-check_record t c = let a = c.args in let t = a.table.now in rw (handed c.from_residual.ensures.1) (extension-bad a.sheet.now a.place a.before c.requires.1 (schema t) (inner_of t a.levels) (ap (same (part 2 a.place a.sheet.now)) (sym is-XT) ∙ sym c.stands.ensures ∙ c.if-not-stands.false) _ (rw is-XT at c.in_err-check_record.ensures.answer))

pub check_field-returns-in_err-check_record : goal.check_field-returns-in_err-check_record
check_field-returns-in_err-check_record t c = let a = c.args in let t = a.table.now in rw (handed c.from_residual.ensures.1) (field-there a.sheet.now a.place a.before (inner_of t a.levels) (width_of t a.depth) (static_of t a.levels a.depth) (field_at (enums t) (drop a.field t)) _ (c.is_absent.ensures (enums t)) c.if-is_absent.false _ (sequence-bad a.sheet.now a.place a.before (inner_of t a.levels) (width_of t a.depth) (static_of t a.levels a.depth) (field_at (enums t) (drop a.field t)) _ (c.kind_at-kind.ensures (enums t)) (sym (c.is_sequence.ensures (enums t)) ∙ c.if-is_sequence.true) c.requires.1 _ (rw is-SQ at c.in_err-check_record.ensures.answer)))

pub check_fields-loop-init : goal.check_fields-loop-init
check_fields-loop-init t c = let a = c.args in let t = a.table.now in let r = c.requires in
    let d = shallow-some (schema t) a.depth a.group r.3 in
    let s = c.group_place-start.ensures.0 in let n = c.field_count-total.ensures.0 in record {
      ready = r.1;
      room = start-inside t a.index.now r.0 a.group r.2 _ _ s n;
      shallows = start-shallow t a.index.now r.0 a.group r.2 _ _ s n a.depth d r.3;
      rest = λ k f at fr. count-as _ _ (start-static t a.index.now r.0 a.group r.2 _ _ s n a.depth d (inner_of t a.levels) at fr _) (f at fr);
    }

pub check_fields-returns : goal.check_fields-returns
check_fields-returns t c = fields-end c.loop.invariant c.loop-test.false

pub check_fields-loop-preserved : goal.check_fields-loop-preserved
check_fields-loop-preserved t c = let l = c.loop in let a = c.args in let t = a.table.now in elim c.if-plain-ne0.branch [
  | check_fields-then-plain-ne0+in_ok-step w ↦ rw w.step-is (fields-passed l.invariant c.loop-test.true _ (λ at fr. count-as _ _ (field_plain (inner_of t a.levels) (width_of t (a.depth - 1)) (static_of t a.levels (a.depth - 1)) _ at fr l.step.next a.sheet.now _ _ (plain-is (enums t) _ _ (c.plain_width-plain.ensures.0 (enums t)) w.if-plain-ne0.true)) (w.in_ok-step.ensures at fr)))
  | check_fields-else-plain-ne0+in_ok-step-2 w ↦ rw w.step-is (fields-passed l.invariant c.loop-test.true _ w.in_ok-step-2.ensures)
]

pub check_groups-loop-init : goal.check_groups-loop-init
check_groups-loop-init t c = items-start c.requires.1

pub check_groups-returns-in_err-step : goal.check_groups-returns-in_err-step
check_groups-returns-in_err-step t c = rw (handed c.from_residual.ensures.1) (items-stopped c.loop.invariant c.loop-test.true _ c.in_err-step.ensures)

pub check_groups-loop-preserved : goal.check_groups-loop-preserved
check_groups-loop-preserved t c = items-passed c.loop.invariant c.loop-test.true _ c.in_ok-step.ensures

pub check_groups-returns : goal.check_groups-returns
check_groups-returns t c = items-end c.loop.invariant c.loop-test.false

pub check_items-loop-init : goal.check_items-loop-init
check_items-loop-init t c = items-start c.requires.1

pub check_items-returns-in_err-step : goal.check_items-returns-in_err-step
check_items-returns-in_err-step t c = rw (handed c.from_residual.ensures.1) (items-stopped c.loop.invariant c.loop-test.true _ c.in_err-step.ensures)

pub check_items-loop-preserved : goal.check_items-loop-preserved
check_items-loop-preserved t c = items-passed c.loop.invariant c.loop-test.true _ c.in_ok-step.ensures

pub check_items-returns : goal.check_items-returns
check_items-returns t c = items-end c.loop.invariant c.loop-test.false

pub check_item-returns-in_err-check_record-in-Static : goal.check_item-returns-in_err-check_record-in-Static
check_item-returns-in_err-check_record-in-Static t c = let a = c.args in let t = a.table.now in rw (handed c.from_residual.ensures.1) (static-bad a.sheet.now a.place a.before c.requires.1 (inner_of t a.levels) (static_of t a.levels a.depth) (enums t) a.kind _ c.in-Static.is _ (rw is-SG at c.in_err-check_record-in-Static.ensures.answer))

pub check_item-returns-in_ok-check_record-in-Static : goal.check_item-returns-in_ok-check_record-in-Static
unfolding group_of
check_item-returns-in_ok-check_record-in-Static t c = let a = c.args in let t = a.table.now in static-good a.sheet.now a.place a.before c.requires.1 (inner_of t a.levels) (static_of t a.levels a.depth) (enums t) a.kind _ c.in-Static.is (judged-ok _ _ (rw is-SG at c.in_ok-check_record-in-Static.ensures.answer)) _ c.check_group.ensures

pub close_group-returns-in_err-extension-in-Whole : goal.close_group-returns-in_err-extension-in-Whole
unfolding close_of
close_group-returns-in_err-extension-in-Whole t c = let a = c.args in rw (handed c.from_residual.ensures.1, c.in-Whole.is) (then-stopped a.sheet.now 4 (extension_of a.table.now a.levels) end_w a.place a.before _ c.in_err-extension-in-Whole.ensures)

pub close_group-returns-in_ok-extension-in-Whole : goal.close_group-returns-in_ok-extension-in-Whole
unfolding close_of
close_group-returns-in_ok-extension-in-Whole t c = let a = c.args in rw c.in-Whole.is (then-passed a.sheet.now 4 (extension_of a.table.now a.levels) end_w a.place a.before _ c.in_ok-extension-in-Whole.ensures _ c.check_end.ensures)

pub check_fields-returns-in_err-step : goal.check_fields-returns-in_err-step
check_fields-returns-in_err-step t c = let l = c.loop in let a = c.args in let t = a.table.now in rw (handed c.from_residual.ensures.1) (fields-stopped l.invariant c.loop-test.true _ (λ at fr. count-as _ _ (field_plain (inner_of t a.levels) (width_of t (a.depth - 1)) (static_of t a.levels (a.depth - 1)) _ at fr l.step.next a.sheet.now _ _ (plain-is (enums t) _ _ (c.plain_width-plain.ensures.0 (enums t)) c.if-plain-ne0.true)) (c.in_err-step.ensures at fr)))

pub check_fields-check_field-requires : goal.check_fields-check_field-requires
check_fields-check_field-requires t c = let i = c.loop.invariant in
    (omega (arith, shallow-some (schema c.args.table.now) _ _ c.requires.3), (c.requires.0, i.ready, field-inside i c.loop-test.true, field-shallow i c.loop-test.true))

pub check_fields-returns-in_err-step-2 : goal.check_fields-returns-in_err-step-2
check_fields-returns-in_err-step-2 t c = rw (handed c.from_residual-in_err-step-2.ensures.1) (fields-stopped c.loop.invariant c.loop-test.true _ c.in_err-step-2.ensures)
