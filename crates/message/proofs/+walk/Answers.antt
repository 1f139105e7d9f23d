use Rattle.std.proofs.Common.{◌≡◌, ℕ, ◌-◌, leb, [], drop, sym, refl, ap, ◌∙◌, arith, rules}
use Rattle.message.specs.Sheet.{field_mark}
use native.Mathlib.Nat.{sub-zero, add-sub_cancel_left}
use Rattle.schema.specs.Schema.{shallow}
use Rattle.schema.specs.Table.{field_at, enums, schema}
use Rattle.schema.specs.Layout.{width_in}
use Rattle.schema.specs.FieldKinds.{kind_from}
use Rattle.schema.proofs.Records.{fields-more}
use Rattle.schema.proofs.Types.{plain-is, width-sequence, width-optional}
use Rattle.schema.proofs.Groups.{static-inside}
use Rattle.schema.proofs.Depth.{and_both, shallow-some, width-cons, shallow-cons, wide-kind, wide_value, wide-field}
use Rattle.message.specs.Walk.{byte, inner_r, extending_r, value_r}
use Rattle.message.specs.Count.{count, counted}
use Rattle.message.specs.Check.{levels_in, ignored_in, occupancy_of, closing, after, within, item_r, marked_value_r, inner_of, width_of, static_of}
use Rattle.message.proofs.Count.{count-inner}
use Rattle.message.proofs.CheckAnswers.{exits, refuses, counts, stays, goes_on, passed, stopped, bounded}
use Rattle.message.proofs.CheckOccupancy.{retaken, pads-none}
use Rattle.message.proofs.CheckFields.{leads-nowhere, leads-to, fields-passed, fields-stopped, fields-end, plain-wide, fields-plain, flag-wide, flag-unset, field-optional, field-set, ItemsAt, one-item, sequence-nowhere, sequence-items, items_left, items-passed, items-stopped, items-end, items-plain, items-indirect, items-number, item-plain, item-number, item-inline, item-indirect, item-static, item-dynamic, wide-number, wide-inline, wide-indirect, wide-static, wide-dynamic, kind-static, start-inside, start-static, start-width, start-shallow, ready}
use Rattle.message.proofs.CheckGroups.{nested-passed, extension-zero, extension-nowhere, extension-empty, extension-some, extending-short, extending-known, extending-kept, rest_plain, closing-filled}
use Rattle.message.proofs.CheckScopes.{inside-falls, inside-long, inside-left, opens-begun, opens-refused, closes-dynamic, closes-static}
use Rattle.message.proofs.+walk.Goals.{check_value-Joined-is_sequence, check_value-then-is_sequence+in_ok-found, check_value-else-is_sequence}
use Rattle.message.proofs.+walk.Goals as goal

-- where the ways meet: the items that the value is
check-value-joined : (t : ℕ) (c : check_value-Joined-is_sequence t)
    → let a = c.args in let t = a.table.now in let j = c.if-is_sequence in
    ItemsAt c.kind_width-width.result (item_r (inner_of (ignored_in a.frame.rules) t (levels_in a.frame.rules)) (static_of (ignored_in a.frame.rules) t (levels_in a.frame.rules) a.depth) (kind_from (enums t) c.kind_at-kind.result)) (within a.bytes.now a.frame)
    (after a.before (count (marked_value_r (inner_of (ignored_in a.frame.rules) t (levels_in a.frame.rules)) (width_of t a.depth) (static_of (ignored_in a.frame.rules) t (levels_in a.frame.rules) a.depth) (field_at (enums t) (drop a.field t)) (within a.bytes.now a.frame) a.at (occupancy_of a.frame.area a.taken a.occupied.now))))
    j.total j.start j.step.length (occupancy_of a.frame.area j.step.taken j.occupied)
check-value-joined t c = let a = c.args in let t = a.table.now in
    let k = c.kind_at-kind.ensures (enums t) in
    let iw = c.kind_width-width.ensures.0 (enums t) ∙ wide-kind t a.index.now c.requires.0.layout a.depth _ (rw (sym k) at c.requires.3) in
    let q = c.is_sequence.ensures (enums t) in
    elim c.if-is_sequence.branch [
      | check_value-then-is_sequence+in_ok-found w ↦ rw (w.occupied-is, w.total-is, w.start-is, w.step-is) (sequence-items _ _ _ _ _ _ _ _ k _ iw (sym q ∙ w.if-is_sequence.true) _ _ w.in_ok-found.ensures.0 a.before _ w.in_ok-found.ensures.1 refl)
      | check_value-else-is_sequence w ↦ rw (w.occupied-is, w.total-is, w.start-is, w.step-is) (one-item _ _ _ _ _ _ _ _ k _ iw a.before (sym q ∙ w.if-is_sequence.false) c.requires.2)
    ]

pub check_dynamic-returns-in_err-found : goal.check_dynamic-returns-in_err-found
check_dynamic-returns-in_err-found t c = let a = c.args in let t = a.table.now in let I = inner_of (ignored_in a.frame.rules) t (levels_in a.frame.rules) in rw (exits _ _ c.from_residual.ensures.1) (refuses _ _ _ _ (leads-nowhere 26 1 (inner_r I a.allowed) (within a.bytes.now a.frame) a.at (occupancy_of a.frame.area a.taken a.occupied.now) _ _ c.in_err-found.ensures.0))

pub check_dynamic-returns : goal.check_dynamic-returns
check_dynamic-returns t c = let a = c.args in let t = a.table.now in let I = inner_of (ignored_in a.frame.rules) t (levels_in a.frame.rules) in
    c.check_nested.ensures ∙ sym (ap (after a.before) (leads-to 26 1 (inner_r I a.allowed) (within a.bytes.now a.frame) a.at (occupancy_of a.frame.area a.taken a.occupied.now) _ _ c.in_ok-found.ensures.0 ∙ count-inner (within a.bytes.now a.frame) _ _ I a.allowed _))

pub check_extending-returns-in_err-found : goal.check_extending-returns-in_err-found
check_extending-returns-in_err-found t c = let a = c.args in let t = a.table.now in let I = inner_of (ignored_in a.frame.rules) t (levels_in a.frame.rules) in rw (exits _ _ c.from_residual.ensures.1) (refuses _ _ _ _ (leads-nowhere 26 1 (extending_r (schema t) I) (within a.bytes.now a.frame) a.at (occupancy_of a.frame.area a.taken a.occupied.now) _ _ c.in_err-found.ensures.0))

pub check_extending-returns-then-found-lt12 : goal.check_extending-returns-then-found-lt12
check_extending-returns-then-found-lt12 t c = let a = c.args in let t = a.table.now in let I = inner_of (ignored_in a.frame.rules) t (levels_in a.frame.rules) in refuses _ _ _ _ (extending-short (schema t) I (within a.bytes.now a.frame) a.at (occupancy_of a.frame.area a.taken a.occupied.now) _ _ c.in_ok-found.ensures.0 c.if-found-lt12.true)

pub check_extending-returns-then-is_known : goal.check_extending-returns-then-is_known
check_extending-returns-then-is_known t c = let a = c.args in let t = a.table.now in let I = inner_of (ignored_in a.frame.rules) t (levels_in a.frame.rules) in
    c.check_nested.ensures ∙ sym (goes_on a.before 2 _ _ _ (extending-known (schema t) I (within a.bytes.now a.frame) a.at (occupancy_of a.frame.area a.taken a.occupied.now) _ _ c.in_ok-found.ensures.0 c.if-found-lt12.false (rw c.read_u64.ensures at (sym c.is_known.ensures) ∙ c.if-is_known.true)) refl)

pub check_extending-returns : goal.check_extending-returns
check_extending-returns t c = let a = c.args in let t = a.table.now in let I = inner_of (ignored_in a.frame.rules) t (levels_in a.frame.rules) in
    counts _ _ _ _ _ (extending-kept (schema t) I (within a.bytes.now a.frame) a.at (occupancy_of a.frame.area a.taken a.occupied.now) _ _ c.in_ok-found.ensures.0 c.if-found-lt12.false (rw c.read_u64.ensures at (sym c.is_known.ensures) ∙ c.if-is_known.false) c.in_ok-found.ensures.1.inside) refl

pub check_extension-returns-then-read_u32-eq0 : goal.check_extension-returns-then-read_u32-eq0
check_extension-returns-then-read_u32-eq0 t c = let a = c.args in let t = a.table.now in let I = inner_of (ignored_in a.frame.rules) t (levels_in a.frame.rules) in stays _ a.before _ _ (extension-zero (schema t) I (within a.bytes.now a.frame) 12 (occupancy_of a.frame.area a.taken a.occupied.now) (sym c.read_u32.ensures.0 ∙ c.if-read_u32-eq0.true)) refl (search rules)

pub check_extension-returns-in_err-found : goal.check_extension-returns-in_err-found
check_extension-returns-in_err-found t c = let a = c.args in let t = a.table.now in let I = inner_of (ignored_in a.frame.rules) t (levels_in a.frame.rules) in rw (exits _ _ c.from_residual.ensures.1) (refuses _ _ _ _ (extension-nowhere (schema t) I (within a.bytes.now a.frame) 12 (occupancy_of a.frame.area a.taken a.occupied.now) (λ z. c.if-read_u32-eq0.false (c.read_u32.ensures.0 ∙ z)) _ _ c.in_err-found.ensures.0))

pub check_extension-returns-then-found-eq0 : goal.check_extension-returns-then-found-eq0
check_extension-returns-then-found-eq0 t c = let a = c.args in let t = a.table.now in let I = inner_of (ignored_in a.frame.rules) t (levels_in a.frame.rules) in stays _ a.before _ _ (extension-empty (schema t) I (within a.bytes.now a.frame) 12 (occupancy_of a.frame.area a.taken a.occupied.now) (λ z. c.if-read_u32-eq0.false (c.read_u32.ensures.0 ∙ z)) _ _ c.in_ok-found.ensures.0 c.if-found-eq0.true) refl (search rules)

pub check_extension-returns : goal.check_extension-returns
check_extension-returns t c = let a = c.args in let t = a.table.now in let I = inner_of (ignored_in a.frame.rules) t (levels_in a.frame.rules) in
    c.check_groups.ensures ∙ sym (goes_on a.before 6 _ _ _ (extension-some (schema t) I (within a.bytes.now a.frame) 12 (occupancy_of a.frame.area a.taken a.occupied.now) (λ z. c.if-read_u32-eq0.false (c.read_u32.ensures.0 ∙ z)) _ _ c.in_ok-found.ensures.0 c.if-found-eq0.false (omega (arith, c.in_ok-found.ensures.1.inside))) refl)

pub check_field-is_unset-requires : goal.check_field-is_unset-requires
check_field-is_unset-requires t c = let a = c.args in let t = a.table.now in
    λ e. let w = width-optional (width_of t a.depth) (field_at (enums t) (drop a.field t)) (sym (c.is_optional-optional.ensures (enums t)) ∙ e) in omega (arith, w, c.requires.2)

pub check_field-check_absent-requires : goal.check_field-check_absent-requires
check_field-check_absent-requires t c = let a = c.args in let t = a.table.now in let u = flag-unset c.is_optional-optional.result (byte a.at a.bytes.now) (sym c.is_unset.ensures ∙ c.if-is_unset.true) in
    let w = width-optional (width_of t a.depth) (field_at (enums t) (drop a.field t)) (sym (c.is_optional-optional.ensures (enums t)) ∙ u.0) in
    let v = c.value_width-width.ensures.0 (enums t) ∙ wide_value t a.index.now c.requires.0.layout a.depth _ c.requires.3 in
    (u.1, omega (arith, w, v, c.requires.2), c.requires.0.small)

pub check_field-returns-then-is_unset : goal.check_field-returns-then-is_unset
check_field-returns-then-is_unset t c = let a = c.args in let t = a.table.now in let u = flag-unset c.is_optional-optional.result (byte a.at a.bytes.now) (sym c.is_unset.ensures ∙ c.if-is_unset.true) in
    let f = field_at (enums t) (drop a.field t) in let I = inner_of (ignored_in a.frame.rules) t (levels_in a.frame.rules) in let S = static_of (ignored_in a.frame.rules) t (levels_in a.frame.rules) a.depth in let sw = width_of t a.depth in
    let v = c.value_width-width.ensures.0 (enums t) ∙ wide_value t a.index.now c.requires.0.layout a.depth _ c.requires.3 in
    rw v at (c.check_absent.ensures (field_mark f) (value_r I sw S f) (λ s. occupancy_of a.frame.area s a.occupied.now)) ∙ ap (λ x. after a.before (count x)) (sym (field-optional I sw S f (within a.bytes.now a.frame) a.at (occupancy_of a.frame.area a.taken a.occupied.now) (sym (c.is_optional-optional.ensures (enums t)) ∙ u.0)))

pub check_field-check_value-requires : goal.check_field-check_value-requires
check_field-check_value-requires t c = let a = c.args in let t = a.table.now in
    let w = flag-wide (width_of t a.depth) (field_at (enums t) (drop a.field t)) _ (c.is_optional-optional.ensures (enums t)) in
    (search rules, (c.requires.0, c.requires.1, omega (arith, w, c.from.ensures, c.requires.2), c.requires.3))

pub check_field-returns : goal.check_field-returns
check_field-returns t c = let a = c.args in let t = a.table.now in
    let f = field_at (enums t) (drop a.field t) in let I = inner_of (ignored_in a.frame.rules) t (levels_in a.frame.rules) in let S = static_of (ignored_in a.frame.rules) t (levels_in a.frame.rules) a.depth in let sw = width_of t a.depth in
    c.check_value.ensures ∙ ap (λ x. after a.before (count x)) (sym (field-set I sw S f (within a.bytes.now a.frame) a.at (occupancy_of a.frame.area a.taken a.occupied.now) c.is_optional-optional.result (c.is_optional-optional.ensures (enums t)) (sym c.is_unset.ensures ∙ c.if-is_unset.false) _ c.from.ensures))

pub check_fields-loop-init : goal.check_fields-loop-init
check_fields-loop-init t c = let a = c.args in let r = c.requires in let P = r.0.layout in
    let d = shallow-some (schema a.table.now) a.depth a.group r.3 in
    let s = c.group_place-start.ensures.0 in let n = c.field_count-total.ensures.0 in
    let w = start-width a.table.now a.index.now P a.group r.2 _ _ s n a.depth d in record {
      records = start-inside a.table.now a.index.now P a.group r.2 _ _ s n;
      inside = omega (arith, w, r.1);
      shallow = start-shallow a.table.now a.index.now P a.group r.2 _ _ s n a.depth d r.3;
      fits = search rules;
      counts = ap (λ x. after a.before (count x)) (start-static a.table.now a.index.now P a.group r.2 _ _ s n a.depth d (inner_of (ignored_in a.frame.rules) a.table.now (levels_in a.frame.rules)) (within a.bytes.now a.frame) a.at (occupancy_of a.frame.area a.taken a.occupied.now));
    }

pub check_fields-loop-preserved-then-plain-ne0 : goal.check_fields-loop-preserved-then-plain-ne0
check_fields-loop-preserved-then-plain-ne0 t c = let a = c.args in let i = c.loop.invariant in let t = a.table.now in
    let sw = width_of t (a.depth - 1) in
    let f = fields-more (enums t) t c.loop.field c.field_count-total.result c.loop.counter c.loop-test.true in
    let e = plain-is (enums t) _ _ (c.plain_width-plain.ensures.0 (enums t)) c.if-plain-ne0.true in
    let w = width-cons sw _ _ _ f in let p = plain-wide sw _ _ _ e in record {
      records = omega (arith, i.records, c.loop-test.true);
      inside = (omega (arith, i.inside, w, p));
      shallow = ((shallow-cons _ _ _ _ _ f i.shallow).1);
      fits = search rules;
      counts = (i.counts ∙ fields-plain _ (inner_of (ignored_in a.frame.rules) t (levels_in a.frame.rules)) sw (static_of (ignored_in a.frame.rules) t (levels_in a.frame.rules) (a.depth - 1)) (enums t) t a.bytes.now a.frame.base a.frame.area c.field_count-total.result c.loop.counter _ c.loop.place c.loop.step.length (occupancy_of a.frame.area c.loop.step.taken c.loop.occupied) _ _ _ c.loop-test.true e (omega (arith, i.inside, w, p)) refl);
    }

pub check_fields-overflow_sub-depth : goal.check_fields-overflow_sub-depth
check_fields-overflow_sub-depth t c = omega (arith, shallow-some (schema c.args.table.now) _ _ c.requires.3)

pub check_fields-check_field-requires : goal.check_fields-check_field-requires
check_fields-check_field-requires t c = let a = c.args in let i = c.loop.invariant in let t = a.table.now in
    let f = fields-more (enums t) t c.loop.field c.field_count-total.result c.loop.counter c.loop-test.true in
    let w = width-cons (width_of t (a.depth - 1)) _ _ _ f in
    (omega (arith, shallow-some (schema t) _ _ c.requires.3), (ready _ _ _ _ _ _ c.requires.0 (search rules), omega (arith, i.records, c.loop-test.true), omega (arith, i.inside, w), (shallow-cons _ _ _ _ _ f i.shallow).0))

pub check_fields-returns-in_err-step : goal.check_fields-returns-in_err-step
check_fields-returns-in_err-step t c = let a = c.args in let t = a.table.now in let l = c.loop in
    rw (exits _ _ c.from_residual.ensures.1) (fields-stopped (inner_of (ignored_in a.frame.rules) t (levels_in a.frame.rules)) (width_of t (a.depth - 1)) (static_of (ignored_in a.frame.rules) t (levels_in a.frame.rules) (a.depth - 1)) (enums t) t (within a.bytes.now a.frame) c.field_count-total.result l.counter _ l.place l.step.length (occupancy_of a.frame.area l.step.taken l.occupied) _ c.loop-test.true _ _ c.in_err-step.ensures ∙ sym l.invariant.counts)

pub check_fields-loop-preserved : goal.check_fields-loop-preserved
check_fields-loop-preserved t c = let a = c.args in let i = c.loop.invariant in let t = a.table.now in let l = c.loop-test.true in
    let sw = width_of t (a.depth - 1) in
    let f = fields-more (enums t) t c.loop.field c.field_count-total.result c.loop.counter l in
    let w = width-cons sw _ _ _ f in
    let s = shallow-cons _ _ _ _ _ f i.shallow in
    let v = c.field_width-width.ensures.0 (enums t) ∙ wide-field t a.index.now c.requires.0.layout (a.depth - 1) _ s.0 in record {
      records = omega (arith, i.records, l);
      inside = (omega (arith, i.inside, w, v));
      shallow = s.1;
      fits = bounded _ _ _ _ c.in_ok-step.ensures;
      counts = (i.counts ∙ fields-passed (inner_of (ignored_in a.frame.rules) t (levels_in a.frame.rules)) sw (static_of (ignored_in a.frame.rules) t (levels_in a.frame.rules) (a.depth - 1)) (enums t) t (within a.bytes.now a.frame) c.field_count-total.result c.loop.counter _ c.loop.place c.loop.step.length (occupancy_of a.frame.area c.loop.step.taken c.loop.occupied) _ l _ _ c.in_ok-step.ensures v);
    }

pub check_fields-returns : goal.check_fields-returns
check_fields-returns t c = let a = c.args in let t = a.table.now in let l = c.loop in
    fields-end (inner_of (ignored_in a.frame.rules) t (levels_in a.frame.rules)) (width_of t (a.depth - 1)) (static_of (ignored_in a.frame.rules) t (levels_in a.frame.rules) (a.depth - 1)) (enums t) t (within a.bytes.now a.frame) c.field_count-total.result l.counter _ l.place l.step.length (occupancy_of a.frame.area l.step.taken l.occupied) _ _ refl refl c.loop-test.false l.invariant.fits ∙ sym l.invariant.counts

pub check_group-returns-in_err-begun : goal.check_group-returns-in_err-begun
check_group-returns-in_err-begun t c = let a = c.args in rw (exits _ _ c.from_residual.ensures.1) (refuses _ _ _ _ (opens-refused _ _ _ _ a.outer a.depth a.at _ a.scope _ _ (c.in_err-begun.ensures a.occupied.now a.depth a.at c.requires.0 c.requires.1)))

pub check_group-check_fields-requires : goal.check_group-check_fields-requires
check_group-check_fields-requires t c = let a = c.args in let B = opens-begun _ _ _ _ a.outer a.depth a.at _ a.scope _ _ (c.in_ok-begun.ensures a.occupied.now a.depth a.at c.requires.0 c.requires.1) in
    (omega (arith, inside-falls a.outer _ _ _ a.scope a.depth a.at c.requires.1 B.inside, c.requires.0), (B.ready, B.fits.0, B.fits.1, B.fits.2))

pub check_group-returns-in_err-fields : goal.check_group-returns-in_err-fields
check_group-returns-in_err-fields t c = let a = c.args in let B = opens-begun _ _ _ _ a.outer a.depth a.at _ a.scope _ _ (c.in_ok-begun.ensures a.occupied.now a.depth a.at c.requires.0 c.requires.1) in
    rw (exits _ _ c.from_residual-in_err-fields.ensures.1) (stopped _ _ _ _ _ _ c.in_err-fields.ensures ∙ sym B.counts)

pub check_group-close_group-requires : goal.check_group-close_group-requires
check_group-close_group-requires t c = let a = c.args in let B = opens-begun _ _ _ _ a.outer a.depth a.at _ a.scope _ _ (c.in_ok-begun.ensures a.occupied.now a.depth a.at c.requires.0 c.requires.1) in
    (omega (arith, inside-falls a.outer _ _ _ a.scope a.depth a.at c.requires.1 B.inside, c.requires.0), (ready _ _ _ _ _ _ B.ready (omega (arith, c.check_fields.auto, c.requires.0.same)), inside-long a.outer _ a.scope B.inside _ B.ready.room))

pub check_group-returns : goal.check_group-returns
check_group-returns t c = let a = c.args in let B = opens-begun _ _ _ _ a.outer a.depth a.at _ a.scope _ _ (c.in_ok-begun.ensures a.occupied.now a.depth a.at c.requires.0 c.requires.1) in
    inside-left a.outer _ a.scope B.inside _ _ ∙ c.close_group.ensures ∙ sym (B.counts ∙ passed _ _ _ _ _ c.in_ok-fields.ensures)

pub check_groups-loop-init : goal.check_groups-loop-init
check_groups-loop-init t c = record { inside = rw sub-zero c.requires.1; fits = search rules; counts = rw sub-zero refl }

pub check_groups-check_extending-requires : goal.check_groups-check_extending-requires
check_groups-check_extending-requires t c = let a = c.args in
    (search rules, (ready _ _ _ _ _ _ c.requires.0 (search rules), omega (arith, c.loop.invariant.inside, items_left a.total c.loop.counter 4 c.loop-test.true)))

pub check_groups-returns-in_err-step : goal.check_groups-returns-in_err-step
check_groups-returns-in_err-step t c = let a = c.args in let l = c.loop in rw (exits _ _ c.from_residual.ensures.1)
    (items-stopped 4 _ (within a.bytes.now a.frame) a.total l.counter l.place l.step.length (occupancy_of a.frame.area l.step.taken l.occupied) _ c.loop-test.true _ _ c.in_err-step.ensures ∙ sym l.invariant.counts)

pub check_groups-loop-preserved : goal.check_groups-loop-preserved
check_groups-loop-preserved t c = let a = c.args in let l = c.loop in record {
  inside = omega (arith, l.invariant.inside, items_left a.total l.counter 4 c.loop-test.true);
  fits = bounded _ _ _ _ c.in_ok-step.ensures;
  counts = l.invariant.counts ∙ items-passed 4 _ (within a.bytes.now a.frame) a.total l.counter l.place l.step.length (occupancy_of a.frame.area l.step.taken l.occupied) _ c.loop-test.true _ c.in_ok-step.ensures;
}

pub check_groups-returns : goal.check_groups-returns
check_groups-returns t c = let a = c.args in let l = c.loop in items-end 4 _ (within a.bytes.now a.frame) a.total l.counter l.place l.step.length (occupancy_of a.frame.area l.step.taken l.occupied) _ _ refl refl c.loop-test.false l.invariant.fits ∙ sym l.invariant.counts

pub check_item-check_number-requires : goal.check_item-check_number-requires
check_item-check_number-requires t c = let a = c.args in let t = a.table.now in let P = c.requires.0.layout in
    let w = wide-number (width_in a.index.now) (enums t) a.kind _ c.in-Number.is in
    let v = wide-kind t a.index.now P a.depth (kind_from (enums t) a.kind) c.requires.2 in
    (P, omega (arith, w, v, c.requires.1), c.requires.0.small)

pub check_item-check_inline-requires : goal.check_item-check_inline-requires
check_item-check_inline-requires t c = let a = c.args in let t = a.table.now in
    let w = wide-inline (width_of t a.depth) (enums t) a.kind _ _ c.in-Inline.is in (omega (arith, w, c.requires.1), c.requires.0.small)

pub check_item-check_text-requires : goal.check_item-check_text-requires
check_item-check_text-requires t c = let a = c.args in let t = a.table.now in
    let w = wide-indirect (width_of t a.depth) (enums t) a.kind _ c.in-Indirect.is in (c.requires.0.same, c.requires.0.small, c.requires.0.room, omega (arith, w, c.requires.1))

pub check_item-check_group-requires : goal.check_item-check_group-requires
check_item-check_group-requires t c = let a = c.args in let t = a.table.now in let sw = width_of t a.depth in
    let w = wide-static sw (enums t) a.kind _ c.in-Static.is in
    let q = and_both (leb 1 (sw _)) (shallow (schema t) a.depth _) (sym (kind-static sw (enums t) a.kind (shallow (schema t) a.depth) _ c.in-Static.is) ∙ c.requires.2) in
    (search rules, (c.requires.0, (omega (arith, w, c.requires.1), static-inside (schema t) a.depth _ q.0, q.1)))

pub check_item-check_dynamic-requires : goal.check_item-check_dynamic-requires
check_item-check_dynamic-requires t c = let a = c.args in let t = a.table.now in
    let w = wide-dynamic (width_of t a.depth) (enums t) a.kind _ c.in-Dynamic.is in (search rules, (c.requires.0, omega (arith, w, c.requires.1)))

pub check_item-returns-in-Plain : goal.check_item-returns-in-Plain
check_item-returns-in-Plain t c = let a = c.args in let t = a.table.now in let I = inner_of (ignored_in a.frame.rules) t (levels_in a.frame.rules) in let S = static_of (ignored_in a.frame.rules) t (levels_in a.frame.rules) a.depth in
    counts _ _ _ _ _ (item-plain _ I S a.bytes.now a.frame.base a.frame.area (occupancy_of a.frame.area a.taken a.occupied.now) (enums t) a.kind a.at (width_of t a.depth) _ c.in-Plain.is c.requires.1) (rw c.from.ensures)

pub check_item-returns-in-Number : goal.check_item-returns-in-Number
check_item-returns-in-Number t c = let a = c.args in let t = a.table.now in let I = inner_of (ignored_in a.frame.rules) t (levels_in a.frame.rules) in let S = static_of (ignored_in a.frame.rules) t (levels_in a.frame.rules) a.depth in
    c.check_number.ensures (ignored_in a.frame.rules) I S a.frame.area (λ s. occupancy_of a.frame.area s a.occupied.now) ∙ ap (λ x. after a.before (count x)) (sym (item-number _ I S a.bytes.now a.frame.base a.frame.area (occupancy_of a.frame.area a.taken a.occupied.now) (enums t) a.kind a.at _ c.in-Number.is))

pub check_item-returns-in-Inline : goal.check_item-returns-in-Inline
check_item-returns-in-Inline t c = let a = c.args in let t = a.table.now in let I = inner_of (ignored_in a.frame.rules) t (levels_in a.frame.rules) in let S = static_of (ignored_in a.frame.rules) t (levels_in a.frame.rules) a.depth in
    c.check_inline.ensures I S (λ s. occupancy_of a.frame.area s a.occupied.now) ∙ ap (λ x. after a.before (count x)) (sym (item-inline _ I S a.bytes.now a.frame.base a.frame.area (occupancy_of a.frame.area a.taken a.occupied.now) (enums t) a.kind a.at _ _ c.in-Inline.is))

pub check_item-returns-in-Indirect : goal.check_item-returns-in-Indirect
check_item-returns-in-Indirect t c = let a = c.args in let t = a.table.now in let I = inner_of (ignored_in a.frame.rules) t (levels_in a.frame.rules) in let S = static_of (ignored_in a.frame.rules) t (levels_in a.frame.rules) a.depth in
    c.check_text.ensures ∙ ap (λ x. after a.before (count x)) (sym (item-indirect _ I S a.bytes.now a.frame.base a.frame.area (occupancy_of a.frame.area a.taken a.occupied.now) (enums t) a.kind a.at _ c.in-Indirect.is))

pub check_item-returns-in-Static : goal.check_item-returns-in-Static
check_item-returns-in-Static t c = let a = c.args in let t = a.table.now in let I = inner_of (ignored_in a.frame.rules) t (levels_in a.frame.rules) in let S = static_of (ignored_in a.frame.rules) t (levels_in a.frame.rules) a.depth in
    c.check_group.ensures ∙ sym (goes_on a.before 2 _ _ _ (item-static _ I S a.bytes.now a.frame.base a.frame.area (occupancy_of a.frame.area a.taken a.occupied.now) (enums t) a.kind a.at _ c.in-Static.is) refl)

pub check_item-returns-in-Dynamic : goal.check_item-returns-in-Dynamic
check_item-returns-in-Dynamic t c = let a = c.args in let t = a.table.now in let I = inner_of (ignored_in a.frame.rules) t (levels_in a.frame.rules) in let S = static_of (ignored_in a.frame.rules) t (levels_in a.frame.rules) a.depth in
    c.check_dynamic.ensures ∙ sym (goes_on a.before 2 _ _ _ (item-dynamic _ I S a.bytes.now a.frame.base a.frame.area (occupancy_of a.frame.area a.taken a.occupied.now) (enums t) a.kind a.at _ c.in-Dynamic.is) refl)

pub check_items-check_texts-requires : goal.check_items-check_texts-requires
check_items-check_texts-requires t c = let a = c.args in let t = a.table.now in let q : a.width ≡ 4 = c.requires.4 ∙ wide-indirect (width_of t a.depth) (enums t) a.kind _ c.in-Indirect.is in
    (c.requires.0.same, c.requires.0.small, c.requires.0.room, rw q at c.requires.1)

pub check_items-check_numbers-requires : goal.check_items-check_numbers-requires
check_items-check_numbers-requires t c = let a = c.args in let p = c.requires in let t = a.table.now in
    let w = wide-number (width_in a.index.now) (enums t) a.kind _ c.in-Number.is in
    let v = wide-kind t a.index.now p.0.layout a.depth (kind_from (enums t) a.kind) p.5 in
    (p.0.layout, rw (p.4 ∙ sym v ∙ w) at p.1, p.0.small)

pub check_items-returns-in-Plain : goal.check_items-returns-in-Plain
check_items-returns-in-Plain t c = let a = c.args in let t = a.table.now in counts _ _ _ _ _ (items-plain _ (inner_of (ignored_in a.frame.rules) t (levels_in a.frame.rules)) (static_of (ignored_in a.frame.rules) t (levels_in a.frame.rules) a.depth) a.bytes.now a.frame.base a.frame.area (occupancy_of a.frame.area a.taken a.occupied.now) (enums t) a.kind (width_of t a.depth) _ a.width a.total a.at c.in-Plain.is c.requires.4 c.requires.1) (rw c.from.ensures)

pub check_items-returns-in-Indirect : goal.check_items-returns-in-Indirect
check_items-returns-in-Indirect t c = let a = c.args in let t = a.table.now in
    c.check_texts.ensures ∙ ap (λ x. after a.before (count x)) (sym (items-indirect _ (inner_of (ignored_in a.frame.rules) t (levels_in a.frame.rules)) (static_of (ignored_in a.frame.rules) t (levels_in a.frame.rules) a.depth) a.bytes.now a.frame.base a.frame.area (occupancy_of a.frame.area a.taken a.occupied.now) (enums t) a.kind (width_of t a.depth) a.width a.total a.at c.requires.4 _ c.in-Indirect.is))

pub check_items-returns-in-Number : goal.check_items-returns-in-Number
check_items-returns-in-Number t c = let a = c.args in let p = c.requires in let t = a.table.now in
    let w = wide-number (width_in a.index.now) (enums t) a.kind _ c.in-Number.is in
    let v = wide-kind t a.index.now p.0.layout a.depth (kind_from (enums t) a.kind) p.5 in
    let x = (ignored_in a.frame.rules) in let I = inner_of x t (levels_in a.frame.rules) in let S = static_of x t (levels_in a.frame.rules) a.depth in
    c.check_numbers.ensures x I S a.frame.area (λ s. occupancy_of a.frame.area s a.occupied.now) ∙ ap (λ x. after a.before (count x)) (sym (items-number _ I S a.bytes.now a.frame.base a.frame.area (occupancy_of a.frame.area a.taken a.occupied.now) (enums t) a.kind a.width _ a.total a.at (p.4 ∙ sym v ∙ w) _ c.in-Number.is))

pub check_items-loop-init : goal.check_items-loop-init
check_items-loop-init t c = record { inside = rw sub-zero c.requires.1; fits = search rules; counts = rw sub-zero refl }

pub check_items-check_item-requires : goal.check_items-check_item-requires
check_items-check_item-requires t c = let a = c.args in
    (search rules, (ready _ _ _ _ _ _ c.requires.0 (search rules), omega (arith, c.loop.invariant.inside, items_left a.total c.loop.counter a.width c.loop-test.true, c.requires.4), c.requires.5))

pub check_items-returns-in_err-step : goal.check_items-returns-in_err-step
check_items-returns-in_err-step t c = let a = c.args in let l = c.loop in rw (exits _ _ c.from_residual.ensures.1)
    (items-stopped a.width _ (within a.bytes.now a.frame) a.total l.counter l.place l.step.length (occupancy_of a.frame.area l.step.taken l.occupied) _ c.loop-test.true _ _ c.in_err-step.ensures ∙ sym l.invariant.counts)

pub check_items-loop-preserved : goal.check_items-loop-preserved
check_items-loop-preserved t c = let a = c.args in let l = c.loop in record {
  inside = omega (arith, l.invariant.inside, items_left a.total l.counter a.width c.loop-test.true);
  fits = bounded _ _ _ _ c.in_ok-step.ensures;
  counts = l.invariant.counts ∙ items-passed a.width _ (within a.bytes.now a.frame) a.total l.counter l.place l.step.length (occupancy_of a.frame.area l.step.taken l.occupied) _ c.loop-test.true _ c.in_ok-step.ensures;
}

pub check_items-returns : goal.check_items-returns
check_items-returns t c = let a = c.args in let l = c.loop in items-end a.width _ (within a.bytes.now a.frame) a.total l.counter l.place l.step.length (occupancy_of a.frame.area l.step.taken l.occupied) _ _ refl refl c.loop-test.false l.invariant.fits ∙ sym l.invariant.counts

pub check_nested-returns-in_err-group : goal.check_nested-returns-in_err-group
check_nested-returns-in_err-group t c = let a = c.args in rw (exits _ _ c.from_residual.ensures.1)
    (stopped (λ _. []) a.before _ _ _ (λ _. counted 0 (occupancy_of a.frame.area a.taken a.occupied.now)) (rw add-sub_cancel_left at c.in_err-group.ensures))

pub check_nested-returns : goal.check_nested-returns
check_nested-returns t c = let a = c.args in
    nested-passed _ a.before _ _ a.taken (occupancy_of a.frame.area a.taken a.occupied.now) (rw add-sub_cancel_left at c.in_ok-group.ensures) (retaken a.frame.area a.taken a.occupied.now _ _ c.check_group.new.occupied a.start a.size (omega (arith, c.requires.0.room, c.requires.0.same)) (search rules) (search rules) refl (rw add-sub_cancel_left at c.retake.ensures) c.requires.2)

pub check_rest-returns-in_err-extension : goal.check_rest-returns-in_err-extension
check_rest-returns-in_err-extension t c = let a = c.args in rw (exits _ _ c.from_residual.ensures.1) (stopped _ a.before _ _ _ (closing (within a.bytes.now a.frame)) c.in_err-extension.ensures)

pub check_rest-returns : goal.check_rest-returns
check_rest-returns t c = let a = c.args in c.check_pads.ensures ∙ sym (passed _ a.before _ _ (closing (within a.bytes.now a.frame)) c.in_ok-extension.ensures)

pub check_value-locate-requires : goal.check_value-locate-requires
check_value-locate-requires t c = let s = c in let a = s.args in let t = a.table.now in
    let w = width-sequence (width_of t a.depth) (field_at (enums t) (drop a.field t)) (sym (c.is_sequence.ensures (enums t)) ∙ c.if-is_sequence.true) in
    (s.requires.0.same, s.requires.0.small, s.requires.0.room, omega (arith, w, s.requires.2), c.kind_width-width.ensures.1)

pub check_value-returns-in_err-found : goal.check_value-returns-in_err-found
check_value-returns-in_err-found t c = let s = c in let a = s.args in let t = a.table.now in
    let k = c.kind_at-kind.ensures (enums t) in
    let w = c.kind_width-width in
    rw (exits _ _ c.from_residual.ensures.1) (refuses _ _ _ _ (sequence-nowhere _ _ _ _ _ _ _ _ k _ (w.ensures.0 (enums t) ∙ wide-kind t a.index.now s.requires.0.layout a.depth _ (rw (sym k) at s.requires.3)) (sym (c.is_sequence.ensures (enums t)) ∙ c.if-is_sequence.true) _ _ c.in_err-found.ensures.0))

pub check_value-check_items-requires : goal.check_value-check_items-requires
check_value-check_items-requires t c =
    let j = check-value-joined t (goal.at.check_value-check_items-requires t c).Joined-is_sequence in
    let d = rw (sym (c.kind_at-kind.ensures (enums c.args.table.now))) at c.requires.3 in
    let w = c.kind_width-width.ensures in
    (search rules, (ready _ _ _ _ _ _ c.requires.0 (c.if-is_sequence.auto.occupied ∙ c.requires.0.same), j.inside, j.few, w.1, w.0 (enums c.args.table.now) ∙ wide-kind c.args.table.now c.args.index.now c.requires.0.layout c.args.depth _ d, d))

pub check_value-returns : goal.check_value-returns
check_value-returns t c = c.check_items.ensures ∙ (check-value-joined t (goal.at.check_value-returns t c).Joined-is_sequence).counts

pub close_group-returns-then-taken-bytes : goal.close_group-returns-then-taken-bytes
close_group-returns-then-taken-bytes t c = let a = c.args in let t = a.table.now in let R = c.requires.0 in
    closes-dynamic t (levels_in a.frame.rules) (within a.bytes.now a.frame) _ a.frame.area _ a.before a.scope _ c.in-Whole.is _ (counts _ _ _ _ _ (rest_plain _ (schema t) (inner_of (ignored_in a.frame.rules) t (levels_in a.frame.rules)) a.bytes.now a.frame.base a.frame.area _ (sym c.read_u32.ensures.0 ∙ c.if-read_u32-ne0.false) ∙ closing-filled _ a.bytes.now a.frame.base a.frame.area _ (pads-none a.frame.area _ a.occupied.now a.bytes.now R.same R.room c.if-taken-bytes.true (omega (arith, c.if-taken-bytes.true, R.small)))) refl)

pub close_group-returns-else-taken-bytes : goal.close_group-returns-else-taken-bytes
close_group-returns-else-taken-bytes t c = let a = c.args in let t = a.table.now in
    closes-dynamic t (levels_in a.frame.rules) (within a.bytes.now a.frame) _ a.frame.area _ a.before a.scope _ c.in-Whole.is _ (c.check_pads.ensures ∙ ap (after a.before) (sym (rest_plain _ (schema t) (inner_of (ignored_in a.frame.rules) t (levels_in a.frame.rules)) a.bytes.now a.frame.base a.frame.area _ (sym c.read_u32.ensures.0 ∙ c.if-read_u32-ne0.false))))

pub close_group-returns-in-Fields : goal.close_group-returns-in-Fields
close_group-returns-in-Fields t c = let a = c.args in closes-static a.table.now (levels_in a.frame.rules) (within a.bytes.now a.frame) _ a.frame.area _ a.before a.scope _ c.in-Fields.is _ refl (search rules)
