use Rattle.writing.specs.declared.Ends.{Ends}
use mathlib.Core.Logic.{◌⊎◌, inl, inr}
use Prim.Native.Nat.{◌+◌, ◌-◌, ◌*◌, ◌≤◌, ◌<◌}
use native.Mathlib.Omega.{arith}
use mathlib.Core.Path.{◌≡◌, sym, ◌∙◌, refl, ap}
use mathlib.Core.Bool.{true, false}
use mathlib.Core.List.{List, []}
use lib.ListN.{length, drop}
use lib.Dec.{leb}
use Rattle.wire.specs.Bytes.{part, le, bytes_of, same, splice}
use Rattle.wire.proofs.Laws.{length-bytes}
use Rattle.schema.proofs.Types.{plain-is}
use Rattle.schema.specs.Schema.{shallow_kind, shallow, kind_width, any}
use Rattle.schema.specs.Table.{field_at, enums, schema}
use Rattle.schema.specs.FieldKinds.{kind_from, plain_width}
use Rattle.schema.specs.Layout.{Layout, width_in}
use Rattle.schema.specs.declared.FieldKind.{FieldKind}
use Rattle.schema.specs.declared.FieldKind.TheVariants.{Plain}
use Rattle.schema.proofs.Groups.{static-inside, placed-inside}
use Rattle.schema.proofs.Depth.{and_both, shallow-some, wide-kind, wide-field}
use Rattle.message.specs.Sheet.{VA, kind_mark}
use Rattle.message.specs.Check.{width_of}
use Rattle.message.proofs.CheckFields.{plain-wide, kind-static}
use Rattle.sheet.specs.Written.{indirect_w, list_b, items_w, Writing, Writer, marked_w, plain_w}
use Rattle.sheet.specs.Writers.{inner_of, static_of, kind_of, item_of, value_of, field_of, extending_of, extension_of}
use Rattle.sheet.proofs.Widths.{wide_is, Wides, wides-indirect, wides-marked, wides-kind, wides-static, wides-extension}
use Rattle.sheet.proofs.Writers.{field_plain, value-one, items-plain, items-text, items-one}
use Rattle.sheet.proofs.ShowReaders.{is-XT, is-XU}
use Rattle.writing.specs.Write.{Fits, group_of, place_of, Scoped}
use Rattle.writing.proofs.Laws.{put-byte}
use Rattle.writing.proofs.Left.{Left, begun, opened, left-fits, finished, fits-opens, stands-opens, Opens}
use Rattle.writing.proofs.Writers.{same-opens, marked-opens, marked-inside, in_place, plain-room, plain-stands, record-room, record-stands, inline-room, inline-stands, text-room, text-stands, list-room, list_left, field-inside, absent-room, absent-stands, present-room, present-left, required-left, list-opens, kind-plain, kind-number, kind-inline, kind-fields, kind-dynamic, text-opens}
use Rattle.writing.proofs.Loops.{item-fits, item-room, items-next, items-done, fields-start, field-listed, field-flat, field_fits, fields-next, fields-done, FieldsLeft}
use Rattle.writing.proofs.Groups.{extension-none, extension-some, extending-kept, extending-inner, extending-inside, nested-room, nested-fits, nested-end, nested-stands}
use Rattle.writing.proofs.Scopes.{end-begins, end-room, whole-ends, fields-end, deep, has-head, goes}
use Prim.Native.Nat.{ℕ}
use borrow.Author.Rules.{rules}
use Rattle.writing.proofs.+write.Goals as goal
use Rattle.writing.proofs.+write.Goals.{write_field-Joined-is_optional, write_field-then-is_optional+else-has_mark, write_field-else-is_optional, write_fields-then-plain-ne0, write_fields-else-plain-ne0, write_value-then-is_sequence, write_value-else-is_sequence}

-- what is left of the field where the two ways to its value meet

write_field-left : (t : ℕ) (c : write_field-Joined-is_optional t)
    → let a = c.args in let j = c.if-is_optional in (length j.out ≡ length a.out.now)
    × Left (field_of a.table.now a.levels a.depth a.field a.at a.ends.free (drop a.ends.pos a.sheet.now)) a.at a.ends.free a.out.now
    (value_of a.table.now a.levels a.depth a.field j.place a.ends.free (drop a.ends.pos a.sheet.now)) j.place a.ends.free j.out
write_field-left t c = let a = c.args in let t = a.table.now in let es = enums t in let sw = width_of t a.depth in let S = static_of t a.levels a.depth in (
  c.if-is_optional.auto.out,
  elim c.if-is_optional.branch [
    | write_field-then-is_optional+else-has_mark w ↦ present-left (inner_of t a.levels) sw S (field_at es (drop a.field t)) a.at a.ends.free a.ends.pos a.sheet.now a.out.now c.requires.3 (sym (c.is_optional.ensures es) ∙ w.if-is_optional.true) (sym w.has_mark.ensures ∙ w.if-has_mark.false) _ _ (put-byte a.at 1 a.out.now _ w.out-is (omega (arith, present-room (inner_of t a.levels) sw S (field_at es (drop a.field t)) a.at a.ends.free a.ends.pos a.sheet.now a.out.now c.requires.3 (sym (c.is_optional.ensures es) ∙ w.if-is_optional.true) (sym w.has_mark.ensures ∙ w.if-has_mark.false)))) w.place-is
    | write_field-else-is_optional w ↦ required-left (inner_of t a.levels) sw S (field_at es (drop a.field t)) a.at a.ends.free a.ends.pos a.sheet.now a.out.now c.requires.3 (sym (c.is_optional.ensures es) ∙ w.if-is_optional.false) _ _ w.out-is w.place-is
  ],
)

item-wides : (t : List ℕ) (levels depth w : ℕ) (k : FieldKind) → w ≡ kind_width (width_of t depth) (kind_from (enums t) k) → Wides w (item_of t levels depth k)
item-wides t levels depth w k e = let I = inner_of t levels in let K = kind_from (enums t) k in
    rw e (wides-marked (kind_mark K) _ (kind_of t levels depth k) (wides-kind I (width_of t depth) (static_of t levels depth) (λ g. wides-static (schema t) I depth g) K))

-- the item's width, and that it is shallow

value-wide : (t i : List ℕ) (depth field w : ℕ) (k : FieldKind) → Layout t i → shallow_kind (shallow (schema t) depth) (width_of t depth) (field_at (enums t) (drop field t)).kind ≡ true
    → kind_from (enums t) k ≡ (field_at (enums t) (drop field t)).kind → w ≡ kind_width (width_in i) (kind_from (enums t) k)
    → (w ≡ kind_width (width_of t depth) (kind_from (enums t) k)) × (shallow_kind (shallow (schema t) depth) (width_of t depth) (kind_from (enums t) k) ≡ true)
value-wide t i depth field w k l s e u = let d = rw (sym e) at s in (u ∙ wide-kind t i l depth _ d, d)

-- a required value without a test: there are so many bytes of the sheet behind its mark, and there is room for them
module _ {t s : List ℕ} {l d g n at free pos : ℕ} {out₀ : List ℕ} {i field place end next : ℕ} {out : List ℕ} (L : FieldsLeft t s l d g n at free pos out₀ i field place end next out) (h : i < n)
    {w : ℕ} (q : w ≡ plain_width (field_at (enums t) (drop field t))) (z : w ≡ 0 → ⊥) where
  plain-opens : field_of t l (d - 1) field place end (drop next s) ≡ marked_w VA (plain_w w any) place end (drop next s)
  plain-opens = field_plain (inner_of t l) (width_of t (d - 1)) (static_of t l (d - 1)) (field_at (enums t) (drop field t)) place end next s _ _ (plain-is _ _ _ q z)

  plain-left : (next + 2 ≤ length s) × (next + 2 + w ≤ length s) × (place + w ≤ length out)
  plain-left = record-room _ VA w any place end next s out plain-opens (field_fits L h)

  plain-next : {mid : List ℕ} {p : ℕ} → mid ≡ splice w place (part w (next + 2) s) out → p ≡ next + 2 + w → FieldsLeft t s l d g n at free pos out₀ (i + 1) (field + 16) (place + w) end p mid
  plain-next m e = fields-next L h (sym (plain-wide (width_of t (d - 1)) _ _ _ (plain-is _ _ _ q z))) (record-stands _ VA w any place end next s out plain-opens (field_fits L h) _ _ m e)

-- a list behind its mark: its offset goes in place, and its count where the data area goes on
module _ (x : Writing) (least w : ℕ) (W : Writer) (u : Wides w W) (at free pos n : ℕ) (s out : List ℕ) (i : n ≡ le (part 4 (pos + 2) s)) (f : Fits x at free out)
    (o : Opens x (indirect_w (list_b least w W) at free (drop (pos + 2) s))) where
  list-inside : (pos + 2 + 4 ≤ length s) × (at + 4 ≤ free) × (free + (4 + n * w) ≤ length out)
  list-inside = list-room _ _ _ _ least w W u at free (pos + 2) n s out i (opened _ _ _ _ _ _ _ _ (begun _ _ _ _ f) _ o)

  items_left : {mid left : List ℕ} {p : ℕ} → mid ≡ splice 4 at (bytes_of 4 (free - at)) out → left ≡ splice 4 free (part 4 (pos + 2) s) mid → p ≡ pos + 2 + 4
      → Left x at free out (items_w w W n (free + 4) (free + (4 + n * w)) (drop p s)) (free + 4) (free + (4 + n * w)) left
  items_left m l e = list_left _ _ _ _ least w W u at free (pos + 2) n s out i (opened _ _ _ _ _ _ _ _ (begun _ _ _ _ f) _ o) _ _ _ _ _ m l e refl refl

-- what is left of a value: so many items from where they start, and the two ends, which are behind the count of a sequence and behind its items
value-left : (t : List ℕ) (levels depth field at w : ℕ) (e : Ends) (s out mid : List ℕ) (k : FieldKind) (j : ℕ × ℕ × Ends) → kind_from (enums t) k ≡ (field_at (enums t) (drop field t)).kind
    → w ≡ kind_width (width_of t depth) (kind_from (enums t) k) → Fits (value_of t levels depth field at e.free (drop e.pos s)) at e.free out
    → (((field_at (enums t) (drop field t)).sequence ≡ true) × (n : ℕ) × (p : ℕ) × (first : List ℕ) × (n ≡ le (part 4 (e.pos + 2) s)) × (first ≡ splice 4 at (bytes_of 4 (e.free - at)) out) × (mid ≡ splice 4 e.free (part 4 (e.pos + 2) s) first) × (p ≡ e.pos + 2 + 4)
    × (j ≡ (n, e.free + 4, record { pos = p; free = e.free + (4 + n * w) })))
    ⊎ (((field_at (enums t) (drop field t)).sequence ≡ false) × (mid ≡ out) × (j ≡ (1, at, e)))
    → Left (value_of t levels depth field at e.free (drop e.pos s)) at e.free out (items_w w (item_of t levels depth k) j.0 j.1 j.2.free (drop j.2.pos s)) j.1 j.2.free mid
value-left t levels depth field at w e s out mid k j i iw f (inl v) = rw v.8 (items_left _ 0 w (item_of t levels depth k) (item-wides t levels depth w k iw) at e.free e.pos v.1 s out v.4 f
    (list-opens (inner_of t levels) (width_of t depth) (static_of t levels depth) (field_at (enums t) (drop field t)) at e.free e.pos s _ i v.0 w iw) v.5 v.6 v.7)
value-left t levels depth field at w e s out mid k j i iw f (inr v) = rw (v.2, v.1) (opened _ _ _ _ _ _ _ _ (begun _ _ _ _ f) _
    (same-opens _ _ (value-one (inner_of t levels) (width_of t depth) (static_of t levels depth) (field_at (enums t) (drop field t)) at e.free e.pos s _ i v.0 ∙ sym (items-one w (item_of t levels depth k) at e.free (drop e.pos s)))))

pub close_group-write_extension-ends-requires : goal.close_group-write_extension-ends-requires
close_group-write_extension-ends-requires t c = let a = c.args in let R = c.requires in let b = end-begins a.scope _ c.in-Whole.is a.ends.pos a.ends.free a.sheet.now a.out.now a.table.now a.levels R.1 in
    (search rules, (R.0, b.0, b.1))

pub close_group-overflow_sub-ends : goal.close_group-overflow_sub-ends
close_group-overflow_sub-ends t c = let a = c.args in omega (arith, (end-room a.scope _ c.in-Whole.is a.ends.pos a.ends.free a.sheet.now a.out.now a.table.now a.levels c.requires.1 _ _ _ c.write_extension-ends.ensures).0)

pub close_group-write_u32-requires : goal.close_group-write_u32-requires
close_group-write_u32-requires t c = let a = c.args in omega (arith, (end-room a.scope _ c.in-Whole.is a.ends.pos a.ends.free a.sheet.now a.out.now a.table.now a.levels c.requires.1 _ _ _ c.write_extension-ends.ensures).1, c.write_extension-ends.auto.out)

pub close_group-overflow_add-result : goal.close_group-overflow_add-result
close_group-overflow_add-result t c = let a = c.args in omega (arith, (end-room a.scope _ c.in-Whole.is a.ends.pos a.ends.free a.sheet.now a.out.now a.table.now a.levels c.requires.1 _ _ _ c.write_extension-ends.ensures).2)

pub close_group-returns-in-Whole : goal.close_group-returns-in-Whole
close_group-returns-in-Whole t c = let a = c.args in whole-ends a.scope _ c.in-Whole.is a.ends.pos a.ends.free a.sheet.now a.out.now a.table.now a.levels c.requires.1 _ _ _ c.write_extension-ends.ensures _ c.write_u32.ensures

pub close_group-returns-in-Fields : goal.close_group-returns-in-Fields
close_group-returns-in-Fields t c = let a = c.args in fields-end a.scope _ c.in-Fields.is a.table.now a.levels a.ends.pos a.ends.free a.sheet.now a.out.now

pub write_extending-overflow_add-behind : goal.write_extending-overflow_add-behind
write_extending-overflow_add-behind t c = let a = c.args in let R = c.requires in let t = a.table.now in let s = a.sheet.now in let o = a.out.now in let I = inner_of t a.levels in omega (arith, extending-inside (schema t) I a.at a.ends.free a.ends.pos s o R.1)

pub write_extending-has_mark-requires : goal.write_extending-has_mark-requires
write_extending-has_mark-requires t c = let a = c.args in let R = c.requires in let t = a.table.now in let s = a.sheet.now in let o = a.out.now in let I = inner_of t a.levels in extending-inside (schema t) I a.at a.ends.free a.ends.pos s o R.1

pub write_extending-write_text-requires : goal.write_extending-write_text-requires
write_extending-write_text-requires t c = let a = c.args in let R = c.requires in let t = a.table.now in let s = a.sheet.now in let o = a.out.now in let I = inner_of t a.levels in let k = ap (same (part 2 a.ends.pos s)) (sym is-XU) ∙ sym c.has_mark.ensures ∙ c.if-has_mark.true in let x = extending-kept (schema t) I a.at a.ends.free a.ends.pos s k in
    text-room _ x.0 x.1 a.at a.ends.free (a.ends.pos + 2) s o x.2 R.1

pub write_extending-returns-then-has_mark : goal.write_extending-returns-then-has_mark
write_extending-returns-then-has_mark t c = let a = c.args in let R = c.requires in let t = a.table.now in let s = a.sheet.now in let o = a.out.now in let I = inner_of t a.levels in let k = ap (same (part 2 a.ends.pos s)) (sym is-XU) ∙ sym c.has_mark.ensures ∙ c.if-has_mark.true in let x = extending-kept (schema t) I a.at a.ends.free a.ends.pos s k in
    text-stands _ x.0 x.1 a.at a.ends.free (a.ends.pos + 2) s o x.2 R.1 _ _ _ c.write_text.ensures.0 c.write_text.ensures.1 c.write_text.ensures.2

pub write_extending-write_nested-requires : goal.write_extending-write_nested-requires
write_extending-write_nested-requires t c = let a = c.args in let R = c.requires in let t = a.table.now in let s = a.sheet.now in let o = a.out.now in let I = inner_of t a.levels in let k = ap (same (part 2 a.ends.pos s)) (sym is-XU) ∙ sym c.has_mark.ensures ∙ c.if-has_mark.false in let q = extending-inner (schema t) I a.at a.ends.free a.ends.pos s k in
    (search rules, (R.0, fits-opens _ _ _ _ _ R.1 q))

pub write_extending-returns : goal.write_extending-returns
write_extending-returns t c = let a = c.args in let R = c.requires in let t = a.table.now in let s = a.sheet.now in let o = a.out.now in let I = inner_of t a.levels in let k = ap (same (part 2 a.ends.pos s)) (sym is-XU) ∙ sym c.has_mark.ensures ∙ c.if-has_mark.false in let q = extending-inner (schema t) I a.at a.ends.free a.ends.pos s k in
    stands-opens _ _ _ _ _ R.1 q _ _ _ _ c.write_nested.ensures

pub write_field-has_mark-requires : goal.write_field-has_mark-requires
write_field-has_mark-requires t c = let a = c.args in let R = c.requires in let t = a.table.now in let s = a.sheet.now in let o = a.out.now in let I = inner_of t a.levels in let es = enums t in let sw = width_of t a.depth in let S = static_of t a.levels a.depth in let f = field_at es (drop a.field t) in field-inside I sw S f a.at a.ends.free a.ends.pos s o R.3

pub write_field-fill-requires : goal.write_field-fill-requires
write_field-fill-requires t c = let a = c.args in let R = c.requires in let t = a.table.now in let s = a.sheet.now in let o = a.out.now in let I = inner_of t a.levels in let es = enums t in let sw = width_of t a.depth in let S = static_of t a.levels a.depth in let f = field_at es (drop a.field t) in let e = sym (c.is_optional.ensures es) ∙ c.if-is_optional.true in let k = sym c.has_mark.ensures ∙ c.if-has_mark.true in let w = c.field_width-width.ensures.0 es ∙ wide-field t a.index.now R.0 a.depth _ R.2 in
    absent-room I sw S f a.at a.ends.free a.ends.pos s o R.3 e k _ w

pub write_field-overflow_add-result : goal.write_field-overflow_add-result
write_field-overflow_add-result t c = let a = c.args in let R = c.requires in let t = a.table.now in let s = a.sheet.now in let o = a.out.now in let I = inner_of t a.levels in let es = enums t in let sw = width_of t a.depth in let S = static_of t a.levels a.depth in let f = field_at es (drop a.field t) in omega (arith, field-inside I sw S f a.at a.ends.free a.ends.pos s o R.3)

pub write_field-returns-then-has_mark : goal.write_field-returns-then-has_mark
write_field-returns-then-has_mark t c = let a = c.args in let R = c.requires in let t = a.table.now in let s = a.sheet.now in let o = a.out.now in let I = inner_of t a.levels in let es = enums t in let sw = width_of t a.depth in let S = static_of t a.levels a.depth in let f = field_at es (drop a.field t) in let e = sym (c.is_optional.ensures es) ∙ c.if-is_optional.true in let k = sym c.has_mark.ensures ∙ c.if-has_mark.true in let w = c.field_width-width.ensures.0 es ∙ wide-field t a.index.now R.0 a.depth _ R.2 in
    absent-stands I sw S f a.at a.ends.free a.ends.pos s o R.3 e k _ w _ c.fill.ensures

pub write_field-overflow_add-place : goal.write_field-overflow_add-place
write_field-overflow_add-place t c = let a = c.args in let R = c.requires in omega (arith, R.3.before, R.3.room)

pub write_field-write_value-requires : goal.write_field-write_value-requires
write_field-write_value-requires t c = let R = c.requires in (search rules, (R.0, R.1, R.2, left-fits _ _ _ _ _ _ _ _ (write_field-left t (goal.at.write_field-write_value-requires t c).Joined-is_optional).1))

pub write_field-shape_of-out : goal.write_field-shape_of-out
write_field-shape_of-out t c = let e = (write_field-left t (goal.at.write_field-shape_of-out t c).Joined-is_optional).0 in search rules

pub write_field-returns : goal.write_field-returns
write_field-returns t c = finished _ _ _ _ _ _ _ _ (write_field-left t (goal.at.write_field-returns t c).Joined-is_optional).1 _ _ _ _ c.write_value.ensures

pub write_group-open_group-open-requires : goal.write_group-open_group-open-requires
write_group-open_group-open-requires t c = let a = c.args in let R = c.requires in (R.0, has-head a.table.now a.levels a.depth a.at a.ends.free a.ends.pos a.sheet.now a.out.now a.scope R.1 R.2)

pub write_group-write_fields-fields-requires : goal.write_group-write_fields-fields-requires
write_group-write_fields-fields-requires t c = let a = c.args in let R = c.requires in let g = goes a.table.now a.levels a.depth a.at a.ends.free a.ends.pos a.sheet.now a.out.now _ R.0 a.scope R.1 R.2 _ _ c.open_group-open.ensures.0 c.open_group-open.ensures.1 in
    (omega (arith, g.falls.0), (R.0, g.inside, g.low, g.fits))

pub write_group-close_group-requires : goal.write_group-close_group-requires
write_group-close_group-requires t c = let a = c.args in let R = c.requires in let g = goes a.table.now a.levels a.depth a.at a.ends.free a.ends.pos a.sheet.now a.out.now _ R.0 a.scope R.1 R.2 _ _ c.open_group-open.ensures.0 c.open_group-open.ensures.1 in
    (omega (arith, g.falls.1), (R.0, (g.ends _ _ _ c.write_fields-fields.ensures).0))

pub write_group-returns : goal.write_group-returns
write_group-returns t c = let a = c.args in let R = c.requires in let g = goes a.table.now a.levels a.depth a.at a.ends.free a.ends.pos a.sheet.now a.out.now _ R.0 a.scope R.1 R.2 _ _ c.open_group-open.ensures.0 c.open_group-open.ensures.1 in
    (g.ends _ _ _ c.write_fields-fields.ensures).1 _ _ _ c.close_group.ensures

pub write_item-write_bytes-pos-requires : goal.write_item-write_bytes-pos-requires
write_item-write_bytes-pos-requires t c = let a = c.args in let R = c.requires in let t = a.table.now in let s = a.sheet.now in let o = a.out.now in let I = inner_of t a.levels in let es = enums t in let sw = width_of t a.depth in let S = static_of t a.levels a.depth in let e = c.in-Plain.is ∙ ap Plain (sym c.from.ensures) in let q = same-opens _ _ (kind-plain I S es a.kind a.at a.ends.free (drop a.ends.pos s) _ e) in
    plain-room _ any a.at a.ends.free a.ends.pos s o (fits-opens _ _ _ _ _ R.3 q) R.2

pub write_item-write_bytes-pos-requires-in-Number : goal.write_item-write_bytes-pos-requires-in-Number
write_item-write_bytes-pos-requires-in-Number t c = let a = c.args in let R = c.requires in let t = a.table.now in let s = a.sheet.now in let o = a.out.now in let I = inner_of t a.levels in let es = enums t in let sw = width_of t a.depth in let S = static_of t a.levels a.depth in let w = c.from-width.ensures ∙ c.tested_width.ensures es sw in let n = kind-number I S es a.kind a.at a.ends.free (drop a.ends.pos s) sw _ _ c.in-Number.is w in let q = same-opens _ _ n.1 in
    plain-room _ n.0 a.at a.ends.free a.ends.pos s o (fits-opens _ _ _ _ _ R.3 q) R.2

pub write_item-write_inline-pos-requires : goal.write_item-write_inline-pos-requires
write_item-write_inline-pos-requires t c = let a = c.args in let R = c.requires in let t = a.table.now in let s = a.sheet.now in let o = a.out.now in let I = inner_of t a.levels in let es = enums t in let sw = width_of t a.depth in let S = static_of t a.levels a.depth in let q = same-opens _ _ (kind-inline I S es a.kind a.at a.ends.free (drop a.ends.pos s) _ _ _ c.in-Inline.is c.from-in-Inline.ensures) in
    let r = inline-room _ c.from-in-Inline.result a.at a.ends.free a.ends.pos s o (fits-opens _ _ _ _ _ R.3 q) in (r.0, r.1, r.2, search rules, r.3)

pub write_item-write_text-requires : goal.write_item-write_text-requires
write_item-write_text-requires t c = let a = c.args in let R = c.requires in let t = a.table.now in let s = a.sheet.now in let o = a.out.now in let I = inner_of t a.levels in let es = enums t in let sw = width_of t a.depth in let S = static_of t a.levels a.depth in let x = text-opens I S es a.kind a.at a.ends.free a.ends.pos s _ c.in-Indirect.is in
    text-room _ x.0 x.1 a.at a.ends.free a.ends.pos s o x.2 R.3

pub write_item-write_group-requires : goal.write_item-write_group-requires
unfolding group_of place_of Scoped deep
write_item-write_group-requires t c = let a = c.args in let R = c.requires in let t = a.table.now in let s = a.sheet.now in let o = a.out.now in let I = inner_of t a.levels in let es = enums t in let sw = width_of t a.depth in let S = static_of t a.levels a.depth in let q = same-opens _ _ (kind-fields I S es a.kind a.at a.ends.free (drop a.ends.pos s) _ c.in-Static.is) in
    let b = and_both (leb 1 (sw _)) (shallow (schema t) a.depth _) (sym (kind-static sw es a.kind (shallow (schema t) a.depth) _ c.in-Static.is) ∙ R.1) in
    (search rules, (R.0, (static-inside (schema t) a.depth _ b.0, b.1), fits-opens _ _ _ _ _ R.3 q))

pub write_item-write_nested-requires : goal.write_item-write_nested-requires
write_item-write_nested-requires t c = let a = c.args in let R = c.requires in let t = a.table.now in let s = a.sheet.now in let o = a.out.now in let I = inner_of t a.levels in let es = enums t in let sw = width_of t a.depth in let S = static_of t a.levels a.depth in let q = same-opens _ _ (kind-dynamic I S es a.kind a.at a.ends.free (drop a.ends.pos s) _ c.in-Dynamic.is) in
    (search rules, (R.0, fits-opens _ _ _ _ _ R.3 q))

pub write_item-returns-in-Plain : goal.write_item-returns-in-Plain
write_item-returns-in-Plain t c = let a = c.args in let R = c.requires in let t = a.table.now in let s = a.sheet.now in let o = a.out.now in let I = inner_of t a.levels in let es = enums t in let sw = width_of t a.depth in let S = static_of t a.levels a.depth in let e = c.in-Plain.is ∙ ap Plain (sym c.from.ensures) in let q = same-opens _ _ (kind-plain I S es a.kind a.at a.ends.free (drop a.ends.pos s) _ e) in
    stands-opens _ _ _ _ _ R.3 q _ _ _ _ (plain-stands _ any a.at a.ends.free a.ends.pos s o (fits-opens _ _ _ _ _ R.3 q) R.2 _ _ c.write_bytes-pos.ensures.0 c.write_bytes-pos.ensures.1)

pub write_item-returns-in-Number : goal.write_item-returns-in-Number
write_item-returns-in-Number t c = let a = c.args in let R = c.requires in let t = a.table.now in let s = a.sheet.now in let o = a.out.now in let I = inner_of t a.levels in let es = enums t in let sw = width_of t a.depth in let S = static_of t a.levels a.depth in let w = c.from-width.ensures ∙ c.tested_width.ensures es sw in let n = kind-number I S es a.kind a.at a.ends.free (drop a.ends.pos s) sw _ _ c.in-Number.is w in let q = same-opens _ _ n.1 in
    stands-opens _ _ _ _ _ R.3 q _ _ _ _ (plain-stands _ n.0 a.at a.ends.free a.ends.pos s o (fits-opens _ _ _ _ _ R.3 q) R.2 _ _ c.write_bytes-pos-in-Number.ensures.0 c.write_bytes-pos-in-Number.ensures.1)

pub write_item-returns-in-Inline : goal.write_item-returns-in-Inline
write_item-returns-in-Inline t c = let a = c.args in let R = c.requires in let t = a.table.now in let s = a.sheet.now in let o = a.out.now in let I = inner_of t a.levels in let es = enums t in let sw = width_of t a.depth in let S = static_of t a.levels a.depth in let q = same-opens _ _ (kind-inline I S es a.kind a.at a.ends.free (drop a.ends.pos s) _ _ _ c.in-Inline.is c.from-in-Inline.ensures) in
    stands-opens _ _ _ _ _ R.3 q _ _ _ _ (inline-stands _ c.from-in-Inline.result a.at a.ends.free a.ends.pos s o (fits-opens _ _ _ _ _ R.3 q) _ _ c.write_inline-pos.ensures.0 c.write_inline-pos.ensures.1)

pub write_item-returns-in-Indirect : goal.write_item-returns-in-Indirect
write_item-returns-in-Indirect t c = let a = c.args in let R = c.requires in let t = a.table.now in let s = a.sheet.now in let o = a.out.now in let I = inner_of t a.levels in let es = enums t in let sw = width_of t a.depth in let S = static_of t a.levels a.depth in let x = text-opens I S es a.kind a.at a.ends.free a.ends.pos s _ c.in-Indirect.is in
    text-stands _ x.0 x.1 a.at a.ends.free a.ends.pos s o x.2 R.3 _ _ _ c.write_text.ensures.0 c.write_text.ensures.1 c.write_text.ensures.2

pub write_item-returns-in-Static : goal.write_item-returns-in-Static
unfolding group_of place_of
write_item-returns-in-Static t c = let a = c.args in let R = c.requires in let t = a.table.now in let s = a.sheet.now in let o = a.out.now in let I = inner_of t a.levels in let es = enums t in let sw = width_of t a.depth in let S = static_of t a.levels a.depth in let q = same-opens _ _ (kind-fields I S es a.kind a.at a.ends.free (drop a.ends.pos s) _ c.in-Static.is) in
    stands-opens _ _ _ _ _ R.3 q _ _ _ _ c.write_group.ensures

pub write_item-returns-in-Dynamic : goal.write_item-returns-in-Dynamic
write_item-returns-in-Dynamic t c = let a = c.args in let R = c.requires in let t = a.table.now in let s = a.sheet.now in let o = a.out.now in let I = inner_of t a.levels in let es = enums t in let sw = width_of t a.depth in let S = static_of t a.levels a.depth in let q = same-opens _ _ (kind-dynamic I S es a.kind a.at a.ends.free (drop a.ends.pos s) _ c.in-Dynamic.is) in
    stands-opens _ _ _ _ _ R.3 q _ _ _ _ c.write_nested.ensures

pub write_items-write_plain-pos-requires : goal.write_items-write_plain-pos-requires
write_items-write_plain-pos-requires t c = let a = c.args in let R = c.requires in let t = a.table.now in let e = c.in-Plain.is ∙ ap Plain (sym c.from.ensures) in
    (_, fits-opens _ _ _ _ _ R.3 (same-opens _ _ (items-plain (inner_of t a.levels) (width_of t a.depth) (static_of t a.levels a.depth) (enums t) a.kind a.width a.total a.at a.ends.free (drop a.ends.pos a.sheet.now) R.1 _ e)))

pub write_items-returns-in-Plain : goal.write_items-returns-in-Plain
write_items-returns-in-Plain t c = let a = c.args in let R = c.requires in let t = a.table.now in let e = c.in-Plain.is ∙ ap Plain (sym c.from.ensures) in
    let q = same-opens _ _ (items-plain (inner_of t a.levels) (width_of t a.depth) (static_of t a.levels a.depth) (enums t) a.kind a.width a.total a.at a.ends.free (drop a.ends.pos a.sheet.now) R.1 _ e) in stands-opens _ _ _ _ _ R.3 q _ _ _ _ (c.write_plain-pos.ensures _ (fits-opens _ _ _ _ _ R.3 q))

pub write_items-write_texts-requires : goal.write_items-write_texts-requires
write_items-write_texts-requires t c = let a = c.args in let R = c.requires in let t = a.table.now in
    (_, fits-opens _ _ _ _ _ R.3 (same-opens _ _ (items-text (inner_of t a.levels) (width_of t a.depth) (static_of t a.levels a.depth) (enums t) a.kind a.width a.total a.at a.ends.free (drop a.ends.pos a.sheet.now) R.1 _ c.in-Indirect.is)))

pub write_items-returns-in-Indirect : goal.write_items-returns-in-Indirect
write_items-returns-in-Indirect t c = let a = c.args in let R = c.requires in let t = a.table.now in let q = same-opens _ _ (items-text (inner_of t a.levels) (width_of t a.depth) (static_of t a.levels a.depth) (enums t) a.kind a.width a.total a.at a.ends.free (drop a.ends.pos a.sheet.now) R.1 _ c.in-Indirect.is) in
    stands-opens _ _ _ _ _ R.3 q _ _ _ _ (c.write_texts.ensures _ (fits-opens _ _ _ _ _ R.3 q))

pub write_nested-write_offset-requires : goal.write_nested-write_offset-requires
write_nested-write_offset-requires t c = let a = c.args in let R = c.requires in let t = a.table.now in let s = a.sheet.now in let o = a.out.now in let I = inner_of t a.levels in let r = nested-room t a.levels a.allowed a.at a.ends.free a.ends.pos s o R.1 in (r.0, r.1)

pub write_nested-write_group-group-requires : goal.write_nested-write_group-group-requires
unfolding group_of place_of Scoped deep
write_nested-write_group-group-requires t c = let a = c.args in let R = c.requires in let t = a.table.now in let s = a.sheet.now in let o = a.out.now in let I = inner_of t a.levels in (search rules, (R.0, (refl, refl), nested-fits t a.levels a.allowed a.at a.ends.free a.ends.pos s o R.1 _ c.write_offset.ensures _ refl))

pub write_nested-overflow_add-result : goal.write_nested-overflow_add-result
unfolding group_of place_of
write_nested-overflow_add-result t c = let a = c.args in let R = c.requires in let t = a.table.now in let s = a.sheet.now in let o = a.out.now in let I = inner_of t a.levels in let e = nested-end t a.levels a.allowed a.at a.ends.free a.ends.pos s o R.1 _ c.write_offset.ensures _ refl _ [] _ _ c.write_group-group.ensures in omega (arith, e, c.write_offset.auto.out)

pub write_nested-returns : goal.write_nested-returns
unfolding group_of place_of
write_nested-returns t c = let a = c.args in let R = c.requires in let t = a.table.now in let s = a.sheet.now in let o = a.out.now in let I = inner_of t a.levels in
    nested-stands t a.levels a.allowed a.at a.ends.free a.ends.pos s o R.1 _ c.write_offset.ensures _ refl _ _ _ _ c.write_group-group.ensures refl

pub write_field-bounds-out-at : goal.write_field-bounds-out-at
write_field-bounds-out-at t c = let a = c.args in let R = c.requires in let t = a.table.now in let es = enums t in
    omega (arith, present-room (inner_of t a.levels) (width_of t a.depth) (static_of t a.levels a.depth) (field_at es (drop a.field t)) a.at a.ends.free a.ends.pos a.sheet.now a.out.now R.3 (sym (c.is_optional.ensures es) ∙ c.if-is_optional.true) (sym c.has_mark.ensures ∙ c.if-has_mark.false))

pub write_fields-field_count-total-requires : goal.write_fields-field_count-total-requires
write_fields-field_count-total-requires t c = let R = c.requires in omega (arith, placed-inside _ _ _ R.0.placed _ R.1, c.group_place-start.ensures.0)

pub write_fields-overflow_sub-deeper : goal.write_fields-overflow_sub-deeper
write_fields-overflow_sub-deeper t c = omega (arith, shallow-some (schema c.args.table.now) _ _ c.requires.2)

pub write_fields-loop-init : goal.write_fields-loop-init
write_fields-loop-init t c = let R = c.requires in fields-start _ R.0 R.1 _ c.group_place-start.ensures.0 c.field_count-total.ensures.0 R.2 R.3

pub write_fields-overflow_add-ends : goal.write_fields-overflow_add-ends
write_fields-overflow_add-ends t c = omega (arith, (plain-left c.loop.invariant c.loop-test.true (c.plain_width-plain.ensures.0 (enums c.args.table.now)) c.if-plain-ne0.true).0)

pub write_fields-write_bytes-requires : goal.write_fields-write_bytes-requires
write_fields-write_bytes-requires t c = let r = plain-left c.loop.invariant c.loop-test.true (c.plain_width-plain.ensures.0 (enums c.args.table.now)) c.if-plain-ne0.true in (r.1, r.2)

pub write_fields-write_field-ends-requires : goal.write_fields-write_field-ends-requires
write_fields-write_field-ends-requires t c = let R = c.requires in let L = c.loop.invariant in let l = c.loop-test.true in
    (omega (arith, shallow-some (schema c.args.table.now) _ _ R.2), (R.0, field-listed L l, field-flat L l, field_fits L l))

pub write_fields-loop-preserved : goal.write_fields-loop-preserved
write_fields-loop-preserved t c = let a = c.args in let L = c.loop.invariant in let l = c.loop-test.true in let es = enums a.table.now in elim c.if-plain-ne0.branch [
  | write_fields-then-plain-ne0 w ↦
      rw (w.place-is, w.ends-is, w.out-is) (plain-next L l (c.plain_width-plain.ensures.0 es) w.if-plain-ne0.true w.write_bytes.ensures.0 w.write_bytes.ensures.1)
  | write_fields-else-plain-ne0 w ↦
      rw (w.place-is, w.ends-is, w.out-is) (fields-next L l (w.field_width-width.ensures.0 es ∙ wide-field a.table.now a.index.now c.requires.0 (a.depth - 1) _ (field-flat L l)) w.write_field-ends.ensures)
]

pub write_fields-returns : goal.write_fields-returns
write_fields-returns t c = fields-done c.loop.invariant c.loop-test.false

pub write_groups-write_extending-ends-requires : goal.write_groups-write_extending-ends-requires
write_groups-write_extending-ends-requires t c = (search rules, (c.requires.0, item-fits c.loop.invariant c.loop-test.true))

pub write_groups-loop-preserved : goal.write_groups-loop-preserved
write_groups-loop-preserved t c = items-next c.loop.invariant c.loop-test.true (wides-indirect _) c.write_extending-ends.ensures

pub write_groups-returns : goal.write_groups-returns
write_groups-returns t c = items-done c.loop.invariant c.loop-test.false

pub write_items-overflow_add-ends : goal.write_items-overflow_add-ends
write_items-overflow_add-ends t c = let a = c.args in let l = c.loop in let t' = a.table.now in
    omega (arith, marked-inside (kind_mark (kind_from (enums t') a.kind)) (kind_of t' a.levels a.depth a.kind) l.place l.ends.free l.ends.pos a.sheet.now _ (item-fits l.invariant c.loop-test.true))

pub write_items-write_item-ends-requires : goal.write_items-write_item-ends-requires
write_items-write_item-ends-requires t c = let a = c.args in let R = c.requires in let l = c.loop in let t' = a.table.now in let k = kind_mark (kind_from (enums t') a.kind) in let K = kind_of t' a.levels a.depth a.kind in let f = item-fits l.invariant c.loop-test.true in
    (search rules, (R.0, R.2, marked-inside k K l.place l.ends.free l.ends.pos a.sheet.now _ f, fits-opens _ _ _ _ _ f (marked-opens k K l.place l.ends.free l.ends.pos a.sheet.now)))

pub write_items-overflow_add-place : goal.write_items-overflow_add-place
write_items-overflow_add-place t c = let a = c.args in omega (arith, item-room c.loop.invariant c.loop-test.true (item-wides a.table.now a.levels a.depth a.width a.kind c.requires.1))

pub write_items-loop-preserved : goal.write_items-loop-preserved
write_items-loop-preserved t c = let a = c.args in let l = c.loop in let t' = a.table.now in let L = l.invariant in
    items-next L c.loop-test.true (item-wides t' a.levels a.depth a.width a.kind c.requires.1)
    (stands-opens _ _ _ _ _ (item-fits L c.loop-test.true) (marked-opens (kind_mark (kind_from (enums t') a.kind)) (kind_of t' a.levels a.depth a.kind) l.place l.ends.free l.ends.pos a.sheet.now) _ _ _ _ c.write_item-ends.ensures)

pub write_items-returns : goal.write_items-returns
write_items-returns t c = items-done c.loop.invariant c.loop-test.false

pub write_extension-write_u32-requires : goal.write_extension-write_u32-requires
write_extension-write_u32-requires t c = let a = c.args in let R = c.requires in let t = a.table.now in omega (arith, wide_is (wides-extension (schema t) (inner_of t a.levels) 12 a.ends.free (drop a.ends.pos a.sheet.now)) R.2.is, R.2.before, R.2.room)

pub write_extension-returns-then-not-has_mark : goal.write_extension-returns-then-not-has_mark
write_extension-returns-then-not-has_mark t c = let a = c.args in let R = c.requires in let t = a.table.now in let s = a.sheet.now in let k = ap (same (part 2 a.ends.pos s)) (sym is-XT) ∙ sym c.has_mark.ensures ∙ c.if-not-has_mark.true in
    in_place _ 12 a.ends.free 4 a.ends.pos (bytes_of 4 0) s a.out.now _ (extension-none (schema t) (inner_of t a.levels) 12 a.ends.free a.ends.pos s k) (length-bytes 4 0) c.write_u32.ensures

pub write_extension-read_u32-total-requires : goal.write_extension-read_u32-total-requires
write_extension-read_u32-total-requires t c = let a = c.args in let R = c.requires in let t = a.table.now in let s = a.sheet.now in let k = ap (same (part 2 a.ends.pos s)) (sym is-XT) ∙ sym c.has_mark.ensures ∙ c.if-not-has_mark.false in
    let r = list-inside (extension_of t a.levels 12 a.ends.free (drop a.ends.pos s)) 1 4 (extending_of t a.levels) (wides-indirect _) 12 a.ends.free a.ends.pos _ s a.out.now refl R.2 (extension-some (schema t) (inner_of t a.levels) 12 a.ends.free a.ends.pos s k) in r.0

pub write_extension-write_offset-requires : goal.write_extension-write_offset-requires
write_extension-write_offset-requires t c = let a = c.args in let R = c.requires in let t = a.table.now in let s = a.sheet.now in let k = ap (same (part 2 a.ends.pos s)) (sym is-XT) ∙ sym c.has_mark.ensures ∙ c.if-not-has_mark.false in
    let r = list-inside (extension_of t a.levels 12 a.ends.free (drop a.ends.pos s)) 1 4 (extending_of t a.levels) (wides-indirect _) 12 a.ends.free a.ends.pos _ s a.out.now c.read_u32-total.ensures.0 R.2 (extension-some (schema t) (inner_of t a.levels) 12 a.ends.free a.ends.pos s k) in (r.1, omega (arith, r.2))

pub write_extension-write_bytes-pos-requires : goal.write_extension-write_bytes-pos-requires
write_extension-write_bytes-pos-requires t c = let a = c.args in let R = c.requires in let t = a.table.now in let s = a.sheet.now in let k = ap (same (part 2 a.ends.pos s)) (sym is-XT) ∙ sym c.has_mark.ensures ∙ c.if-not-has_mark.false in
    let r = list-inside (extension_of t a.levels 12 a.ends.free (drop a.ends.pos s)) 1 4 (extending_of t a.levels) (wides-indirect _) 12 a.ends.free a.ends.pos _ s a.out.now c.read_u32-total.ensures.0 R.2 (extension-some (schema t) (inner_of t a.levels) 12 a.ends.free a.ends.pos s k) in (r.0, omega (arith, r.2, c.write_offset.auto.out))

pub write_extension-write_groups-requires : goal.write_extension-write_groups-requires
write_extension-write_groups-requires t c = let a = c.args in let R = c.requires in let t = a.table.now in let s = a.sheet.now in let k = ap (same (part 2 a.ends.pos s)) (sym is-XT) ∙ sym c.has_mark.ensures ∙ c.if-not-has_mark.false in
    let r = items_left (extension_of t a.levels 12 a.ends.free (drop a.ends.pos s)) 1 4 (extending_of t a.levels) (wides-indirect _) 12 a.ends.free a.ends.pos _ s a.out.now c.read_u32-total.ensures.0 R.2 (extension-some (schema t) (inner_of t a.levels) 12 a.ends.free a.ends.pos s k) c.write_offset.ensures c.write_bytes-pos.ensures.0 c.write_bytes-pos.ensures.1 in (search rules, (R.0, left-fits _ _ _ _ _ _ _ _ r))

pub write_extension-returns : goal.write_extension-returns
write_extension-returns t c = let a = c.args in let R = c.requires in let t = a.table.now in let s = a.sheet.now in let k = ap (same (part 2 a.ends.pos s)) (sym is-XT) ∙ sym c.has_mark.ensures ∙ c.if-not-has_mark.false in
    let r = items_left (extension_of t a.levels 12 a.ends.free (drop a.ends.pos s)) 1 4 (extending_of t a.levels) (wides-indirect _) 12 a.ends.free a.ends.pos _ s a.out.now c.read_u32-total.ensures.0 R.2 (extension-some (schema t) (inner_of t a.levels) 12 a.ends.free a.ends.pos s k) c.write_offset.ensures c.write_bytes-pos.ensures.0 c.write_bytes-pos.ensures.1 in finished _ _ _ _ _ _ _ _ r _ _ _ _ c.write_groups.ensures

pub write_value-overflow_add-ends : goal.write_value-overflow_add-ends
write_value-overflow_add-ends t c = let a = c.args in let R = c.requires in let t = a.table.now in let s = a.sheet.now in let es = enums t in let i = c.kind_at-kind.ensures es in let o = sym (c.is_sequence.ensures es) in let e = value-wide t a.index.now a.depth a.field _ _ R.0 R.2 i (c.kind_width-width.ensures.0 es) in
    let r = list-inside (value_of t a.levels a.depth a.field a.at a.ends.free (drop a.ends.pos s)) 0 c.kind_width-width.result (item_of t a.levels a.depth c.kind_at-kind.result) (item-wides t a.levels a.depth _ _ e.0) a.at a.ends.free a.ends.pos _ s a.out.now refl R.3 (list-opens (inner_of t a.levels) (width_of t a.depth) (static_of t a.levels a.depth) (field_at es (drop a.field t)) a.at a.ends.free a.ends.pos s _ i (o ∙ c.if-is_sequence.true) _ e.0) in omega (arith, r.0)

pub write_value-read_u32-total-requires : goal.write_value-read_u32-total-requires
write_value-read_u32-total-requires t c = let a = c.args in let R = c.requires in let t = a.table.now in let s = a.sheet.now in let es = enums t in let i = c.kind_at-kind.ensures es in let o = sym (c.is_sequence.ensures es) in let e = value-wide t a.index.now a.depth a.field _ _ R.0 R.2 i (c.kind_width-width.ensures.0 es) in
    let r = list-inside (value_of t a.levels a.depth a.field a.at a.ends.free (drop a.ends.pos s)) 0 c.kind_width-width.result (item_of t a.levels a.depth c.kind_at-kind.result) (item-wides t a.levels a.depth _ _ e.0) a.at a.ends.free a.ends.pos _ s a.out.now refl R.3 (list-opens (inner_of t a.levels) (width_of t a.depth) (static_of t a.levels a.depth) (field_at es (drop a.field t)) a.at a.ends.free a.ends.pos s _ i (o ∙ c.if-is_sequence.true) _ e.0) in r.0

pub write_value-overflow_add-ends-then-is_sequence : goal.write_value-overflow_add-ends-then-is_sequence
write_value-overflow_add-ends-then-is_sequence t c = let a = c.args in let R = c.requires in let t = a.table.now in let s = a.sheet.now in let es = enums t in let i = c.kind_at-kind.ensures es in let o = sym (c.is_sequence.ensures es) in let e = value-wide t a.index.now a.depth a.field _ _ R.0 R.2 i (c.kind_width-width.ensures.0 es) in
    let r = list-inside (value_of t a.levels a.depth a.field a.at a.ends.free (drop a.ends.pos s)) 0 c.kind_width-width.result (item_of t a.levels a.depth c.kind_at-kind.result) (item-wides t a.levels a.depth _ _ e.0) a.at a.ends.free a.ends.pos _ s a.out.now refl R.3 (list-opens (inner_of t a.levels) (width_of t a.depth) (static_of t a.levels a.depth) (field_at es (drop a.field t)) a.at a.ends.free a.ends.pos s _ i (o ∙ c.if-is_sequence.true) _ e.0) in omega (arith, r.0)

pub write_value-write_offset-requires : goal.write_value-write_offset-requires
write_value-write_offset-requires t c = let a = c.args in let R = c.requires in let t = a.table.now in let s = a.sheet.now in let es = enums t in let i = c.kind_at-kind.ensures es in let o = sym (c.is_sequence.ensures es) in let e = value-wide t a.index.now a.depth a.field _ _ R.0 R.2 i (c.kind_width-width.ensures.0 es) in
    let r = list-inside (value_of t a.levels a.depth a.field a.at a.ends.free (drop a.ends.pos s)) 0 c.kind_width-width.result (item_of t a.levels a.depth c.kind_at-kind.result) (item-wides t a.levels a.depth _ _ e.0) a.at a.ends.free a.ends.pos _ s a.out.now c.read_u32-total.ensures.0 R.3 (list-opens (inner_of t a.levels) (width_of t a.depth) (static_of t a.levels a.depth) (field_at es (drop a.field t)) a.at a.ends.free a.ends.pos s _ i (o ∙ c.if-is_sequence.true) _ e.0) in (r.1, omega (arith, r.2))

pub write_value-write_bytes-pos-requires : goal.write_value-write_bytes-pos-requires
write_value-write_bytes-pos-requires t c = let a = c.args in let R = c.requires in let t = a.table.now in let s = a.sheet.now in let es = enums t in let i = c.kind_at-kind.ensures es in let o = sym (c.is_sequence.ensures es) in let e = value-wide t a.index.now a.depth a.field _ _ R.0 R.2 i (c.kind_width-width.ensures.0 es) in
    let r = list-inside (value_of t a.levels a.depth a.field a.at a.ends.free (drop a.ends.pos s)) 0 c.kind_width-width.result (item_of t a.levels a.depth c.kind_at-kind.result) (item-wides t a.levels a.depth _ _ e.0) a.at a.ends.free a.ends.pos _ s a.out.now c.read_u32-total.ensures.0 R.3 (list-opens (inner_of t a.levels) (width_of t a.depth) (static_of t a.levels a.depth) (field_at es (drop a.field t)) a.at a.ends.free a.ends.pos s _ i (o ∙ c.if-is_sequence.true) _ e.0) in (r.0, omega (arith, r.2, c.write_offset.auto.out))

pub write_value-write_items-requires : goal.write_value-write_items-requires
write_value-write_items-requires t c = let a = c.args in let R = c.requires in let t = a.table.now in let s = a.sheet.now in let es = enums t in let i = c.kind_at-kind.ensures es in let o = sym (c.is_sequence.ensures es) in let e = value-wide t a.index.now a.depth a.field _ _ R.0 R.2 i (c.kind_width-width.ensures.0 es) in
    let v = value-left t a.levels a.depth a.field a.at _ a.ends s a.out.now _ _ c.if-is_sequence.total i e.0 R.3 (elim c.if-is_sequence.branch [
      | write_value-then-is_sequence w ↦ inl (o ∙ w.if-is_sequence.true, _, _, _, w.read_u32-total.ensures.0, w.write_offset.ensures, w.out-is ∙ w.write_bytes-pos.ensures.0, w.write_bytes-pos.ensures.1, w.total-is)
      | write_value-else-is_sequence w ↦ inr (o ∙ w.if-is_sequence.false, w.out-is, w.total-is)
    ]) in (search rules, (R.0, e.0, e.1, left-fits _ _ _ _ _ _ _ _ v))

pub write_value-returns : goal.write_value-returns
write_value-returns t c = let a = c.args in let R = c.requires in let t = a.table.now in let s = a.sheet.now in let es = enums t in let i = c.kind_at-kind.ensures es in let o = sym (c.is_sequence.ensures es) in let e = value-wide t a.index.now a.depth a.field _ _ R.0 R.2 i (c.kind_width-width.ensures.0 es) in
    let v = value-left t a.levels a.depth a.field a.at _ a.ends s a.out.now _ _ c.if-is_sequence.total i e.0 R.3 (elim c.if-is_sequence.branch [
      | write_value-then-is_sequence w ↦ inl (o ∙ w.if-is_sequence.true, _, _, _, w.read_u32-total.ensures.0, w.write_offset.ensures, w.out-is ∙ w.write_bytes-pos.ensures.0, w.write_bytes-pos.ensures.1, w.total-is)
      | write_value-else-is_sequence w ↦ inr (o ∙ w.if-is_sequence.false, w.out-is, w.total-is)
    ]) in finished _ _ _ _ _ _ _ _ v _ _ _ _ c.write_items.ensures
