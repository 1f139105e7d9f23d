use Rattle.std.proofs.Common.{◌≡◌, sym, ◌∙◌, ℕ, ◌+◌, ◌*◌, ◌<◌, ◌≤◌, List, length, drop, arith, rules}
use Rattle.schema.specs.Layout.{group_place, width_in}
use Rattle.schema.specs.Table.{field_count, enums, schema}
use Rattle.table.specs.Index.{Placing}
use Rattle.table.specs.Measure.{levels, Grown}
use Rattle.table.proofs.Widths.{summed-none, width-at, fields-inside, fields-start, fields-none, other-turn, static-beyond, static-turn, sound-turn, sound-here, kept-widths, grown-none, measured-beyond, measured, ready-now, ready-before}
use Rattle.table.proofs.+measure_group.Goals.{then-group_levels-eq0, else-group_levels-eq0}
use Rattle.table.proofs.+measure_group.Goals as goal

-- the record of the field at hand, in a group that the index can have

field-here : (t k : List ℕ) (g p n i : ℕ) → Placing t k → g < length (schema t) → p ≡ group_place k g → n ≡ field_count (drop p t) → i < n → (p + 16 + 16 * i + 16 ≤ length t) × (g < 64)
field-here t k g p n i h q e f l = let m = fields-inside t k g p n h q e f in (omega arith, omega (arith, h.few))

pub loop-i-init : goal.loop-i-init
loop-i-init t c =
    let a = c.args in
    let h = c.requires in
    let e = fields-start a.table.now a.index.now a.g _ _ h.0 h.3 c.group_place-start.ensures.0 c.field_count-count.ensures.0 in
    (search rules, search rules, grown-none _ _ h.0 h.1, rw (← e) (summed-none (schema a.table.now) a.g), rw (← e) (h.2 a.g))

pub field_width-width-requires : goal.field_width-width-requires
field_width-width-requires t c =
    let G = c.loop-i.invariant.2 in
    (kept-widths _ _ G.placing.long G.kept, (field-here c.args.table.now c.args.index.now c.args.g _ _ c.loop-i.i c.requires.0 c.requires.3 c.group_place-start.ensures.0 c.field_count-count.ensures.0 c.loop-i-test.true).0)

pub loop-i-preserved-then-field_type-ne21 : goal.loop-i-preserved-then-field_type-ne21
loop-i-preserved-then-field_type-ne21 t c =
    let a = c.args in
    let l = c.loop-i in
    let taken = c.loop-i-test.true in
    let w = c.field_width-width.ensures in (
      omega (arith, w.1, l.invariant.0),
      l.invariant.1,
      l.invariant.2,
      other-turn a.table.now (enums a.table.now) _ _ l.i taken (schema a.table.now) a.g _ _ l.invariant.3 _ (λ e. c.if-field_type-ne21.true (c.field_type.ensures ∙ e)) (width_in l.index) (w.0 (enums a.table.now)),
      sound-turn a.table.now (enums a.table.now) _ _ l.i taken _ a.g l.invariant.4,
    )

-- a static field names a group of a lower number

pub group_levels-requires : goal.group_levels-requires
group_levels-requires t c =
    let a = c.args in
    let l = c.loop-i in
    let low = sound-here a.table.now (enums a.table.now) _ _ l.i c.loop-i-test.true _ a.g l.invariant.4 _ (sym c.field_type.ensures ∙ c.if-field_type-ne21.false) c.reference-inner.ensures.0 in
    (l.invariant.2.placing.long, omega (arith, low, c.requires.0.few, c.requires.3))

pub measure_group-requires : goal.measure_group-requires
measure_group-requires t c =
    let a = c.args in
    let l = c.loop-i in
    let G = l.invariant.2 in
    let low = sound-here a.table.now (enums a.table.now) _ _ l.i c.loop-i-test.true _ a.g l.invariant.4 _ (sym c.field_type.ensures ∙ c.if-field_type-ne21.false) c.reference-inner.ensures.0 in
    (omega (arith, low, c.decreases), (G.placing, G.kept, c.requires.2, omega (arith, low, c.requires.3)))

pub levels_over-over-requires : goal.levels_over-over-requires
levels_over-over-requires t c =
    let a = c.args in
    let l = c.loop-i in
    let low = sound-here a.table.now (enums a.table.now) _ _ l.i c.loop-i-test.true _ a.g l.invariant.4 _ (sym c.field_type.ensures ∙ c.if-field_type-ne21.false) c.reference-inner.ensures.0 in
    (c.if-group_levels-eq0.auto.index ∙ l.invariant.2.placing.long, omega (arith, low, c.requires.0.few, c.requires.3))

-- where the ways meet, that group is measured

pub returns-then-over-gt5 : goal.returns-then-over-gt5
returns-then-over-gt5 t c =
    let a = c.args in
    let l = c.loop-i in
    let taken = c.loop-i-test.true in
    let h = c.reference-inner in
    let k = c.if-group_levels-eq0.index in
    let r : Grown a.table.now a.index.now k × (0 < levels k h.result) = elim c.if-group_levels-eq0.branch [
      | then-group_levels-eq0 w ↦ ready-now a.table.now a.index.now l.index _ _ l.invariant.2 _ w.measure_group.ensures w.index-is
      | else-group_levels-eq0 w ↦ ready-before a.table.now a.index.now l.index _ _ l.invariant.2 (λ z. w.if-group_levels-eq0.false (c.group_levels.ensures.0 ∙ z)) w.index-is
    ] in
    let y = sym c.field_type.ensures ∙ c.if-field_type-ne21.false in
    let low = sound-here a.table.now (enums a.table.now) _ _ l.i taken _ a.g l.invariant.4 _ y h.ensures.0 in
    let e = r.0.kept h.result (omega (arith, low, c.requires.0.few, c.requires.3)) in
    let out = static-beyond a.table.now (enums a.table.now) _ _ l.i taken (schema a.table.now) a.g _ _ l.invariant.3 _ _ _ y h.ensures.0 low r.1 e (omega (arith, c.levels_over-over.ensures, c.if-over-gt5.true)) in
    measured-beyond a.table.now a.index.now _ _ a.g r.0 c.requires.3 out c.place_extent.ensures

pub group_width-requires : goal.group_width-requires
group_width-requires t c =
    let a = c.args in
    let l = c.loop-i in
    let k = c.if-group_levels-eq0.index in
    let r : Grown a.table.now a.index.now k × (0 < levels k c.reference-inner.result) = elim c.if-group_levels-eq0.branch [
      | then-group_levels-eq0 w ↦ ready-now a.table.now a.index.now l.index _ _ l.invariant.2 _ w.measure_group.ensures w.index-is
      | else-group_levels-eq0 w ↦ ready-before a.table.now a.index.now l.index _ _ l.invariant.2 (λ z. w.if-group_levels-eq0.false (c.group_levels.ensures.0 ∙ z)) w.index-is
    ] in
    kept-widths _ _ r.0.placing.long r.0.kept

pub loop-i-preserved : goal.loop-i-preserved
loop-i-preserved t c =
    let a = c.args in
    let l = c.loop-i in
    let taken = c.loop-i-test.true in
    let h = c.reference-inner in
    let k = c.if-group_levels-eq0.index in
    let r : Grown a.table.now a.index.now k × (0 < levels k h.result) = elim c.if-group_levels-eq0.branch [
      | then-group_levels-eq0 w ↦ ready-now a.table.now a.index.now l.index _ _ l.invariant.2 _ w.measure_group.ensures w.index-is
      | else-group_levels-eq0 w ↦ ready-before a.table.now a.index.now l.index _ _ l.invariant.2 (λ z. w.if-group_levels-eq0.false (c.group_levels.ensures.0 ∙ z)) w.index-is
    ] in
    let y = sym c.field_type.ensures ∙ c.if-field_type-ne21.false in
    let low = sound-here a.table.now (enums a.table.now) _ _ l.i taken _ a.g l.invariant.4 _ y h.ensures.0 in
    let few : h.result < 64 = omega (arith, low, c.requires.0.few, c.requires.3) in
    let same = c.group_width.ensures.0 ∙ width-at _ h.result few in
    let over = c.levels_over-over.ensures in
    let v = c.static_width-width.ensures in (
      omega (arith, v.1, l.invariant.0),
      omega (arith, c.max-levels.ensures, l.invariant.1, c.if-over-gt5.false),
      r.0,
      static-turn a.table.now (enums a.table.now) _ _ l.i taken (schema a.table.now) a.g _ _ l.invariant.3 h.result _ _ y h.ensures.0 low r.1 (r.0.kept h.result few) _ _ (omega (arith, over, c.if-over-gt5.false)) (rw same at (v.0 (enums a.table.now))) (rw over at c.max-levels.ensures),
      sound-turn a.table.now (enums a.table.now) _ _ l.i taken _ a.g l.invariant.4,
    )

pub returns : goal.returns
returns t c =
    let a = c.args in
    let l = c.loop-i in
    let e = fields-none (enums a.table.now) _ l.i (drop (c.group_place-start.result + 16 + 16 * l.i) a.table.now) c.loop-i-test.false in
    measured a.table.now a.index.now _ _ a.g l.invariant.2 c.requires.3 _ _ l.invariant.1 (rw e at l.invariant.3) c.keep_extent.ensures
