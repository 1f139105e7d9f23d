use mathlib.Core.Path.{refl, ap, ◌∙◌}
use Prim.Native.Nat.{ℕ, ◌+◌}
use native.Mathlib.Omega.{arith}
use Rattle.schema.specs.Table.{enums}
use Rattle.schema.specs.Layout.{width_in}
use Rattle.reading.proofs.Items.{item-bound, sequence-hit, sequence-miss}
use Rattle.wire.specs.Bytes.{part, le}
use Rattle.schema.specs.Schema.{kind_width}
use borrow.Author.Rules.{rules}
use Rattle.reading.proofs.locate_in_sequence.Goals as goal

pub overflow_mul-result : goal.overflow_mul-result
overflow_mul-result c = let p = item-bound c.args.item _ _ (omega (arith, c.if-item-read_u32.true)) c.read_u32-2.ensures.1 c.kind_width-width.ensures.1 in omega (arith, p)

pub overflow_add-result-then-item-read_u32 : goal.overflow_add-result-then-item-read_u32
overflow_add-result-then-item-read_u32 c = let p = item-bound c.args.item _ _ (omega (arith, c.if-item-read_u32.true)) c.read_u32-2.ensures.1 c.kind_width-width.ensures.1 in omega (arith, p, c.requires.2.word, c.read_u32.ensures.0)

pub returns-then-item-read_u32 : goal.returns-then-item-read_u32
returns-then-item-read_u32 c =
    let a = c.args in
    (sequence-hit a.table.now a.row (width_in a.index.now) a.group.now a.at a.item _ _ (omega (arith, c.read_u32.ensures.0)) (c.read_u32-2.ensures.0 ∙ ap (λ (x : ℕ). le (part 4 (a.at + x) a.group.now)) c.read_u32.ensures.0) _ (c.kind_width-width.ensures.0 (enums a.table.now) ∙ ap (kind_width (width_in a.index.now)) (c.kind_at.ensures (enums a.table.now))) c.if-item-read_u32.true, search rules)

pub returns : goal.returns
returns c =
    let a = c.args in
    (sequence-miss a.table.now a.row (width_in a.index.now) a.group.now a.at a.item (a.at + c.read_u32.result) c.read_u32-2.result (omega (arith, c.read_u32.ensures.0)) (c.read_u32-2.ensures.0 ∙ ap (λ (x : ℕ). le (part 4 (a.at + x) a.group.now)) c.read_u32.ensures.0) c.if-item-read_u32.false, refl)
