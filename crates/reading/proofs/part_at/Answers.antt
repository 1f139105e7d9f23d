use mathlib.Core.Path.{ap, ◌∙◌}
use Prim.Native.Nat.{ℕ, ◌+◌}
use native.Mathlib.Omega.{arith}
use Rattle.wire.specs.Bytes.{part, le}
use Rattle.schema.specs.Table.{enums}
use Rattle.reading.proofs.Found.{part-fixed, inline-laid, indirect-laid, dynamic-laid, part-plain, part-number, part-inline, part-indirect, part-static, part-dynamic}
use Rattle.reading.proofs.part_at.Goals as goal

pub returns-then-table-row-eq19 : goal.returns-then-table-row-eq19
returns-then-table-row-eq19 c =
    let a = c.args in
    part-fixed a.table.now a.row a.bytes.now a.at _ c.if-table-row-eq19.true c.wide.ensures.0

pub overflow_add-result : goal.overflow_add-result
overflow_add-result c =
    let a = c.args in
    let l = inline-laid a.table.now a.row a.bytes.now a.at _ (c.kind_at-kind.ensures (enums a.table.now)) c.requires.1 _ _ c.in-Inline.is in omega (arith, l)

pub bounds-bytes-at : goal.bounds-bytes-at
bounds-bytes-at c =
    let a = c.args in
    let l = inline-laid a.table.now a.row a.bytes.now a.at _ (c.kind_at-kind.ensures (enums a.table.now)) c.requires.1 _ _ c.in-Inline.is in omega (arith, l)

pub read_u32-requires : goal.read_u32-requires
read_u32-requires c =
    let a = c.args in
    (indirect-laid a.table.now a.row a.bytes.now a.at _ (c.kind_at-kind.ensures (enums a.table.now)) c.requires.1 _ c.in-Indirect.is).offset

pub overflow_add-start : goal.overflow_add-start
overflow_add-start c =
    let a = c.args in
    let l = indirect-laid a.table.now a.row a.bytes.now a.at _ (c.kind_at-kind.ensures (enums a.table.now)) c.requires.1 _ c.in-Indirect.is in omega (arith, l.word, c.read_u32.ensures.0)

pub overflow_add-result-in-Indirect : goal.overflow_add-result-in-Indirect
overflow_add-result-in-Indirect c =
    let a = c.args in
    let l = indirect-laid a.table.now a.row a.bytes.now a.at _ (c.kind_at-kind.ensures (enums a.table.now)) c.requires.1 _ c.in-Indirect.is in omega (arith, l.word, c.read_u32.ensures.0)

pub read_u32-requires-in-Indirect : goal.read_u32-requires-in-Indirect
read_u32-requires-in-Indirect c =
    let a = c.args in
    let l = indirect-laid a.table.now a.row a.bytes.now a.at _ (c.kind_at-kind.ensures (enums a.table.now)) c.requires.1 _ c.in-Indirect.is in omega (arith, l.word, c.read_u32.ensures.0)

pub read_u32-requires-in-Dynamic : goal.read_u32-requires-in-Dynamic
read_u32-requires-in-Dynamic c =
    let a = c.args in
    (dynamic-laid a.table.now a.row a.bytes.now a.at _ (c.kind_at-kind.ensures (enums a.table.now)) c.requires.1 _ c.in-Dynamic.is).offset

pub overflow_add-start-in-Dynamic : goal.overflow_add-start-in-Dynamic
overflow_add-start-in-Dynamic c =
    let a = c.args in
    let l = dynamic-laid a.table.now a.row a.bytes.now a.at _ (c.kind_at-kind.ensures (enums a.table.now)) c.requires.1 _ c.in-Dynamic.is in omega (arith, l.word, c.read_u32-in-Dynamic.ensures.0)

pub read_u32-requires-in-Dynamic-2 : goal.read_u32-requires-in-Dynamic-2
read_u32-requires-in-Dynamic-2 c =
    let a = c.args in
    let l = dynamic-laid a.table.now a.row a.bytes.now a.at _ (c.kind_at-kind.ensures (enums a.table.now)) c.requires.1 _ c.in-Dynamic.is in omega (arith, l.word, c.read_u32-in-Dynamic.ensures.0)

pub returns-in-Plain : goal.returns-in-Plain
returns-in-Plain c =
    let a = c.args in
    part-plain a.table.now a.row a.bytes.now a.at _ (c.kind_at-kind.ensures (enums a.table.now)) c.if-table-row-eq19.false _ c.in-Plain.is

pub returns-in-Number : goal.returns-in-Number
returns-in-Number c =
    let a = c.args in
    part-number a.table.now a.row a.bytes.now a.at _ (c.kind_at-kind.ensures (enums a.table.now)) c.if-table-row-eq19.false _ c.in-Number.is

pub returns-in-Inline : goal.returns-in-Inline
returns-in-Inline c =
    let a = c.args in
    part-inline a.table.now a.row a.bytes.now a.at _ (c.kind_at-kind.ensures (enums a.table.now)) _ _ _ c.in-Inline.is c.wide-in-Inline.ensures.0

pub returns-in-Indirect : goal.returns-in-Indirect
returns-in-Indirect c =
    let a = c.args in
    part-indirect a.table.now a.row a.bytes.now a.at _ (c.kind_at-kind.ensures (enums a.table.now)) (a.at + c.read_u32.result) c.read_u32-in-Indirect.result (ap (λ (x : ℕ). a.at + x) c.read_u32.ensures.0) (c.read_u32-in-Indirect.ensures.0 ∙ ap (λ (x : ℕ). le (part 4 (a.at + x) a.bytes.now)) c.read_u32.ensures.0) _ c.in-Indirect.is

pub returns-in-Static : goal.returns-in-Static
returns-in-Static c =
    let a = c.args in
    part-static a.table.now a.row a.bytes.now a.at _ (c.kind_at-kind.ensures (enums a.table.now)) _ c.in-Static.is

pub returns-in-Dynamic : goal.returns-in-Dynamic
returns-in-Dynamic c =
    let a = c.args in
    part-dynamic a.table.now a.row a.bytes.now a.at _ (c.kind_at-kind.ensures (enums a.table.now)) (a.at + c.read_u32-in-Dynamic.result) c.read_u32-in-Dynamic-2.result (ap (λ (x : ℕ). a.at + x) c.read_u32-in-Dynamic.ensures.0) (c.read_u32-in-Dynamic-2.ensures.0 ∙ ap (λ (x : ℕ). le (part 4 (a.at + x) a.bytes.now)) c.read_u32-in-Dynamic.ensures.0) _ c.in-Dynamic.is
