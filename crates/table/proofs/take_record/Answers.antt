use mathlib.Core.Path.{sym, ◌∙◌}
use Prim.Native.Nat.{◌*◌}
use native.Mathlib.Omega.{arith}
use lib.ListN.{drop}
use Rattle.table.specs.Index.{due_of}
use Rattle.table.proofs.Records.{owed-marks, enum-due, enum_is, group-due, group-marked, after-owed, after-enum, after-group, begun-owed, begun-enum, begun-group}
use Rattle.table.proofs.take_record.Goals as goal

pub returns-then-shape-gt0 : goal.returns-then-shape-gt0
returns-then-shape-gt0 c =
    let a = c.args in
    let h = c.requires in
    let d = due_of a.shape in
    let t = drop (16 * a.i) a.table.now in
    let l = c.if-shape-gt0.true in
    let m = owed-marks d t l h.3 in
    record { due = sym (after-owed d t l); begun = begun-owed a.table.now h.0 a.i h.1 _ _ _ _ m.0 m.1 l h.2 }

pub place_symbols-requires : goal.place_symbols-requires
place_symbols-requires c =
    let a = c.args in
    let h = c.requires in
    let e = sym c.is_enum.ensures ∙ c.if-is_enum.true in
    let q = enum-due (due_of a.shape) (drop (16 * a.i) a.table.now) c.if-shape-gt0.false e h.3 in
    (q.0, h.2.long, omega (arith, c.symbol_count-count.ensures.1))

pub returns-then-is_enum : goal.returns-then-is_enum
returns-then-is_enum c =
    let a = c.args in
    let h = c.requires in
    let d = due_of a.shape in
    let t = drop (16 * a.i) a.table.now in
    let l = c.if-shape-gt0.false in
    let e = sym c.is_enum.ensures ∙ c.if-is_enum.true in
    let n = c.symbol_count-count.ensures.0 in
    let q = enum-due d t l e h.3 in
    let m = enum_is d t e in
    record { due = rw n (sym (after-enum d t l e)); begun = begun-enum a.table.now h.0 a.i h.1 _ _ _ _ _ _ m.1 m.0 q.0 l n (omega (arith, q.1, n)) c.place_symbols.ensures h.2 }

pub returns : goal.returns
returns c =
    let a = c.args in
    let h = c.requires in
    let d = due_of a.shape in
    let t = drop (16 * a.i) a.table.now in
    let l = c.if-shape-gt0.false in
    let e = sym c.is_enum.ensures ∙ c.if-is_enum.false in
    let n = c.field_count.ensures.0 in
    let q = group-due d t l e h.3 in
    record { due = rw (n, c.has_mark.ensures) (sym (after-group d t l e)); begun = begun-group a.table.now h.0 a.i h.1 _ _ _ _ _ _ (group-marked d t q.0) q.1 l n c.place_group.ensures h.2 }
