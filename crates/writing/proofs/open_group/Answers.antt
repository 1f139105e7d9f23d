use mathlib.Core.Path.{sym, ap, ◌∙◌}
use native.Mathlib.Omega.{arith}
use Rattle.schema.specs.Schema.{find}
use Rattle.schema.specs.Table.{schema}
use Rattle.schema.proofs.Groups.{find-whole, layout-width}
use Rattle.writing.proofs.Scopes.{head-room, whole-opens, fields_open}
use Rattle.writing.proofs.open_group.Goals as goal

pub read_u64-requires : goal.read_u64-requires
read_u64-requires c = let a = c.args in (head-room a.scope _ c.in-Whole.is a.ends.pos a.ends.free a.sheet.now a.out.now a.levels c.requires.1).1

pub find-group-requires : goal.find-group-requires
find-group-requires c = let P = c.requires.0 in
    (rw (sym (c.group_total-total.ensures.0 ∙ P.total)) at P.placed, P.long, omega (arith, c.group_total-total.ensures.0, P.total, P.few), P.small)

pub write_bytes-pos-requires : goal.write_bytes-pos-requires
write_bytes-pos-requires c = let a = c.args in let r = head-room a.scope _ c.in-Whole.is a.ends.pos a.ends.free a.sheet.now a.out.now a.levels c.requires.1 in (r.1, r.2)

pub overflow_sub-result : goal.overflow_sub-result
overflow_sub-result c = let a = c.args in omega (arith, (head-room a.scope _ c.in-Whole.is a.ends.pos a.ends.free a.sheet.now a.out.now a.levels c.requires.1).0)

pub returns-in-Whole : goal.returns-in-Whole
returns-in-Whole c = let a = c.args in let P = c.requires.0 in let t = a.table.now in
    let g = c.find-group.ensures.0 ∙ find-whole (schema t) _ _ (c.group_total-total.ensures.0 ∙ P.total) ∙ ap (find (schema t)) c.read_u64.ensures in
    whole-opens a.scope _ c.in-Whole.is a.ends.pos a.ends.free a.sheet.now a.out.now t a.levels _ _ _ _ g c.write_bytes-pos.ensures.1 (c.group_width-free.ensures.0 ∙ layout-width t a.index.now P _) c.write_bytes-pos.ensures.0

pub returns-in-Fields : goal.returns-in-Fields
returns-in-Fields c = let a = c.args in fields_open a.scope _ c.in-Fields.is a.table.now a.levels a.ends.pos a.ends.free a.sheet.now a.out.now
