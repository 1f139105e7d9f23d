use mathlib.Core.Path.{refl, sym, ap, ◌∙◌}
use native.Mathlib.Omega.{arith}
use native.Mathlib.Nat.{sub-zero}
use Rattle.wire.proofs.Laws.{splice-nil}
use Rattle.schema.specs.Schema.{find}
use Rattle.schema.specs.Table.{schema}
use Rattle.schema.proofs.Groups.{find-whole}
use Rattle.sheet.specs.Show.{takes, number_of, id_of}
use Rattle.sheet.proofs.ShowReaders.{head-whole, id-whole, id-length}
use Rattle.sheet.proofs.open_group.Goals as goal

pub read_u64-requires : goal.read_u64-requires
read_u64-requires c = omega (arith, head-whole _ _ c.in-Whole.is, c.requires.2)

pub find-group-requires : goal.find-group-requires
find-group-requires c = let P = c.requires.0 in
    (rw (sym (c.group_total-total.ensures.0 ∙ P.total)) at P.placed, P.long, omega (arith, c.group_total-total.ensures.0, P.total, P.few), P.small)

pub copy_value-requires : goal.copy_value-requires
copy_value-requires c = let R = c.requires in let e = c.in-Whole.is in let h = head-whole _ _ e in
    (omega (arith, h, R.2), omega (arith, id-length _ _ e c.args.bytes.now (omega (arith, h, R.2)), R.3))

pub overflow_sub-result : goal.overflow_sub-result
unfolding takes
overflow_sub-result c = rw c.in-Whole.is at c.requires.1

pub returns-in-Whole : goal.returns-in-Whole
unfolding takes number_of
returns-in-Whole c = let a = c.args in let R = c.requires in let t = a.table.now in let b = a.bytes.now in let e = c.in-Whole.is in
    let g = c.find-group.ensures.0 ∙ find-whole (schema t) _ _ (c.group_total-total.ensures.0 ∙ R.0.total) ∙ ap (find (schema t)) c.read_u64.ensures in
    rw (id-length _ _ e b (omega (arith, head-whole _ _ e, R.2)), id-whole _ _ e b, e) (g, refl, c.copy_value.ensures, refl)

pub returns-in-Fields : goal.returns-in-Fields
unfolding takes number_of id_of
returns-in-Fields c = let a = c.args in rw c.in-Fields.is (refl, sym (sub-zero a.levels), sym (splice-nil a.pos a.out.now), omega arith)
