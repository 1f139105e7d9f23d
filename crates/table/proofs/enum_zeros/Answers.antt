use Rattle.std.proofs.Common.{refl, sym, ◌∙◌, eq-eqb, ne_eqb}
use Rattle.table.proofs.Laws.{zeros-before}
use Rattle.table.proofs.enum_zeros.Goals as goal

pub returns-then-read_u32-eq0 : goal.returns-then-read_u32-eq0
returns-then-read_u32-eq0 c =
    sym (zeros-before 4 8 4 c.args.p _ _ c.args.table.now c.read_u32.ensures.0 c.ends_zero.ensures ∙ rw (eq-eqb _ _ c.if-read_u32-eq0.true))

pub returns-else-read_u32-eq0 : goal.returns-else-read_u32-eq0
returns-else-read_u32-eq0 c =
    sym (zeros-before 4 8 4 c.args.p _ _ c.args.table.now c.read_u32.ensures.0 refl ∙ rw (ne_eqb _ _ c.if-read_u32-eq0.false))
