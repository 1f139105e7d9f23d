use mathlib.Core.Path.{sym, ap, ◌∙◌}
use native.Mathlib.Omega.{arith}
use Rattle.schema.proofs.Types.{le-one}
use Rattle.reading.specs.declared.Number.TheVariants.{Unsigned}
use Rattle.reading.proofs.Numbers.{eight}
use Rattle.reading.proofs.unsigned_at.Goals as goal

pub read_u64-requires : goal.read_u64-requires
read_u64-requires c =
    let pre = c.requires in
    let n = c.in_default.in_default-own.rest in let e = eight _ pre.1 n.0.0.1 n.0.1 n.1 in omega (arith, e, pre.0)

pub returns-in-1 : goal.returns-in-1
returns-in-1 c =
    let a = c.args in
    rw c.in-1.is (ap Unsigned (c.wide.ensures.0 ∙ sym (le-one a.bytes.now a.at (omega (arith, c.requires.0, c.in-1.is)))))

pub returns-in-2 : goal.returns-in-2
returns-in-2 c = rw c.in-2.is (ap Unsigned c.read_u16.ensures.0)

pub returns-in-4 : goal.returns-in-4
returns-in-4 c = rw c.in-4.is (ap Unsigned c.read_u32.ensures.0)

pub returns-in_default : goal.returns-in_default
returns-in_default c = let n = c.in_default.in_default-own.rest in rw (eight _ c.requires.1 n.0.0.1 n.0.1 n.1) (ap Unsigned c.read_u64.ensures)
