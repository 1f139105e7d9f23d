use native.Mathlib.Omega.{arith}
use Rattle.rows.proofs.Numbers.{le-none, le-more}
use Rattle.rows.proofs.first_u32.Goals as goal

pub returns : goal.returns
returns c = (omega (arith, le-none c.args.s.now, le-more 0 c.args.s.now, le-more 1 c.args.s.now, le-more 2 c.args.s.now, le-more 3 c.args.s.now, c.first.ensures 0 (omega arith), c.first.ensures 1 (omega arith), c.first.ensures 2 (omega arith), c.first.ensures 3 (omega arith)), omega arith)
