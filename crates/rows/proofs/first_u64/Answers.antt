use native.Mathlib.Omega.{arith}
use Rattle.rows.proofs.Numbers.{le-none, le-more}
use Rattle.rows.proofs.first_u64.Goals as goal

pub returns : goal.returns
returns c = omega (arith, le-none c.args.s.now, le-more 0 c.args.s.now, le-more 1 c.args.s.now, le-more 2 c.args.s.now, le-more 3 c.args.s.now, le-more 4 c.args.s.now, le-more 5 c.args.s.now, le-more 6 c.args.s.now, le-more 7 c.args.s.now, c.first.ensures 0 (omega arith), c.first.ensures 1 (omega arith), c.first.ensures 2 (omega arith), c.first.ensures 3 (omega arith), c.first.ensures 4 (omega arith), c.first.ensures 5 (omega arith), c.first.ensures 6 (omega arith), c.first.ensures 7 (omega arith))
