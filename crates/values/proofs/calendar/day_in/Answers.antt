use Prim.Native.Nat.{◌+◌}
use native.Mathlib.Omega.{arith}
use Rattle.values.proofs.Days.{difference, in-year, in-next}
use Rattle.values.proofs.calendar.day_in.Goals as goal
use Rattle.values.proofs.calendar.day_in.Goals.{then-m-lt10, else-m-lt10}

pub returns : goal.returns
returns c = let a = c.args in let y = c.year_in-y in
    elim c.if-m-lt10.branch [
      | then-m-lt10 w ↦ rw w.year-is (in-year a.n a.from a.less _ _ _ y.ensures.0 c.year_start.ensures w.if-m-lt10.true (difference (a.from + y.result) a.less (omega arith) (omega arith)))
      | else-m-lt10 w ↦ rw w.year-is (in-next a.n a.from a.less _ _ _ y.ensures.0 c.year_start.ensures w.if-m-lt10.false (difference (a.from + y.result + 1) a.less (omega arith) (omega arith)))
    ]
