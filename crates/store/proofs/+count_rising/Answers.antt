use Prim.Native.Nat.{◌/◌}
use mathlib.Core.Path.{sym, ◌∙◌}
use native.Mathlib.Omega.{arith}
use Rattle.store.specs.Check.{rising}
use Rattle.store.proofs.Laws.{run_short}
use Rattle.store.proofs.+count_rising.Goals as goal

pub returns-then-k-first : goal.returns-then-k-first
returns-then-k-first t c =
    let a = c.args in
    let e = c.count_rising-k.ensures in
    (e.0 ∙ sym (run_short (rising a.store.now) (a.n / 256) a.n 0 (omega (arith, e.0, c.if-k-first.true)) (omega (arith, c.if-n-le256.false))), omega (arith, e.1, c.if-n-le256.false))
