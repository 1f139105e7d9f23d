use native.Mathlib.Omega.{arith}
use Rattle.store.proofs.Laws.{counted}
use Rattle.store.proofs.count_records.Goals as goal

pub returns-then-n-le8 : goal.returns-then-n-le8
returns-then-n-le8 c = let s = c.count_standing-n.ensures in
    let r = c.few_rising.ensures in
    (counted c.args.store.now _ _ s.0 r.0, omega (arith, s.1, r.1))

pub returns-else-n-le8 : goal.returns-else-n-le8
returns-else-n-le8 c = let s = c.count_standing-n.ensures in
    let r = c.count_rising.ensures in
    (counted c.args.store.now _ _ s.0 r.0, omega (arith, s.1, r.1))
