use mathlib.Core.Path.{◌≡◌, ◌∙◌}
use native.Mathlib.Nat.{add-sub_cancel_left}
use lib.Dec.{eqb}
use lib.Pointwise.{pointwise}
use Rattle.wire.specs.Bytes.{part}
use Rattle.wire.proofs.Turns.{pointwise-same}
use Rattle.wire.proofs.same.Goals as goal

pub returns : goal.returns
returns c =
    let a = c.args in
    let e : c.eq.result ≡ pointwise eqb (part a.n a.at a.a.now) (part a.n a.from a.b.now) = simp add-sub_cancel_left at c.eq.ensures in
    e ∙ pointwise-same _ _
