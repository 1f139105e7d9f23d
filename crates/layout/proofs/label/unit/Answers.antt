use Prim.Native.Nat.{ℕ, ◌≤◌, ◌^◌}
use mathlib.Core.Path.{ap, ◌∙◌}
use native.Mathlib.Omega.{arith}
use native.Mathlib.Nat.{pow-le-pow_right, one-le-pow}
use Rattle.layout.specs.Label.{unit}
use Rattle.layout.proofs.label.unit.Goals as goal

at-most : (n : ℕ) → n ≤ 5 → 65 ^ n ≤ 1160290625
at-most n h = pow-le-pow_right {n = 65} (omega arith) {i = n} {j = 5} h

pub pow-requires : goal.pow-requires
pow-requires c = omega (arith, at-most c.min.result (omega arith))

pub returns : goal.returns
unfolding unit
returns c =
    let e = c.pow.ensures in
    (e ∙ ap (λ (n : ℕ). 65 ^ n) (omega arith), omega (arith, e, one-le-pow c.min.result 65 (omega arith)), omega (arith, e, at-most c.min.result (omega arith)))
