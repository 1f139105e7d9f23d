use Prim.Native.Nat.{ℕ, ◌-◌}
use mathlib.Core.Path.{◌≡◌}
use native.Mathlib.Omega.{arith}
use Rattle.std.proofs.lemmas.Bool.Decides.{nat_tests}
use Rattle.layout.specs.Label.{above}
use Rattle.layout.proofs.label.levels_above.Goals as goal

above-sub : (n : ℕ) → above n ≡ 7 - n
unfolding above
above-sub n = grind (arith, nat_tests)

pub returns : goal.returns
returns c = grind (arith, above-sub)
