use Prim.Native.Nat.{ℕ}
use mathlib.Core.Path.{ap}
use Rattle.io.specs.Digits.{last_digits}
use Rattle.values.proofs.Rooms.{wrote_as}
use Rattle.values.proofs.spelling.padded.Goals as goal

pub returns : goal.returns
returns c = wrote_as _ _ c.digits.ensures c.places.ensures.0 (ap (λ (k : ℕ). last_digits 10 k c.args.n) c.places.ensures.0)
