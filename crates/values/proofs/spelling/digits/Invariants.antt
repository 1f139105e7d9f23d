use mathlib.Core.Path.{◌≡◌}
use Rattle.io.specs.Digits.{last_digits}
use Rattle.wire.specs.Bytes.{splice}
use Rattle.values.proofs.spelling.digits.Given as goal

abbrev pub invariant-loop-i : goal.invariant-loop-i
invariant-loop-i l = splice l.k l.at (last_digits 10 l.k l.n) l.initial.out ≡ splice l.i l.at (last_digits 10 l.i l.rest) l.out
