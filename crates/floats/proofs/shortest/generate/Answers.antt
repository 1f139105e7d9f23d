use Prim.Native.Nat.{◌+◌, ◌-◌}
use mathlib.Core.Path.{◌≡◌}
use native.Mathlib.Omega.{arith}
use Rattle.floats.proofs.Division.{digits_more, tens-most}
use Rattle.floats.proofs.shortest.generate.Goals as goal

pub overflow_mul-digits : goal.overflow_mul-digits
overflow_mul-digits c = omega (arith, tens-most (c.loop-places.places - 1) (omega arith))

pub overflow_add-digits : goal.overflow_add-digits
overflow_add-digits c = omega (arith, tens-most (c.loop-places.places - 1) (omega arith), c.in_ok-digits.ensures.0)

pub rounded-digits-requires : goal.rounded-digits-requires
rounded-digits-requires c = (omega arith, omega arith, omega (arith, tens-most c.loop-places.places (omega arith), digits_more c.loop-places.places c.loop-places.digits _ (omega arith) c.loop-places.invariant c.in_ok-digits.ensures.0))

pub loop-places-preserved : goal.loop-places-preserved
loop-places-preserved c = let p = c.loop-places.places in let e : p + 1 - 1 ≡ p = omega arith in
    rw e (digits_more p c.loop-places.digits _ (omega arith) c.loop-places.invariant c.in_ok-digits.ensures.0)
