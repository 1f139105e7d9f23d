-- A label tells what was put into it.
use mathlib.Core.Bool.{Bool, true, false, cond}
use Prim.Native.Nat.{ℕ, ◌-◌, ◌/◌, ◌%◌, ◌<◌}
use native.Mathlib.Omega.{arith}
use borrow.Author.Tests.{ne_eqb}
use lib.Dec.{ltb}
use Rattle.layout.specs.declared.label.Spot.{Spot}
use Rattle.layout.specs.Label.{above, packed, Tells}

above-few : (n : ℕ) → above n < 8
unfolding above
above-few n = few (ltb n 8)
  where
    few : (b : Bool) → cond b (7 - n) 0 < 8
    few true = omega arith
    few false = omega arith

pub tells : (kind : ℕ) (s : Spot) → Tells kind s (packed kind s)
unfolding packed
tells kind s =
    let h = above-few s.levels in
    record {
      its-kind = omega arith;
      its-run = ne_eqb (packed kind s / 32 % 2) 1 (omega arith);
      its-type = omega arith;
      its-level = omega arith;
      its-owner = omega arith;
      its-item = omega arith;
      its-path = omega arith;
    }
