-- Two's complement, as `cast_signed` and `cast_unsigned` have it, and casts of signed numbers.
use native.Mathlib.Omega.{arith}
use mathlib.Core.Path.{◌≡◌, refl, sym, subst, ◌∙◌}
use lib.Dec.{T, leb}
use lib.IntN.{ℤ, pos, negsuc}
use mir.Syntax.{Width, w64}
use mir.Val.{hbits, SFits, to_z, of_z}
use mir.Facts.{to_z-of_z, sfits_widen}
use Rattle.wire.specs.Bytes.{pattern}

pub pattern-is : (z : ℤ) → of_z w64 z ≡ pattern 63 z
unfolding pattern
pattern-is (pos n) = refl
pattern-is (negsuc n) = omega arith

-- CASTS

-- a signed number of a narrower width, made wide
module _ (w w' : Width) (z : ℤ) (narrower : T (leb (hbits w) (hbits w'))) (f : SFits w z) where
  pub widens : SFits w' (to_z w (of_z w z))
  widens = subst (SFits w') (sym (to_z-of_z f)) (sfits_widen narrower f)

  pub widened : to_z w' (of_z w' (to_z w (of_z w z))) ≡ z
  widened = to_z-of_z widens ∙ to_z-of_z f
