-- A pattern is a NaN's where, its sign dropped, it is above an infinity's.
use Prim.Native.Nat.{ℕ}
use mathlib.Core.Path.{◌≡◌, refl, sym, ap, subst, ◌∙◌}
use mathlib.Core.Bool.{Bool, true, false, not}
use lib.Bits.{and_mask, bit_and}
use lib.Dec.{T, ltb}
use lib.Ieee.{Float, nan, inf, fin, binary64, is_nan, nan_bits, of_bits}
use lib.Ieee.Bits.{nan_bits_is, nan_bits_above}

pub above : (n : ℕ) → ltb 0x7ff0000000000000 (bit_and n 0x7fffffffffffffff) ≡ nan_bits binary64 n
above n = sym (nan_bits_above binary64 n ∙ ap (ltb 0x7ff0000000000000) (sym (and_mask n 63)))

pub no_nan : (n : ℕ) → nan_bits binary64 n ≡ false → T (not (nan_bits binary64 n))
no_nan n h = subst (λ (b : Bool). T (not b)) (sym h) tt

is-nan : (x : Float) → is_nan x ≡ true → x ≡ nan
unfolding is_nan
is-nan nan e = refl
is-nan (inf s) e = cc
is-nan (fin s m e') e = cc

pub reads-nan : (n : ℕ) → nan_bits binary64 n ≡ true → of_bits binary64 n ≡ nan
reads-nan n h = is-nan _ (sym (nan_bits_is binary64 n) ∙ h)
