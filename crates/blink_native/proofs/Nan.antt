-- A number that is read is no NaN's float.
use Rattle.schema.specs.declared.Fault.{Fault}
use Rattle.schema.specs.Faults.{Verdict, also}
use Rattle.std.proofs.Common.{Ok, Err, Result}
use mathlib.Core.Path.{◌≡◌, refl, sym, subst, ◌∙◌}
use mathlib.Core.Bool.{Bool, true, false, not, cond}
use mathlib.Core.List.{List}
use Prim.Native.Nat.{ℕ}
use lib.Dec.{T, eqb}
use lib.Ieee.{binary64, nan_bits, of_bits}
use lib.Ieee.Bits.{nan_bits_is}
use Rattle.wire.specs.Bytes.{le}
use Rattle.schema.specs.Schema.{member}
use Rattle.reading.specs.declared.Number.{Number}
use Rattle.reading.specs.declared.Number.TheVariants.{Float, NanBits}
use Rattle.reading.specs.Item.{Item, missing, item}
use Rattle.reading.specs.Number.{unsigned_types, signed_types, float_of, decimal_of, number_of, number_at}
use Rattle.opening.specs.Opening.{Under, message_verdict}
use Rattle.codec.specs.Answers.{number_answer}
use Rattle.blink_native.specs.Boundary.{NoNan}

either : (c : Bool) (x y : Result Number Fault) → NoNan x → NoNan y → NoNan (cond c x y)
either true x y a b = a
either false x y a b = b

float-no-nan : (n : ℕ) → NoNan (Ok (float_of n))
unfolding float_of NoNan
float-no-nan n = go (nan_bits binary64 n) refl
  where
    go : (c : Bool) → nan_bits binary64 n ≡ c → NoNan (Ok (cond c (NanBits n) (Float (of_bits binary64 n))))
    go true e = tt
    go false e = subst (λ (b : Bool). T (not b)) (sym e ∙ nan_bits_is binary64 n) tt

of-no-nan : (t : ℕ) (x : List ℕ) → NoNan (number_of t x)
unfolding number_of decimal_of NoNan
of-no-nan t x =
    either (member t unsigned_types) _ _ tt
    (either (member t signed_types) _ _ tt
    (either (eqb t 9) _ _ (float-no-nan (le x)) (either (eqb t 10) _ _ tt (either (eqb t 11) _ _ tt tt))))

at-no-nan : (b : List ℕ) (x : Item) → NoNan (number_at b x)
unfolding number_at NoNan
at-no-nan b (missing n) = tt
at-no-nan b (item f p) = of-no-nan _ _

under-no-nan : (v : Verdict) (x : Result Number Fault) → NoNan x → NoNan (also v x)
unfolding also NoNan
under-no-nan (Ok _) x h = h
under-no-nan (Err f) x h = tt

pub no_nan : (t b : List ℕ) (u : Under) (f i : ℕ) → NoNan (number_answer t b u f i)
unfolding number_answer
no_nan t b u f i = under-no-nan (message_verdict t b u) _ (at-no-nan b _)
