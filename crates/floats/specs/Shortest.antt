-- What the digits of a float mean.
use Rattle.std.specs.Prelude.{◌≡◌, Bool, false, ℕ, ◌+◌, ◌-◌, ◌*◌, ◌^◌, ◌<◌, ◌≤◌}
use Rattle.floats.specs.Limbs.{up_to}

-- One step of a long division: d is the next digit of r / s, r' what is left of r, and m grows with it.
pub record NextDigit (r s m d r' m' : ℕ) : Type 0 where
  pub digit : 10 * r ≡ d * s + r'
  pub rest : r' < s
  pub grown : m' ≡ 10 * m

-- s' is the first of s, 10 * s, 100 * s .. that r + plus * m stays below, and k counts these from the least on.
pub record Settled (closed : Bool) (plus r s m s' least k : ℕ) : Type 0 where
  pub least-is : least ≤ k
  pub grown : s' ≡ 10 ^ (k - least) * s
  pub above : up_to closed s' (r + plus * m) ≡ false
