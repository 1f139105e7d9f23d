-- What the names of days mean, said without rounds and without years that begin in March.
use Rattle.std.specs.Prelude.{◌≡◌, cond, List, [], ◌∷◌, ℕ, zero, suc, ◌+◌, ◌-◌, ◌*◌, ◌/◌, ◌%◌, ℤ, pos, negsuc, take, eqb}
use Rattle.std.proofs.Math.IntN.{sub_ℕ}
use Rattle.values.specs.declared.calendar.Day.{Day}
use Rattle.values.specs.Calendar.{day_of}

-- Every fourth year has a leap day, but of the hundreds only every fourth.
unfoldable pub leap : ℕ → ℕ
leap y = cond (eqb (y % 400) 0) 1 (cond (eqb (y % 100) 0) 0 (cond (eqb (y % 4) 0) 1 0))

-- The lengths of a year's months.
unfoldable pub months : ℕ → List ℕ
months y = 31 ∷ (28 + leap y) ∷ 31 ∷ 30 ∷ 31 ∷ 30 ∷ 31 ∷ 31 ∷ 30 ∷ 31 ∷ 30 ∷ 31 ∷ []

unfoldable pub sum : List ℕ → ℕ
sum [] = 0
sum (x ∷ xs) = x + sum xs

-- The days of all years from 0 on before year y.
unfoldable pub years_before : ℕ → ℕ
years_before zero = 0
years_before (suc y) = years_before y + (365 + leap y)

-- The days from 0000-01-01 to a day.
unfoldable pub count : ℕ → ℕ → ℕ → ℕ
count y m d = years_before y + sum (take (m - 1) (months y)) + (d - 1)

-- A day's number, counted from 2000-01-01: 730485 days after 0000-01-01. Years before 0 are those of the 400 years, 146097 days, that are
-- so many times 400 years later.
unfoldable pub number_in : ℤ → ℕ → ℕ → ℤ
number_in (pos y) m d = sub_ℕ (count y m d) 730485
number_in (negsuc y) m d = sub_ℕ (count (399 - y % 400) m d) (146097 * (y / 400 + 1) + 730485)

abbrev pub number_of : Day → ℤ
number_of d = number_in d.year d.month d.day

pub record Claims : Type 0 where
  -- counted back from its name, a day's number is the number that was asked
  pub counted : (z : ℤ) → number_of (day_of z) ≡ z
