-- Dates and times as text. 45 is `-`, 43 `+`, 58 `:`, 46 `.`, 84 `T`, 90 `Z`.
use Rattle.std.specs.Prelude.{cond, List, [], ◌∷◌, ◌++◌, ℕ, ◌+◌, ◌-◌, ◌*◌, ◌/◌, ◌%◌, suc, ℤ, pos, negsuc, ltb}
use Rattle.std.proofs.Math.IntN.{sub_ℕ}
use Rattle.io.specs.Digits.{last_digits}
use Rattle.values.specs.declared.calendar.Day.{Day}
use Rattle.values.specs.Calendar.{day_of}
use Rattle.values.specs.Spelling.{places}

-- n with zeros in front up to `least` digits.
unfoldable pub padded : ℕ → ℕ → List ℕ
padded least n = last_digits 10 (places least n) n

-- A year of more than four digits, or before the year 0, has a sign.
unfoldable pub year_text : ℤ → List ℕ
year_text (pos y) = cond (ltb y 10000) (last_digits 10 4 y) (43 ∷ padded 4 y)
year_text (negsuc y) = 45 ∷ padded 4 (suc y)

unfoldable pub name_text : Day → List ℕ
name_text d = (((year_text d.year ++ (45 ∷ [])) ++ last_digits 10 2 d.month) ++ (45 ∷ [])) ++ last_digits 10 2 d.day

-- By the day's number, counted from 2000-01-01.
unfoldable pub date_text : ℤ → List ℕ
date_text z = name_text (day_of z)

-- A number of seconds since midnight, as hours, minutes and seconds.
unfoldable pub clock_text : ℕ → List ℕ
clock_text n = (((padded 2 (n / 3600) ++ (58 ∷ [])) ++ last_digits 10 2 (n / 60 % 60)) ++ (58 ∷ [])) ++ last_digits 10 2 (n % 60)

-- The same with a fraction of a second, k digits.
unfoldable pub time_of : ℕ → ℕ → ℕ → List ℕ
time_of seconds fraction k = clock_text seconds ++ (46 ∷ last_digits 10 k fraction)

unfoldable pub moment_of : ℤ → ℕ → ℕ → ℕ → List ℕ
moment_of days seconds fraction k = ((date_text days ++ (84 ∷ [])) ++ time_of seconds fraction k) ++ (90 ∷ [])

-- A time of day in parts of a second: `unit` of them are one, and their number has k digits.
unfoldable pub time_text : ℕ → ℕ → ℕ → List ℕ
time_text unit k n = time_of (n / unit) (n % unit) k

-- The day, counted from 2000-01-01, of a number of parts of which `long` are a day, counted from 1970-01-01, 10957 days before; and
-- the parts of that day that are over.
unfoldable pub day_at : ℕ → ℤ → ℤ
day_at long (pos n) = sub_ℕ (n / long) 10957
day_at long (negsuc n) = sub_ℕ 0 (n / long + 10958)

unfoldable pub time_at : ℕ → ℤ → ℕ
time_at long (pos n) = n % long
time_at long (negsuc n) = long - 1 - n % long

unfoldable pub moment_text : ℕ → ℕ → ℤ → List ℕ
moment_text unit k z = moment_of (day_at (86400 * unit) z) (time_at (86400 * unit) z / unit) (time_at (86400 * unit) z % unit) k
