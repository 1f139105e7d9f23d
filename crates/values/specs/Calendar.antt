-- The proleptic Gregorian calendar, with years as astronomers number them.
-- A year is taken to begin in March here, so that the leap day is its last. 400 such years, 146097 days, are a round.
use Rattle.std.specs.Prelude.{cond, ℕ, ◌+◌, ◌-◌, ◌*◌, ◌/◌, ◌%◌, min, ℤ, pos, negsuc, ltb}
use Rattle.std.proofs.Math.IntN.{sub_ℕ}
use Rattle.values.specs.declared.calendar.Day.{Day}

-- How many days of a round come before its year y.
unfoldable pub year_start : ℕ → ℕ
year_start y = 365 * y + y / 4 - y / 100

-- The year of the round that has its day n: so many hundreds, then so many fours, then so many years. The last hundred and the last
-- year of four are a day longer than the others.
abbrev pub hundreds : ℕ → ℕ
hundreds n = min (n / 36524) 3

abbrev pub rest : ℕ → ℕ
rest n = n - 36524 * hundreds n

unfoldable pub year_in : ℕ → ℕ
year_in n = 100 * hundreds n + 4 * (rest n / 1461) + min (rest n % 1461 / 365) 3

-- The month of a day of such a year, from 0 for March, and the day of that month. Five months from March or August on have 153 days.
abbrev pub month_of : ℕ → ℕ
month_of d = (5 * d + 2) / 153

abbrev pub day_of_month : ℕ → ℕ
day_of_month d = d - (153 * month_of d + 2) / 5 + 1

-- Day d of the year `from - less`, which begins in March. January and February are of the next.
unfoldable pub named : ℕ → ℕ → ℕ → Day
named d from less =
    cond (ltb (month_of d) 10)
    (record { year = sub_ℕ from less; month = month_of d + 3; day = day_of_month d })
    (record { year = sub_ℕ (from + 1) less; month = month_of d - 9; day = day_of_month d })

-- Day n of the round that begins in the year `from - less`.
unfoldable pub day_in : ℕ → ℕ → ℕ → Day
day_in n from less = named (n - year_start (year_in n)) (from + year_in n) less

-- The day with a number, counted from 2000-01-01: 60 days before a round begins, and 146037 after the one before began.
unfoldable pub day_of : ℤ → Day
day_of (pos n) = day_in ((n + 146037) % 146097) (1600 + 400 * ((n + 146037) / 146097)) 0
day_of (negsuc n) = day_in (146096 - (n + 60) % 146097) 1600 (400 * ((n + 60) / 146097))
