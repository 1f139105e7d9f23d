-- Days and texts that are known, computed: leap days, the ends of centuries and of an i32, years before 1.
use Rattle.std.specs.Prelude.{◌≡◌, refl, [], ◌∷◌, ℕ, ℤ, pos, negsuc}
use Rattle.values.specs.declared.calendar.Day.{Day}
use Rattle.values.specs.Calendar.{year_start, year_in, named, day_in, day_of}
use Rattle.values.specs.Spelling.{places_from, places}
use Rattle.values.specs.Times.{padded, year_text, name_text, date_text, clock_text, time_of, moment_of, time_text, day_at, time_at, moment_text}

abbrev on : ℤ → ℕ → ℕ → Day
on y m d = record { year = y; month = m; day = d }

pub record Days : Type 0 where
  pub first : day_of (pos 0) ≡ on (pos 2000) 1 1
  pub day-before : day_of (negsuc 0) ≡ on (pos 1999) 12 31
  pub leap-2000 : day_of (pos 59) ≡ on (pos 2000) 2 29
  pub after-leap : day_of (pos 60) ≡ on (pos 2000) 3 1
  pub next-year : day_of (pos 366) ≡ on (pos 2001) 1 1
  pub leap-2024 : day_of (pos 8825) ≡ on (pos 2024) 2 29
  pub no-leap-1900 : day_of (negsuc 36465) ≡ on (pos 1900) 2 28
  pub after-1900 : day_of (negsuc 36464) ≡ on (pos 1900) 3 1
  pub no-leap-2100 : day_of (pos 36584) ≡ on (pos 2100) 3 1
  pub leap-2400 : day_of (pos 146156) ≡ on (pos 2400) 2 29
  pub year-0 : day_of (negsuc 730484) ≡ on (pos 0) 1 1
  pub before-0 : day_of (negsuc 730485) ≡ on (negsuc 0) 12 31
  pub last-i32 : day_of (pos 2147483647) ≡ on (pos 5881610) 7 11
  pub first-i32 : day_of (negsuc 2147483647) ≡ on (negsuc 5877610) 6 22

pub days : Days
unfolding year_start year_in named day_in day_of
days =
    record {
      first = refl;
      day-before = refl;
      leap-2000 = refl;
      after-leap = refl;
      next-year = refl;
      leap-2024 = refl;
      no-leap-1900 = refl;
      after-1900 = refl;
      no-leap-2100 = refl;
      leap-2400 = refl;
      year-0 = refl;
      before-0 = refl;
      last-i32 = refl;
      first-i32 = refl;
    }

-- 2026-11-17, -0044-03-15, +12345-01-01
pub record Dates : Type 0 where
  pub four : date_text (pos 9817) ≡ 50 ∷ 48 ∷ 50 ∷ 54 ∷ 45 ∷ 49 ∷ 49 ∷ 45 ∷ 49 ∷ 55 ∷ []
  pub before : date_text (negsuc 746481) ≡ 45 ∷ 48 ∷ 48 ∷ 52 ∷ 52 ∷ 45 ∷ 48 ∷ 51 ∷ 45 ∷ 49 ∷ 53 ∷ []
  pub five : date_text (pos 3778434) ≡ 43 ∷ 49 ∷ 50 ∷ 51 ∷ 52 ∷ 53 ∷ 45 ∷ 48 ∷ 49 ∷ 45 ∷ 48 ∷ 49 ∷ []

pub dates : Dates
unfolding year_start year_in named day_in day_of places_from places padded year_text name_text date_text
dates = record { four = refl; before = refl; five = refl }

-- 08:30:00.123, and a millisecond before 1970: 1969-12-31T23:59:59.999Z
pub record Times : Type 0 where
  pub morning : time_text 1000 3 30600123 ≡ 48 ∷ 56 ∷ 58 ∷ 51 ∷ 48 ∷ 58 ∷ 48 ∷ 48 ∷ 46 ∷ 49 ∷ 50 ∷ 51 ∷ []
  pub last : moment_text 1000 3 (negsuc 0)
      ≡ 49 ∷ 57 ∷ 54 ∷ 57 ∷ 45 ∷ 49 ∷ 50 ∷ 45 ∷ 51 ∷ 49 ∷ 84 ∷ 50 ∷ 51 ∷ 58 ∷ 53 ∷ 57 ∷ 58 ∷ 53 ∷ 57 ∷ 46 ∷ 57 ∷ 57 ∷ 57 ∷ 90 ∷ []

pub times : Times
unfolding year_start year_in named day_in day_of places_from places padded year_text name_text date_text clock_text time_of moment_of time_text day_at time_at moment_text
times = record { morning = refl; last = refl }
