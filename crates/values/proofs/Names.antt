-- Laws of the texts of dates and times.
use Prim.Native.Nat.{ℕ, suc, ◌+◌, ◌-◌, ◌*◌, ◌/◌, ◌%◌, ◌<◌, ◌≤◌}
use mathlib.Core.Path.{◌≡◌, refl, sym, ap}
use mathlib.Core.Bool.{true, false, false≢true}
use mathlib.Core.List.{[], ◌∷◌, ◌++◌}
use native.Mathlib.Omega.{arith}
use lib.IntN.{ℤ, pos, negsuc, sub_ℕ, ◌-ℤ◌, nat_abs}
use lib.Signed.{lt_z}
use Rattle.std.specs.Int.{int_div_euclid, int_rem_euclid}
use borrow.Author.Tests.{lt-ltb, le-ltb, ltb-true}
use Rattle.io.specs.Digits.{last_digits}
use Rattle.values.specs.Spelling.{places}
use Rattle.values.specs.declared.calendar.Day.{Day}
use Rattle.values.specs.Calendar.{day_of}
use Rattle.values.specs.Times.{padded, year_text, name_text, date_text, clock_text, time_of, moment_of, day_at, time_at, moment_text}

-- a year, of four digits, of more, and before the year 0
pub year-four : (z : ℤ) → lt_z z (pos 0) ≡ false → nat_abs z < 10000 → last_digits 10 4 (nat_abs z) ≡ year_text z
unfolding year_text
year-four (pos n) s h = rw (lt-ltb _ _ h)
year-four (negsuc n) s h = absurd (false≢true (sym s))

pub year-more : (z : ℤ) → lt_z z (pos 0) ≡ false → 10000 ≤ nat_abs z → (43 ∷ []) ++ last_digits 10 (places 4 (nat_abs z)) (nat_abs z) ≡ year_text z
unfolding year_text padded
year-more (pos n) s h = rw (le-ltb _ _ h)
year-more (negsuc n) s h = absurd (false≢true (sym s))

pub year-before : (z : ℤ) → lt_z z (pos 0) ≡ true → (45 ∷ []) ++ last_digits 10 (places 4 (nat_abs z)) (nat_abs z) ≡ year_text z
unfolding year_text padded
year-before (pos n) s = let k = ltb-true n 0 s in absurd (omega arith)
year-before (negsuc n) s = refl

-- a moment, by the day and the part of it that Euclid's division has
pub instant : (unit k : ℕ) (z : ℤ) (d : ℤ) (p : ℕ) → d ≡ int_div_euclid z (pos (86400 * unit)) -ℤ pos 10957 → pos p ≡ int_rem_euclid z (pos (86400 * unit))
    → moment_of d (p / unit) (p % unit) k ≡ moment_text unit k z
unfolding moment_text day_at time_at
instant unit k (pos n) d p e f = let q : p ≡ n % (86400 * unit) = cc in rw (e, q) refl
instant unit k (negsuc n) d p e f =
    let q : p ≡ 86400 * unit - 1 - n % (86400 * unit) = cc in
    let s : negsuc (suc (n / (86400 * unit) + 10956)) ≡ sub_ℕ 0 (n / (86400 * unit) + 10958) = rw (lt-ltb 0 (n / (86400 * unit) + 10958) (omega arith)) (ap negsuc (omega arith)) in
    rw (e, q, s) refl

-- a day's name, of the day and the year that the machine hands on
pub date-is : (d : Day) (y z w : ℤ) (m n : ℕ) → d ≡ day_of w → w ≡ z → y ≡ d.year → m ≡ d.month → n ≡ d.day
    → ((((year_text y ++ (45 ∷ [])) ++ last_digits 10 2 m) ++ (45 ∷ [])) ++ last_digits 10 2 n) ≡ date_text z
unfolding date_text name_text
date-is d y z w m n e f g h i = rw (g, h, i, e, f)

pub moment-is : (y z : ℤ) (n f k : ℕ) → y ≡ z → ((date_text y ++ (84 ∷ [])) ++ (clock_text n ++ (46 ∷ last_digits 10 k f))) ++ (90 ∷ []) ≡ moment_of z n f k
unfolding moment_of time_of
moment-is y z n f k e = rw e
