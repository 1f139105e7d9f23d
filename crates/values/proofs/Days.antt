-- Laws of the calendar's definitions.
use Prim.Native.Nat.{ℕ, zero, suc, ◌+◌, ◌-◌, ◌*◌, ◌/◌, ◌%◌, ◌^◌, ◌<◌, ◌≤◌, min}
use mathlib.Core.Path.{◌≡◌, refl, sym}
use mathlib.Core.Bool.{true, false, false≢true}
use native.Mathlib.Omega.{arith}
use native.Mathlib.Nat.{sub-zero, add-zero}
use lib.IntN.{ℤ, pos, negsuc, sub_ℕ, ◌-ℤ◌, nat_abs}
use lib.Signed.{lt_z}
use borrow.Author.Tests.{lt-ltb, le-ltb, ltb-true}
use mir.Syntax.{w64}
use mir.Val.{to_z, of_z}
use Rattle.std.proofs.lemmas.Int.{ints}
use Rattle.values.specs.declared.calendar.Day.{Day}
use Rattle.values.specs.Calendar.{year_start, hundreds, rest, year_in, month_of, day_of_month, named, day_in, day_of}

-- SIGNED NUMBERS

sub-is : (a b : ℕ) → sub_ℕ a b ≡ pos a -ℤ pos b
sub-is a zero = rw (le-ltb a 0 (omega arith), sub-zero, add-zero) refl
sub-is a (suc b) = refl

-- a difference that may be negative, as the machine hands it on
pub difference : (a b : ℕ) → a < 2 ^ 63 → b < 2 ^ 63 → to_z w64 (of_z w64 (to_z w64 a -ℤ to_z w64 b)) ≡ sub_ℕ a b
difference a b h l = let e = sub-is a b in omega (arith, ints)

-- THE YEAR OF A ROUND

start_is : (h f o : ℕ) → f ≤ 24 → o ≤ 3 → year_start (100 * h + 4 * f + o) ≡ 36524 * h + 1461 * f + 365 * o
unfolding year_start
start_is h f o a b = omega arith

-- the parts of a round: a hundred of years, then a day of it; four years of that, then a day of those
pub record Parts (n h r f q o : ℕ) : Type 0 where
  pub hundred : n ≡ 36524 * h + r
  pub four : r ≡ 1461 * f + q
  pub h≤ : h ≤ 3
  pub f≤ : f ≤ 24
  pub o≤ : o ≤ 3
  pub from : 365 * o ≤ q
  pub until : q < 365 * o + 366

parts : (n : ℕ) → n < 146097 → Parts n (hundreds n) (rest n) (rest n / 1461) (rest n % 1461) (min (rest n % 1461 / 365) 3)
parts n l =
    let r≤ : rest n ≤ 36524 = omega arith in
    record {
      hundred = omega arith;
      four = omega arith;
      h≤ = omega arith;
      f≤ = below (rest n) r≤;
      o≤ = omega arith;
      from = omega arith;
      until = last (rest n % 1461) (omega arith);
    }
  where
    below : (r : ℕ) → r ≤ 36524 → r / 1461 ≤ 24
    below r h = omega arith

    last : (q : ℕ) → q < 1461 → q < 365 * min (q / 365) 3 + 366
    last q h = omega arith

pub year-in : (n : ℕ) → n < 146097 → (year_in n < 400) × (year_start (year_in n) ≤ n) × (n < year_start (year_in n) + 366)
unfolding year_in
year-in n l =
    let p = parts n l in
    let e = start_is (hundreds n) (rest n / 1461) (min (rest n % 1461 / 365) 3) p.f≤ p.o≤ in
    go _ _ _ _ _ _ p _ e
  where
    go : (n h r f q o : ℕ) → Parts n h r f q o → (s : ℕ) → s ≡ 36524 * h + 1461 * f + 365 * o
        → (100 * h + 4 * f + o < 400) × (s ≤ n) × (n < s + 366)
    go n h r f q o p s e = (omega arith, omega arith, omega arith)

-- A DAY'S NAME

module _ (n from less y s : ℕ) (z : ℤ) (e : y ≡ year_in n) (f : s ≡ year_start y) where
  pub in-year : month_of (n - s) < 10 → z ≡ sub_ℕ (from + y) less
      → ◌≡◌ {A = Day} (record { year = z; month = month_of (n - s) + 3; day = day_of_month (n - s) }) (day_in n from less)
  unfolding day_in named
  in-year h i =
      let k : month_of (n - year_start (year_in n)) < 10 = rw (f, e) at h in
      rw (i, f, e) (rw (lt-ltb _ _ k))

  pub in-next : 10 ≤ month_of (n - s) → z ≡ sub_ℕ (from + y + 1) less
      → ◌≡◌ {A = Day} (record { year = z; month = month_of (n - s) - 9; day = day_of_month (n - s) }) (day_in n from less)
  unfolding day_in named
  in-next h i =
      let k : 10 ≤ month_of (n - year_start (year_in n)) = rw (f, e) at h in
      rw (i, f, e) (rw (le-ltb _ _ k))

-- days before 2000 and from then on
pub day-before : (z : ℤ) → lt_z z (pos 0) ≡ true → day_in (146096 - (nat_abs z + 59) % 146097) 1600 (400 * ((nat_abs z + 59) / 146097)) ≡ day_of z
unfolding day_of
day-before (pos n) h = let k = ltb-true n 0 h in absurd (omega arith)
day-before (negsuc n) h = let e : suc n + 59 ≡ n + 60 = omega arith in rw e refl

pub day-from : (z : ℤ) → lt_z z (pos 0) ≡ false → day_in ((nat_abs z + 146037) % 146097) (1600 + 400 * ((nat_abs z + 146037) / 146097)) 0 ≡ day_of z
unfolding day_of
day-from (pos n) h = refl
day-from (negsuc n) h = absurd (false≢true (sym h))
