-- Counted back from its name, a day's number is the number that was asked.
use mathlib.Core.Path.{◌≡◌, refl, ap, ◌∙◌}
use mathlib.Core.Bool.{Bool, true, false, cond, true≢false}
use Prim.Native.Nat.{ℕ, zero, suc, ◌+◌, ◌-◌, ◌*◌, ◌/◌, ◌%◌, ◌<◌, ◌≤◌}
use native.Mathlib.Omega.{arith}
use lib.IntN.{ℤ, pos, negsuc, sub_ℕ}
use lib.ListN.{take}
use lib.Dec.{eqb, ltb}
use borrow.Author.Tests.{lt-ltb, le-ltb, eqb-true, ltb-true, ltb-false}
use Rattle.values.specs.Calendar.{year_start, year_in, month_of, day_of_month, named, day_in, day_of}
use Rattle.values.specs.Claims.{leap, months, sum, years_before, count, number_in, number_of, Claims}
use Rattle.values.proofs.Days.{year-in}

-- YEARS

above_zero : (r : ℕ) → eqb r 0 ≡ false → 0 < r
above_zero zero e = absurd (true≢false e)
above_zero (suc r) e = omega arith

at_most_one : (t : Bool) → cond t 1 0 ≤ 1
at_most_one true = omega arith
at_most_one false = omega arith

tick-4 : (y : ℕ) (t : Bool) → eqb ((y + 1) % 4) 0 ≡ t → (y + 1) / 4 ≡ y / 4 + cond t 1 0
tick-4 y true e = let z = eqb-true ((y + 1) % 4) 0 e in omega arith
tick-4 y false e = let z = above_zero ((y + 1) % 4) e in omega arith

tick-100 : (y : ℕ) (t : Bool) → eqb ((y + 1) % 100) 0 ≡ t → (y + 1) / 100 ≡ y / 100 + cond t 1 0
tick-100 y true e = let z = eqb-true ((y + 1) % 100) 0 e in omega arith
tick-100 y false e = let z = above_zero ((y + 1) % 100) e in omega arith

tick-400 : (y : ℕ) (t : Bool) → eqb ((y + 1) % 400) 0 ≡ t → (y + 1) / 400 ≡ y / 400 + cond t 1 0
tick-400 y true e = let z = eqb-true ((y + 1) % 400) 0 e in omega arith
tick-400 y false e = let z = above_zero ((y + 1) % 400) e in omega arith

-- which of the three tests hold together
ticks : (n : ℕ) (a b c : Bool) → eqb (n % 4) 0 ≡ a → eqb (n % 100) 0 ≡ b → eqb (n % 400) 0 ≡ c
    → cond c 1 (cond b 0 (cond a 1 0)) + cond b 1 0 ≡ cond a 1 0 + cond c 1 0
ticks n true true true p q r = refl
ticks n true true false p q r = refl
ticks n true false false p q r = refl
ticks n false false false p q r = refl
ticks n false true c p q r =
    let x = above_zero (n % 4) p in
    let y = eqb-true (n % 100) 0 q in
    absurd (omega arith)
ticks n true false true p q r =
    let x = eqb-true (n % 400) 0 r in
    let y = above_zero (n % 100) q in
    absurd (omega arith)
ticks n false false true p q r =
    let x = eqb-true (n % 400) 0 r in
    let y = above_zero (n % 100) q in
    absurd (omega arith)

leap-is : (n : ℕ) → leap n + cond (eqb (n % 100) 0) 1 0 ≡ cond (eqb (n % 4) 0) 1 0 + cond (eqb (n % 400) 0) 1 0
unfolding leap
leap-is n = ticks n _ _ _ refl refl refl

step : (y l a b c x f h q f' h' q' : ℕ) → x ≡ 365 * y + 366 + f - h + q → l + b ≡ a + c → f' ≡ f + a → h' ≡ h + b → q' ≡ q + c → h ≤ f → b ≤ 1
    → x + (365 + l) ≡ 365 * (y + 1) + 366 + f' - h' + q'
step y l a b c x f h q f' h' q' e i j k m o t = omega arith

years : (y : ℕ) → years_before (suc y) ≡ 365 * y + 366 + y / 4 - y / 100 + y / 400
unfolding years_before
years zero = unfold leap in refl
years (suc y) =
    let n : suc y ≡ y + 1 = omega arith in
    let i = step y (leap (y + 1)) _ _ _ (years_before (suc y)) (y / 4) (y / 100) (y / 400) ((y + 1) / 4) ((y + 1) / 100) ((y + 1) / 400) (years y)
    (leap-is (y + 1)) (tick-4 y _ refl) (tick-100 y _ refl) (tick-400 y _ refl) (omega arith) (at_most_one (eqb ((y + 1) % 100) 0)) in
    rw n i

gather : (q y f h : ℕ) → h ≤ f → 365 * (400 * q + y) + 366 + (100 * q + f) - (4 * q + h) + q ≡ 146097 * q + (365 * y + f - h) + 366
gather q y f h l = omega arith

-- up to the end of year y of the round that begins in year 400 * q
years-in : (q y : ℕ) → y < 400 → years_before (suc (400 * q + y)) ≡ 146097 * q + year_start y + 366
unfolding year_start
years-in q y h =
    let a : (400 * q + y) / 4 ≡ 100 * q + y / 4 = omega arith in
    let b : (400 * q + y) / 100 ≡ 4 * q + y / 100 = omega arith in
    let c : (400 * q + y) / 400 ≡ q = omega arith in
    years (400 * q + y) ∙ rw (a, b, c) (gather q y (y / 4) (y / 100) (omega arith))

-- 400 years more
leap-more : (y : ℕ) → leap (y + 400) ≡ leap y
unfolding leap
leap-more y =
    let a : (y + 400) % 400 ≡ y % 400 = omega arith in
    let b : (y + 400) % 100 ≡ y % 100 = omega arith in
    let c : (y + 400) % 4 ≡ y % 4 = omega arith in
    rw (a, b, c)

years-more : (y : ℕ) → years_before (y + 400) ≡ years_before y + 146097
unfolding years_before
years-more zero = unfold leap in refl
years-more (suc y) =
    let n : suc y + 400 ≡ suc (y + 400) = omega arith in
    rw n (omega (arith, years-more y, leap-more y))

count-more : (y m d : ℕ) → count (y + 400) m d ≡ count y m d + 146097
unfolding count months
count-more y m d = rw (leap-more y) (omega (arith, years-more y))

count-times : (p y m d : ℕ) → count (y + 400 * p) m d ≡ count y m d + 146097 * p
count-times zero y m d = let n : y + 400 * 0 ≡ y = omega arith in rw n (omega arith)
count-times (suc p) y m d =
    let n : y + 400 * suc p ≡ y + 400 * p + 400 = omega arith in
    rw n (omega (arith, count-more (y + 400 * p) m d, count-times p y m d))

-- DIFFERENCES

sub-shift : (a b c a' b' : ℕ) → a' ≡ a + c → b' ≡ b + c → sub_ℕ a b ≡ sub_ℕ a' b'
sub-shift a b c a' b' e f = go (ltb a b) refl where
  go : (t : Bool) → ltb a b ≡ t → cond t (negsuc (b - suc a)) (pos (a - b)) ≡ sub_ℕ a' b'
  go true l =
      let k = ltb-true a b l in
      let n : b - suc a ≡ b' - suc a' = omega arith in
      rw (lt-ltb a' b' (omega arith), n)
  go false l =
      let k = ltb-false a b l in
      let n : a - b ≡ a' - b' = omega arith in
      rw (le-ltb a' b' (omega arith), n)

sub-pos : (a b n : ℕ) → a ≡ b + n → sub_ℕ a b ≡ pos n
sub-pos a b n e = let i : a - b ≡ n = omega arith in rw (le-ltb a b (omega arith), i)

sub-neg : (a b n : ℕ) → b ≡ a + 1 + n → sub_ℕ a b ≡ negsuc n
sub-neg a b n e = let i : b - suc a ≡ n = omega arith in rw (lt-ltb a b (omega arith), i)

-- the number in a year that is 400 * p less than a
shifted : (a p m d : ℕ) → number_in (sub_ℕ a (400 * p)) m d ≡ sub_ℕ (count a m d) (146097 * p + 730485)
unfolding number_in
shifted a p m d = go (ltb a (400 * p)) refl where
  go : (t : Bool) → ltb a (400 * p) ≡ t → number_in (cond t (negsuc (400 * p - suc a)) (pos (a - 400 * p))) m d ≡ sub_ℕ (count a m d) (146097 * p + 730485)
  go false l =
      let k = ltb-false a (400 * p) l in
      let n : a - 400 * p + 400 * p ≡ a = omega arith in
      let c = count-times p (a - 400 * p) m d in
      let e = rw n at c in
      sub-shift (count (a - 400 * p) m d) 730485 (146097 * p) (count a m d) (146097 * p + 730485) e (omega arith)
  go true l =
      let k = ltb-true a (400 * p) l in
      let j = 400 * p - suc a in
      let r = 399 - (400 * p - suc a) % 400 in
      let q = p - ((400 * p - suc a) / 400 + 1) in
      let n : 399 - (400 * p - suc a) % 400 + 400 * (p - ((400 * p - suc a) / 400 + 1)) ≡ a = omega arith in
      let c = count-times (p - ((400 * p - suc a) / 400 + 1)) (399 - (400 * p - suc a) % 400) m d in
      let e = rw n at c in
      sub-shift _ _ (146097 * (p - ((400 * p - suc a) / 400 + 1))) (count a m d) (146097 * p + 730485) e (omega arith)

-- MONTHS

-- the days before a month from March on, and before January and February of the next year
from-march : (m y : ℕ) → m < 10 → sum (take (m + 3 - 1) (months y)) ≡ 59 + leap y + (153 * m + 2) / 5
unfolding sum months
from-march zero y h = omega arith
from-march (suc zero) y h = omega arith
from-march (suc (suc zero)) y h = omega arith
from-march (suc (suc (suc zero))) y h = omega arith
from-march (suc (suc (suc (suc zero)))) y h = omega arith
from-march (suc (suc (suc (suc (suc zero))))) y h = omega arith
from-march (suc (suc (suc (suc (suc (suc zero)))))) y h = omega arith
from-march (suc (suc (suc (suc (suc (suc (suc zero))))))) y h = omega arith
from-march (suc (suc (suc (suc (suc (suc (suc (suc zero)))))))) y h = omega arith
from-march (suc (suc (suc (suc (suc (suc (suc (suc (suc zero))))))))) y h = omega arith
from-march (suc (suc (suc (suc (suc (suc (suc (suc (suc (suc m)))))))))) y h = absurd (omega arith)

from-january : (m y : ℕ) → 10 ≤ m → m < 12 → sum (take (m - 9 - 1) (months y)) + 306 ≡ (153 * m + 2) / 5
unfolding sum months
from-january m y h l = go (ltb m 11) refl where
  go : (t : Bool) → ltb m 11 ≡ t → sum (take (m - 9 - 1) (months y)) + 306 ≡ (153 * m + 2) / 5
  go true e = let k = ltb-true m 11 e in let n : m ≡ 10 = omega arith in rw n refl
  go false e = let k = ltb-false m 11 e in let n : m ≡ 11 = omega arith in rw n refl

-- DAYS

year-after : (y : ℕ) → years_before (suc y) ≡ years_before y + (365 + leap y)
unfolding years_before
year-after y = refl

total-this : (a b s l d : ℕ) → b ≡ 59 + l + s → s ≤ d → a + b + (d - s + 1 - 1) ≡ a + l + 59 + d
total-this a b s l d e f = omega arith

total-next : (a b s d : ℕ) → b + 306 ≡ s → s ≤ d → a + b + (d - s + 1 - 1) + 306 ≡ a + d
total-next a b s d e f = omega arith

begun : (d : ℕ) → (153 * month_of d + 2) / 5 ≤ d
begun d = omega arith

-- a day of a year that begins in March, counted from 0000-01-01
module _ (q y d : ℕ) (h : y < 400) (l : d < 366) where
  in-this : month_of d < 10 → count (400 * q + y) (month_of d + 3) (day_of_month d) ≡ 146097 * q + year_start y + d + 60
  unfolding count
  in-this m =
      let a = years-in q y h in
      let b = year-after (400 * q + y) in
      total-this _ _ _ _ d (from-march (month_of d) (400 * q + y) m) (begun d) ∙ omega arith

  in-next : 10 ≤ month_of d → count (400 * q + y + 1) (month_of d - 9) (day_of_month d) ≡ 146097 * q + year_start y + d + 60
  unfolding count
  in-next m =
      let n : 400 * q + y + 1 ≡ suc (400 * q + y) = omega arith in
      let a = years-in q y h in
      let t = total-next (years_before (suc (400 * q + y))) _ _ d (from-january (month_of d) (suc (400 * q + y)) m (omega arith)) (begun d) in
      rw n (omega (arith, t, a))

-- the number of a day of a round
module _ (n f p : ℕ) (h : n < 146097) where
  abbrev in-year : ℕ
  in-year = n - year_start (year_in n)

  this-year : month_of in-year < 10 → number_of (day_in n (400 * f) (400 * p)) ≡ sub_ℕ (146097 * f + n + 60) (146097 * p + 730485)
  unfolding day_in named
  this-year m =
      let y = year-in n h in
      let c = in-this f (year_in n) in-year y.0 (omega (arith, y.1, y.2)) m in
      let e : 146097 * f + year_start (year_in n) + in-year + 60 ≡ 146097 * f + n + 60 = omega (arith, y.1) in
      rw (lt-ltb (month_of in-year) 10 m)
      (shifted (400 * f + year_in n) p (month_of in-year + 3) (day_of_month in-year) ∙ ap (λ (x : ℕ). sub_ℕ x (146097 * p + 730485)) (c ∙ e))

  next-year : 10 ≤ month_of in-year → number_of (day_in n (400 * f) (400 * p)) ≡ sub_ℕ (146097 * f + n + 60) (146097 * p + 730485)
  unfolding day_in named
  next-year m =
      let y = year-in n h in
      let c = in-next f (year_in n) in-year y.0 (omega (arith, y.1, y.2)) m in
      let e : 146097 * f + year_start (year_in n) + in-year + 60 ≡ 146097 * f + n + 60 = omega (arith, y.1) in
      rw (le-ltb (month_of in-year) 10 m)
      (shifted (400 * f + year_in n + 1) p (month_of in-year - 9) (day_of_month in-year) ∙ ap (λ (x : ℕ). sub_ℕ x (146097 * p + 730485)) (c ∙ e))

  of-round : (t : Bool) → ltb (month_of in-year) 10 ≡ t → number_of (day_in n (400 * f) (400 * p)) ≡ sub_ℕ (146097 * f + n + 60) (146097 * p + 730485)
  of-round true e = this-year (ltb-true _ _ e)
  of-round false e = next-year (ltb-false _ _ e)

  from-round : number_of (day_in n (400 * f) (400 * p)) ≡ sub_ℕ (146097 * f + n + 60) (146097 * p + 730485)
  from-round = of-round (ltb (month_of in-year) 10) refl

counted : (z : ℤ) → number_of (day_of z) ≡ z
unfolding day_of
counted (pos n) =
    let q = (n + 146037) / 146097 in
    let r = (n + 146037) % 146097 in
    let a : 1600 + 400 * ((n + 146037) / 146097) ≡ 400 * (4 + (n + 146037) / 146097) = omega arith in
    rw a (from-round r (4 + q) 0 (omega arith) ∙ sub-pos (146097 * (4 + q) + r + 60) (146097 * 0 + 730485) n (omega arith))
counted (negsuc n) =
    let q = (n + 60) / 146097 in
    let r = 146096 - (n + 60) % 146097 in
    from-round r 4 q (omega arith) ∙ sub-neg (146097 * 4 + r + 60) (146097 * q + 730485) n (omega arith)

pub claims : Claims
claims = record { counted = counted }
