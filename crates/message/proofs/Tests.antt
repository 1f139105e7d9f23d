-- Laws of tests.
use Rattle.std.proofs.Common.{◌≡◌, ℕ, Bool, true, false, ◌||◌, refl, arith}

pub true-false : (c : Bool) → c ≡ true → c ≡ false → ⊥
true-false c e f = let z : ◌≡◌ {A = ℕ} 0 1 = cc in omega arith

pub or_right : (c d : Bool) → d ≡ true → c || d ≡ true
or_right true d e = refl
or_right false d e = e

pub or_cases : {X : Type 0} (c d : Bool) → (c ≡ true → X) → (d ≡ true → X) → c || d ≡ true → X
or_cases true d f g e = f refl
or_cases false d f g e = g e

-- a test that is not ignored
pub or-unless : (c d : Bool) → (c ≡ false → d ≡ true) → c || d ≡ true
or-unless true d f = refl
or-unless false d f = f refl

pub unless-or : (c d : Bool) → c || d ≡ true → c ≡ false → d ≡ true
unless-or true d e z = absurd (true-false true refl z)
unless-or false d e z = e
