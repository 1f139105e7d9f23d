-- Laws of words, and of numbers as text.
use Rattle.std.proofs.Common.{rules, arith, refl, ap, List, [], ◌∷◌, ℕ, ◌≡◌, ◌≢◌, ◌<◌, ◌^◌, Bool, true, false, cond, ◌&&◌, length, get_or, Some, None, Result, Ok, Err}
use Rattle.std.specs.Bool.{Decides}
use Rattle.std.specs.List.{IsAnyAnswer, starts_with}
use Rattle.std.specs.Result.{OkIff, result_ok}
use Rattle.std.specs.Str.{IsUtf8}
use Rattle.std.specs.Str.Parse.{ParsesUnsigned}
use Rattle.std.proofs.lemmas.Bool.Decides.{Decides-eqb, when_true}
use Rattle.std.proofs.lemmas.Fmt.{IsAscii-from_digits}
use Rattle.std.proofs.lemmas.Slice.Eq.{compares_Decides, starts_is}
use Rattle.std.proofs.lemmas.Str.{IsUtf8-from_ascii}
use Rattle.std.proofs.lemmas.Str.Parse.{IsNumeralModel, numerals_by_fold, not_in_digits, parse_plain}
use lib.Dec.{eqb, ltb}
use mathlib.Core.Bool.{and-eq-true_iff}
use Rattle.std.proofs.lemmas.Bool.{eqb-true, lt-ltb, ltb-true}
use Rattle.wire.specs.Bytes.{same}
use Rattle.inputs.specs.Numbers.{all_digits, value_from, decimal_of}

-- WORDS

pub same-decides : (x y : List ℕ) → Decides (same x y) (x ≡ y)
unfolding same
same-decides = compares_Decides same (search rules)

-- NUMBERS

numerals : IsNumeralModel (λ s. all_digits s ≡ true) (value_from 0)
unfolding all_digits value_from
numerals = numerals_by_fold _ (search rules) value_from (search rules)

-- what keeps a text from being a number
none : (s : List ℕ) → (all_digits s ≡ true → 0 < length s → value_from 0 s < 18446744073709551616 → ⊥) → None ≡ decimal_of s
unfolding decimal_of
none s h = go _ refl
  where
    go : (b : Bool) → (ltb 0 (length s) && (all_digits s && ltb (value_from 0 s) 18446744073709551616)) ≡ b → None ≡ cond b (Some (value_from 0 s)) None
    go false e = refl
    go true e =
        let f = (and-eq-true_iff (ltb 0 (length s)) (all_digits s && ltb (value_from 0 s) 18446744073709551616)).0 e in
        let g = (and-eq-true_iff (all_digits s) (ltb (value_from 0 s) 18446744073709551616)).0 f.1 in
        absurd (h g.0 (ltb-true _ _ f.0) (ltb-true _ _ g.1))

pub number-not_text : (s : List ℕ) → (IsUtf8 s → ⊥) → None ≡ decimal_of s
number-not_text s h = none s (λ d _ _. h (IsUtf8-from_ascii s (IsAscii-from_digits s (numerals.to s d))))

pub number-plus : (s : List ℕ) (r : Bool) → r ≡ starts_with eqb s (43 ∷ []) → r ≡ true → None ≡ decimal_of s
number-plus s r h e =
    none s (λ d l _. not_in_digits numerals s 43 d (λ i. omega (arith, i.0)) 0 l (ap (λ t. get_or t 0 0) ((starts_is Decides-eqb s (43 ∷ []) r h).0 e)))

-- the byte behind the digit 9
pub number_colon : (s : List ℕ) (r : Bool) → IsAnyAnswer (λ y b. eqb y 58 ≡ b) s r → r ≡ true → None ≡ decimal_of s
number_colon s r h e =
    let a = when_true _ _ e h in none s (λ d _ _. not_in_digits numerals s 58 d (λ i. omega (arith, i.1)) a.0 a.1 (eqb-true _ _ (a.2 0)))

no_plus : (s : List ℕ) (r : Bool) → r ≡ starts_with eqb s (43 ∷ []) → r ≡ false → get_or s 0 0 ≢ 43
no_plus [] r h e f = omega (arith, f)
no_plus (d ∷ ds) r h e f = let t = (starts_is Decides-eqb (d ∷ ds) (43 ∷ []) r h).1 ds (ap (λ x. x ∷ ds) f) in cc

pub number-parsed : {E : Type 0} (s : List ℕ) (r : Bool) → r ≡ starts_with eqb s (43 ∷ []) → r ≡ false → (n : Result ℕ E) → ParsesUnsigned 64 10 s n → result_ok n ≡ decimal_of s
unfolding decimal_of
number-parsed {E = E} s r h e n p = go n (parse_plain numerals 64 s n p (no_plus s r h e))
  where
    go : (n : Result ℕ E) → OkIff n ((all_digits s ≡ true) × (0 < length s) × (value_from 0 s < 2 ^ 64)) (value_from 0 s) → result_ok n ≡ decimal_of s
    go (Ok x) (q, v) = rw (lt-ltb 0 (length s) q.1, q.0, lt-ltb (value_from 0 s) 18446744073709551616 (omega (arith, q.2))) (ap Some v)
    go (Err _) q = none s (λ a b c. q (a, b, omega (arith, c)))
