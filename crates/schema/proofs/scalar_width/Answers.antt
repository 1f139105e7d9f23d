use Rattle.std.proofs.Common.{◌≡◌, ℕ, zero, suc, ◌<◌, cond, eqb, ltb, ◌⊎◌, List, [], ◌∷◌, get_or, refl, inl, inr, arith, le-ltb, lt-ltb, ne_eqb}
use Rattle.schema.specs.Table.{scalar_width}
use Rattle.schema.proofs.scalar_width.Goals as goal

-- the first k values of a function

unfoldable values : (ℕ → ℕ) → ℕ → List ℕ
values f zero = []
values f (suc k) = f 0 ∷ values (λ n. f (suc n)) k

values-at : (f : ℕ → ℕ) (k n d : ℕ) → n < k → f n ≡ get_or (values f k) n d
unfolding values
values-at f zero n d h = absurd (omega arith)
values-at f (suc k) zero d h = refl
values-at f (suc k) (suc n) d h = values-at (λ i. f (suc i)) k n d (omega arith)

-- the widths of the code's arms; their list is the definition's

unfoldable matched : ℕ → ℕ
matched n = cond (ltb n 3) 1 (cond (ltb n 5) 2 (cond (ltb n 7) 4 (cond (eqb n 10) 9 (cond (eqb n 11) 1 (cond (eqb n 12) 4 (cond (eqb n 15) 4 8))))))

matched-is : (n : ℕ) → n < 17 → matched n ≡ scalar_width n
unfolding values matched scalar_width
matched-is n h = values-at matched 17 n 4 h

four : (n : ℕ) → (n ≡ 12) ⊎ (n ≡ 15) → 4 ≡ scalar_width n
unfolding scalar_width
four n (inl e) = rw e
four n (inr e) = rw e

pub returns-in-10 : goal.returns-in-10
unfolding scalar_width
returns-in-10 c = rw c.in-10.is

pub returns-in-3 : goal.returns-in-3
unfolding matched
returns-in-3 c = rw (← matched-is _ c.requires, le-ltb _ _ c.in-3.if-number-lt3-own.false, lt-ltb _ _ c.in-3.if-number-lt5-own.true)

pub returns-in_default : goal.returns-in_default
unfolding matched
returns-in_default c = let m = c.in_default.in_default-own.rest in
    rw (← matched-is _ c.requires, le-ltb _ _ c.in_default.if-number-lt3-own.false, le-ltb _ _ c.in_default.if-number-lt5-own.false, le-ltb _ _ c.in_default.if-number-lt7-own.false, ne_eqb _ _ m.1, ne_eqb _ _ m.0.0.1, ne_eqb _ 12 (λ e. m.0.1 (inl e)), ne_eqb _ 15 (λ e. m.0.1 (inr e)))

pub returns-in-5 : goal.returns-in-5
returns-in-5 c = four _ c.in-5.is

pub returns-in-5-2 : goal.returns-in-5-2
unfolding matched
returns-in-5-2 c = rw (← matched-is _ c.requires, le-ltb _ _ c.in-5.if-number-lt3-own.false, le-ltb _ _ c.in-5.if-number-lt5-own.false, lt-ltb _ _ c.in-5.if-number-lt7-own.true)

pub returns-in-0 : goal.returns-in-0
unfolding scalar_width
returns-in-0 c = rw c.in-0.is

pub returns-in-0-2 : goal.returns-in-0-2
unfolding matched
returns-in-0-2 c = rw (← matched-is _ c.requires, lt-ltb _ _ c.in-0.if-number-lt3-own.true)
