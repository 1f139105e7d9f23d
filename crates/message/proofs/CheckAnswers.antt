-- A walk's answer and the count that it stands for: what a function shows at a return, and how it goes on after a call.
use Rattle.std.proofs.Common.{Ok, Err, Result, IsErrAnd, ◌≡◌, ℕ, ◌+◌, ◌%◌, ◌^◌, ◌<◌, List, [], refl, ap, ◌∙◌, add-zero, add_assoc, mod-lt, mod-eq_of_lt, arith}
use Rattle.std.proofs.lemmas.Result.{err_from_is_err_and}
use native.Mathlib.Nat.{mod-add-mod}
use Rattle.schema.specs.declared.Fault.{Fault}
use Rattle.schema.specs.Faults.{fault_at}
use Rattle.message.specs.Count.{Count, failed, counted, more, and_then}
use Rattle.message.specs.Check.{count_by, count_of, after}
use Rattle.message.specs.declared.failure.Failure.{Failure}
use Rattle.message.specs.declared.Step.{Step}

-- RETURNS

module _ (F : ℕ → List ℕ) (k : ℕ) (c : Count) where
  pub refuses : (f : Failure) → c ≡ failed f.number f.place → count_by F (Err f) ≡ after k c
  unfolding count_by after
  refuses f e = rw e

  pub counts : (s : Step) (j : ℕ) → c ≡ counted j (F s.taken) → s.length ≡ (k + j) % 2 ^ 64 → count_by F (Ok s) ≡ after k c
  unfolding count_by after
  counts s j e q = rw (e, q)

  -- nothing more, and something more
  pub stays : (s : Step) → c ≡ counted 0 (F s.taken) → s.length ≡ k → k < 2 ^ 64 → count_by F (Ok s) ≡ after k c
  stays s e q h = counts s 0 e (rw (add-zero, mod-eq_of_lt h) q)

pub after_more : (k j : ℕ) (c : Count) → after k (more j c) ≡ after ((k + j) % 2 ^ 64) c
unfolding after more
after_more k j (failed n p) = refl
after_more k j (counted i m) = rw (mod-add-mod (k + j) (2 ^ 64) i, add_assoc)

pub goes_on : (k j l : ℕ) (c d : Count) → c ≡ more j d → l ≡ (k + j) % 2 ^ 64 → after k c ≡ after l d
goes_on k j l c d e q = rw (e, q) (after_more k j d)

-- AFTER A CALL

module _ (F : ℕ → List ℕ) (k : ℕ) (c : Count) where
  pub passed : (s : Step) (f : List ℕ → Count) → count_by F (Ok s) ≡ after k c → after k (and_then c f) ≡ after s.length (f (F s.taken))
  unfolding count_by after and_then
  passed s f e = go c e
    where
      go : (c : Count) → counted s.length (F s.taken) ≡ after k c → after k (and_then c f) ≡ after s.length (f (F s.taken))
      go (failed n p) q = cc
      go (counted j i) q =
          let a : s.length ≡ (k + j) % 2 ^ 64 = cc in
          let b : i ≡ F s.taken = cc in
          rw (a, b) (after_more k j (f (F s.taken)))

  pub stopped : (G : ℕ → List ℕ) (e : Failure) (f : List ℕ → Count) → count_by F (Err e) ≡ after k c → count_by G (Err e) ≡ after k (and_then c f)
  unfolding count_by after and_then
  stopped G e f s = go c s
    where
      go : (c : Count) → failed e.number e.place ≡ after k c → failed e.number e.place ≡ after k (and_then c f)
      go (failed x y) q = q
      go (counted j i) q = cc

  pub bounded : (s : Step) → count_by F (Ok s) ≡ after k c → s.length < 2 ^ 64
  unfolding count_by after
  bounded s e = go c e
    where
      go : (c : Count) → counted s.length (F s.taken) ≡ after k c → s.length < 2 ^ 64
      go (failed n p) q = cc
      go (counted j i) q = let a : s.length ≡ (k + j) % 2 ^ 64 = cc in omega (arith, a, mod-lt (k + j) {m = 2 ^ 64} (omega arith))

-- what the exit of a `?` returns
pub exits : {T E : Type 0} (r : Result T E) (f : E) → IsErrAnd r (λ e. e ≡ f) → r ≡ Err f
exits r f h = let p = err_from_is_err_and r h in p.1 ∙ ap Err p.2

-- THE CHECK'S ANSWER

module _ (k : ℕ) (c : Count) where
  pub check-refuses : (f : Fault) → c ≡ failed f.number f.place → count_of (Err f) [] ≡ after k c
  unfolding count_of after
  check-refuses f e = rw e

  pub check-accepts : (s : Step) → count_by (λ _. []) (Ok s) ≡ after k c → count_of (Ok s.length) [] ≡ after k c
  unfolding count_of count_by
  check-accepts s e = e

  pub check-stops : (f : Failure) → count_by (λ _. []) (Err f) ≡ after k c → count_of (Err (fault_at f.number f.place)) [] ≡ after k c
  unfolding count_of count_by
  check-stops f e = e
