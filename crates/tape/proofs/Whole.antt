-- The whole tape, step by step, and what a loop over it needs.
use Rattle.schema.specs.Faults.{Verdict}
use Rattle.std.proofs.Common.{Ok, Err, Some, None}
use Prim.Native.Nat.{ℕ, zero, suc, ◌+◌, ◌<◌, ◌≤◌}
use mathlib.Core.Path.{◌≡◌, refl, sym, ap, ◌∙◌}
use mathlib.Core.Bool.{Bool, true, false}
use mathlib.Core.List.{List, [], ◌∷◌}
use native.Mathlib.Omega.{arith}
use lib.ListN.{length}
use lib.Dec.{leb}
use borrow.Author.Tests.{leb-true, leb-false}
use Rattle.schema.specs.Table.{table_verdict}
use Rattle.opening.specs.Opening.{Under, under}
use Rattle.tape.specs.declared.Step.{Step}
use Rattle.tape.specs.Tape.{Answer, whole, step_to, tape_step, before, answers_from, answers_at}
use Rattle.tape.proofs.Laws.{whole-inside, step-ended, step-20, step_cut, step-whole}

abbrev pub is_end : Answer → Bool
is_end None = true
is_end (Some v) = false

pub before-some : (a : Answer) (xs : List Answer) → is_end a ≡ false → before a xs ≡ a ∷ xs
unfolding before
before-some None xs e = let z : ◌≡◌ {A = ℕ} 0 1 = cc in absurd (omega arith)
before-some (Some v) xs e = refl

module _ (t s : List ℕ) (u : Under) where
  -- where bytes are left a step answers, moves on, and stays on the tape
  pub record Onward (p : ℕ) : Type 0 where
    pub answers : is_end (tape_step t s p u).answer ≡ false
    pub past : p < (tape_step t s p u).next
    pub within : (tape_step t s p u).next ≤ length s

  pub onward : (p : ℕ) → p < length s → Onward p
  onward p h = go (table_verdict t) (whole s p) refl refl
    where
      go : (v : Verdict) (w : Bool) → table_verdict t ≡ v → whole s p ≡ w → Onward p
      go (Err r) w e f = let x = step-20 t s p u r h (sym e) in record { answers = rw x; past = rw x h; within = rw x (omega arith) }
      go (Ok _) false e f = let x = step_cut t s p u h e f in record { answers = rw x; past = rw x h; within = rw x (omega arith) }
      go (Ok _) true e f = let x = step-whole t s p u e f in record { answers = rw x; past = rw x (omega arith); within = rw x (whole-inside s p f) }

  -- as many steps as bytes are left, or more, read all of them
  none_left : (n p : ℕ) → length s ≤ p → answers_from n t s u p ≡ []
  unfolding answers_from before
  none_left zero p h = refl
  none_left (suc n) p h = rw (step-ended t s p u h)

  pub enough : (n m p : ℕ) → length s ≤ p + n → length s ≤ p + m → answers_from n t s u p ≡ answers_from m t s u p
  unfolding answers_from
  enough zero m p h g = none_left 0 p (omega arith) ∙ sym (none_left m p (omega arith))
  enough (suc n) zero p h g = none_left (suc n) p (omega arith) ∙ sym (none_left 0 p (omega arith))
  enough (suc n) (suc m) p h g =
      by-test (leb (length s) p) refl (λ x. ap (before (tape_step t s p u).answer) (enough n m (tape_step t s p u).next (omega (arith, x)) (omega (arith, x))))
    where
      by-test : (b : Bool) → leb (length s) p ≡ b → (p < (tape_step t s p u).next → answers_from (suc n) t s u p ≡ answers_from (suc m) t s u p) → answers_from (suc n) t s u p ≡ answers_from (suc m) t s u p
      by-test true f on = none_left (suc n) p (leb-true _ _ f) ∙ sym (none_left (suc m) p (leb-true _ _ f))
      by-test false f on = on (onward p (leb-false _ _ f)).past

  pub answers-end : (p : ℕ) → length s ≤ p → answers_at t s u p ≡ []
  unfolding answers_at
  answers-end p h = none_left (length s) p h

  pub answers-on : (p : ℕ) → p < length s → answers_at t s u p ≡ (tape_step t s p u).answer ∷ answers_at t s u (tape_step t s p u).next
  unfolding answers_at answers_from
  answers-on p h =
      let x = onward p h in
      enough (length s) (suc (length s)) p (omega arith) (omega arith) ∙ before-some (tape_step t s p u).answer (answers_from (length s) t s u (tape_step t s p u).next) x.answers

  -- an answer that ends the tape is its last
  pub answers-last : (p : ℕ) (a : Answer) → p < length s → tape_step t s p u ≡ step_to a (length s) → answers_at t s u p ≡ a ∷ []
  answers-last p a h e = answers-on p h ∙ rw e (ap (λ (xs : List Answer). a ∷ xs) (answers-end (length s) (omega arith)))

  pub step_past : (p : ℕ) → p < length s → p < (tape_step t s p u).next
  step_past p h = (onward p h).past

  pub step-within : (p : ℕ) → p < length s → (tape_step t s p u).next ≤ length s
  step-within p h = (onward p h).within

  pub only_end : (p : ℕ) → (tape_step t s p u).answer ≡ None → length s ≤ p
  only_end p e = by-test (leb (length s) p) refl
    where
      by-test : (b : Bool) → leb (length s) p ≡ b → length s ≤ p
      by-test true f = leb-true _ _ f
      by-test false f = let x : true ≡ false = sym (ap is_end e) ∙ (onward p (leb-false _ _ f)).answers in let z : ◌≡◌ {A = ℕ} 0 1 = cc in absurd (omega arith)

-- A turn of a loop: the step x at p goes on behind it and stays on the tape, and its answer is the first of those from p on.
pub record Turn (t s : List ℕ) (u : Under) (p : ℕ) (x : Step) : Type 0 where
  pub past : p < x.next
  pub within : x.next ≤ length s
  pub rest : answers_at t s u p ≡ x.answer ∷ answers_at t s u x.next

-- with a scratch as long as the one that the loop was lent
pub turn : (t s store : List ℕ) (customer k room p : ℕ) (x : Step) → k ≡ room → p < length s → x ≡ tape_step t s p (under store customer k) → Turn t s (under store customer room) p x
turn t s store customer k room p x e h q =
    let r : x ≡ tape_step t s p (under store customer room) = q ∙ ap (λ (n : ℕ). tape_step t s p (under store customer n)) e in
    rw r (record { past = step_past t s (under store customer room) p h; within = step-within t s (under store customer room) p h; rest = answers-on t s (under store customer room) p h })
