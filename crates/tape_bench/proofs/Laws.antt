-- Counting step by step.
use Rattle.schema.specs.declared.Fault.{Fault}
use Rattle.std.proofs.Common.{Ok, Err, Some, None}
use Prim.Native.Nat.{ℕ, ◌+◌, ◌<◌, ◌≤◌}
use mathlib.Core.Path.{◌≡◌, ap}
use mathlib.Core.List.{List, [], ◌∷◌}
use native.Mathlib.Omega.{arith}
use lib.ListN.{length}
use Rattle.schema.specs.Table.{table_verdict}
use Rattle.opening.specs.Opening.{Under}
use Rattle.tape.specs.declared.Step.{Step}
use Rattle.tape.specs.Tape.{Answer, answers_at, tape_answers}
use Rattle.tape.proofs.Laws.{step-20}
use Rattle.tape.proofs.Whole.{Turn, answers-end, answers-last}
use Rattle.tape_bench.specs.Count.{one, count_accepted}

pub one_at_most : (a : Answer) → one a ≤ 1
one_at_most None = omega arith
one_at_most (Some (Ok _)) = omega arith
one_at_most (Some (Err f)) = omega arith

-- What holds before each turn: so many are accepted of those before a place, and there are no more of them than bytes.
pub record Counted (t s : List ℕ) (u : Under) (at accepted : ℕ) : Type 0 where
  pub few : accepted ≤ at
  pub rest : accepted + count_accepted (answers_at t s u at) ≡ count_accepted (tape_answers t s u)

module _ (t s : List ℕ) (u : Under) where
  pub starts : Counted t s u 0 0
  starts = record { few = omega arith; rest = omega arith }

  pub ends : (p n : ℕ) → length s ≤ p → Counted t s u p n → n ≡ count_accepted (tape_answers t s u)
  unfolding count_accepted
  ends p n h c = let e : count_accepted (answers_at t s u p) ≡ 0 = ap count_accepted (answers-end t s u p h) in omega (arith, c.rest, e)

  pub turns : (p : ℕ) (x : Step) → Turn t s u p x → (n m : ℕ) → m ≡ one x.answer → Counted t s u p n → Counted t s u x.next (n + m)
  unfolding count_accepted
  turns p x r n m e c =
      let a : count_accepted (answers_at t s u p) ≡ one x.answer + count_accepted (answers_at t s u x.next) = ap count_accepted r.rest in
      record { few = omega (arith, c.few, r.past, one_at_most x.answer, e); rest = omega (arith, c.rest, a, e) }

-- a refused table's one answer is 20
pub none : (t s : List ℕ) (u : Under) (r : Fault) → Err r ≡ table_verdict t → ◌≡◌ {A = ℕ} 0 (count_accepted (tape_answers t s u))
unfolding count_accepted
none t [] u r e = rw (answers-end t [] u 0 (omega arith))
none t (x ∷ s) u r e = let h : 0 < length (x ∷ s) = omega arith in rw (answers-last t (x ∷ s) u 0 _ h (step-20 t (x ∷ s) 0 u r h e))
