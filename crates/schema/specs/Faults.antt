-- A check's answer, and the order of faults: "first fault wins".
use Rattle.std.specs.Prelude.{Ok, Err, Result, ⊤, Bool, true, false, ℕ, zero, suc}
use Rattle.schema.specs.declared.Fault.{Fault}

-- This number of document 01's, at this place.
abbrev pub fault_at : ℕ → ℕ → Fault
fault_at n p = record { number = n; place = p }

-- A check's answer: nothing, or the first fault.
abbrev pub Verdict : Type 0
Verdict = Result ⊤ Fault

-- What a test's number says at a place; 0 is no fault.
unfoldable pub judged : ℕ → ℕ → Verdict
judged zero p = Ok tt
judged (suc n) p = Err (fault_at (suc n) p)

-- A test that must pass, what is said where it does not, and how it goes on. It is shut until a proof opens it.
unfoldable pub need : {X : Type 0} → Bool → X → X → X
need true fault k = k
need false fault k = fault

-- One check, and then another or an answer.
unfoldable pub also : {A : Type 0} → Verdict → Result A Fault → Result A Fault
also (Ok _) x = x
also (Err f) x = Err f
