-- The tests on one value and the statements that they stand for.
use mathlib.Core.Path.{◌≡◌, refl}
use mathlib.Core.Bool.{Bool, true, false}
use mathlib.Core.List.{List, [], ◌∷◌}
use Prim.Native.Nat.{ℕ, ◌+◌, ◌≤◌}
use native.Mathlib.Omega.{arith}
use lib.ListN.{length, drop, length-take, length-drop}
use lib.Seq.{take-take}
use lib.Dec.{eqb}
use borrow.Author.Tests.{eq-eqb, lt-ltb, ltb-true, eqb-true}
use Rattle.wire.specs.Bytes.{part, le}
use Rattle.schema.specs.Schema.{Test, any, flag, below, symbol, member, passes, text_ok}
use Rattle.message.specs.Walk.{word}
use Rattle.meaning.specs.Conforms.{W9, W10, first, later, Number}
use Rattle.message.proofs.Tests.{true-false, or_right, or_cases}
use Rattle.meaning.proofs.Utf8.{utf8-iff}

member-w10 : (x : ℕ) (vs : List ℕ) → member x vs ≡ true → W10 vs x
unfolding member
member-w10 x [] e = absurd (true-false false e refl)
member-w10 x (y ∷ ys) e = or_cases (eqb x y) (member x ys) (λ q. rw (eqb-true x y q) first) (λ q. later (member-w10 x ys q)) e

w10-member : {x : ℕ} {vs : List ℕ} → W10 vs x → member x vs ≡ true
unfolding member
w10-member (first {x = x}) = rw (eq-eqb x x refl)
w10-member (later {x = x} {y = y} w) = or_right (eqb x y) _ (w10-member w)

pub test-pass : (t : Test) (x : List ℕ) → passes t x ≡ true → Number t (le x)
unfolding passes
test-pass any x e = tt
test-pass flag x e = omega (arith, ltb-true (le x) 2 e)
test-pass (below n) x e = ltb-true _ _ e
test-pass (symbol vs) x e = member-w10 (le x) vs e

pub pass-test : (t : Test) (x : List ℕ) → Number t (le x) → passes t x ≡ true
unfolding passes
pass-test any x e = refl
pass-test flag x e = lt-ltb (le x) 2 (omega arith)
pass-test (below n) x e = lt-ltb _ _ e
pass-test (symbol vs) x e = w10-member e

pub text-w9 : (u : Bool) (x : List ℕ) → text_ok u x ≡ true → W9 u x
unfolding text_ok
text-w9 true x e = (utf8-iff x).0 e
text-w9 false x e = tt

pub w9-text : (u : Bool) (x : List ℕ) → W9 u x → text_ok u x ≡ true
unfolding text_ok
w9-text true x e = (utf8-iff x).1 e
w9-text false x e = refl

-- a dynamic group's part is as long as its size word says
pub sized : (b : List ℕ) (p : ℕ) → p + (4 + word p b) ≤ length b → length (part (4 + word p b) p b) ≡ 4 + word 0 (part (4 + word p b) p b)
sized b p l = rw (take-take 4 (4 + word p b) (drop p b) (omega arith)) (simp (length-take, length-drop) (omega arith))
