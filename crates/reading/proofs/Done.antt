-- What a reading that is done went through, step by step.
use mathlib.Core.Path.{◌≡◌, refl}
use mathlib.Core.Bool.{Bool, true, false}
use mathlib.Core.List.{List}
use Prim.Native.Nat.{ℕ, ◌+◌, ◌*◌, ◌≤◌}
use native.Mathlib.Omega.{arith}
use lib.ListN.{length}
use borrow.Author.Tests.{leb-true}
use Rattle.schema.specs.Faults.{need}
use Rattle.message.specs.Occupancy.{occupy}
use Rattle.message.specs.Walk.{Here, Reading, refused, done, Reader, prefixed, next, Place, lost, locate, onward, indirect_r, padded}
use Rattle.meaning.specs.Conforms.{target, count_at}

pub refused-done : {X : Type 0} {n p : ℕ} {s m : List ℕ} → refused n p ≡ done s m → X
refused-done e = let z : ◌≡◌ {A = ℕ} 0 1 = cc in absurd (omega arith)

-- TESTS

pub need-done : (c : Bool) (n p : ℕ) (r : Reading) {s m : List ℕ} → need c (refused n p) r ≡ done s m → (c ≡ true) × (r ≡ done s m)
unfolding need
need-done true n p r e = (refl, e)
need-done false n p r e = refused-done e

pub padded-done : (h : Here) (r : Reading) {s m : List ℕ} → padded h r ≡ done s m → (m' : List ℕ) × (r ≡ done s m')
unfolding padded
padded-done h (refused n p) e = refused-done e
padded-done h (done t m') e = let q = (need-done _ _ _ _ e).1 in (m', cc)

pub prefixed-done : (x : List ℕ) (r : Reading) {s m : List ℕ} → prefixed x r ≡ done s m → (s' : List ℕ) × (r ≡ done s' m)
unfolding prefixed
prefixed-done x (refused n p) e = refused-done e
prefixed-done x (done t m') e = (t, cc)

-- r is done, and then f
pub record Then (r : Reading) (f : List ℕ → Reading) (m : List ℕ) : Type 0 where
  pub first : List ℕ
  pub between : List ℕ
  pub second : List ℕ
  pub before : r ≡ done first between
  pub after : f between ≡ done second m

pub next-done : (r : Reading) (f : List ℕ → Reading) {s m : List ℕ} → next r f ≡ done s m → Then r f m
unfolding next
next-done (refused n p) f e = refused-done e
next-done (done s₁ m₁) f e = let q = prefixed-done s₁ (f m₁) e in record { first = s₁; between = m₁; second = q.0; before = refl; after = q.1 }

-- OFFSETS

onward-need : (c : Bool) (n p : ℕ) (x : Place) (h : Here) (inside : ℕ → Reader) {s m : List ℕ} → onward (need c (lost n p) x) h inside ≡ done s m → (c ≡ true) × (onward x h inside ≡ done s m)
unfolding need onward
onward-need true n p x h inside e = (refl, e)
onward-need false n p x h inside e = refused-done e

-- the offset at `at` leads to a word n that lies in the group, with n times w bytes more, and from there it goes on
pub record Leads (w : ℕ) (inside : ℕ → Reader) (h : Here) (at : ℕ) (s m : List ℕ) : Type 0 where
  pub occupied : List ℕ
  pub whole : target h.bytes at + (4 + count_at h.bytes at * w) ≤ length h.bytes
  pub is : inside (count_at h.bytes at) h (target h.bytes at) occupied ≡ done s m

pub indirect-done : (past w : ℕ) (inside : ℕ → Reader) (h : Here) (at : ℕ) (m : List ℕ) {s m' : List ℕ} → indirect_r past w inside h at m ≡ done s m' → Leads w inside h at s m'
unfolding indirect_r locate onward
indirect-done past w inside h at m e =
    let q₁ = onward-need _ _ _ _ h inside e in
    let q₂ = onward-need _ _ _ _ h inside q₁.1 in
    let q₃ = onward-need _ _ _ _ h inside q₂.1 in
    let q₄ = onward-need _ _ _ _ h inside q₃.1 in
    record { occupied = occupy (target h.bytes at) (4 + count_at h.bytes at * w) m; whole = leb-true _ _ q₃.0; is = q₄.1 }
