-- What holds of a reading, if it is one. A fact is carried through the walk by a term of the walk's own shape: no result is inverted, no test split.
use mathlib.Core.Path.{◌≡◌, refl, ◌∙◌}
use mathlib.Core.Bool.{Bool, true, false, cond, and-eq-true_iff}
use mathlib.Core.List.{List, [], ◌++◌}
use Prim.Native.Nat.{ℕ, ◌+◌, ◌*◌, ◌≤◌}
use native.Mathlib.Omega.{arith}
use lib.ListN.{length}
use borrow.Author.Tests.{leb-true}
use Rattle.schema.specs.Faults.{need}
use Rattle.message.specs.Occupancy.{free, occupy}
use Rattle.message.specs.Walk.{Here, Reading, refused, done, Reader, word, prefixed, next, in_area, Place, lost, found, locate, onward, indirect_r, padded}
use Rattle.meaning.proofs.Occupying.{occupy-length}

pub data Sat (Q : List ℕ → List ℕ → Type 0) : Reading → Type 0 where
  unsaid : {n p : ℕ} → Sat Q (refused n p)
  said : {s m : List ℕ} → Q s m → Sat Q (done s m)

pub sat-is : {Q : List ℕ → List ℕ → Type 0} {s m : List ℕ} → Sat Q (done s m) → Q s m
sat-is (said q) = q

module _ {Q : List ℕ → List ℕ → Type 0} where
  pub sat-all : ((s m : List ℕ) → Q s m) → (r : Reading) → Sat Q r
  sat-all f (refused n p) = unsaid
  sat-all f (done s m) = said (f s m)

  pub sat-need : (c : Bool) (n p : ℕ) {k : Reading} → (c ≡ true → Sat Q k) → Sat Q (need c (refused n p) k)
  unfolding need
  sat-need true n p f = f refl
  sat-need false n p f = unsaid

  pub sat-cond : (c : Bool) {x y : Reading} → (c ≡ true → Sat Q x) → (c ≡ false → Sat Q y) → Sat Q (cond c x y)
  sat-cond true f g = f refl
  sat-cond false f g = g refl

  pub sat-prefixed : (s : List ℕ) {r : Reading} → Sat (λ t m. Q (s ++ t) m) r → Sat Q (prefixed s r)
  unfolding prefixed
  sat-prefixed s unsaid = unsaid
  sat-prefixed s (said q) = said q

  pub sat-next : {r : Reading} {f : List ℕ → Reading} → Sat (λ s m. Sat (λ t m'. Q (s ++ t) m') (f m)) r → Sat Q (next r f)
  unfolding next
  sat-next unsaid = unsaid
  sat-next (said {s = s} q) = sat-prefixed s q

  pub sat-map : {P : List ℕ → List ℕ → Type 0} {r : Reading} → ((s m : List ℕ) → P s m → Q s m) → Sat P r → Sat Q r
  sat-map f unsaid = unsaid
  sat-map f (said {s = s} {m = m} q) = said (f s m q)

  pub sat-padded : (h : Here) {r : Reading} → Sat (λ s m. Q s []) r → Sat Q (padded h r)
  unfolding padded
  sat-padded h unsaid = unsaid
  sat-padded h (said q) = sat-need _ 6 _ (λ _. said q)

-- WHERE AN OFFSET LEADS

data SatP (Q : ℕ → ℕ → List ℕ → Type 0) : Place → Type 0 where
  unsaid_p : {n p : ℕ} → SatP Q (lost n p)
  said_p : {p n : ℕ} {m : List ℕ} → Q p n m → SatP Q (found p n m)

satp-need : {Q : ℕ → ℕ → List ℕ → Type 0} (c : Bool) (n p : ℕ) {x : Place} → (c ≡ true → SatP Q x) → SatP Q (need c (lost n p) x)
unfolding need
satp-need true n p f = f refl
satp-need false n p f = unsaid_p

sat-onward : {Q : List ℕ → List ℕ → Type 0} {x : Place} (h : Here) (inside : ℕ → Reader) → SatP (λ p n m. Sat Q (inside n h p m)) x → Sat Q (onward x h inside)
unfolding onward
sat-onward h inside unsaid_p = unsaid
sat-onward h inside (said_p q) = q

-- the value at p is whole, was free, and is taken
pub record Lies (h : Here) (m : List ℕ) (p n : ℕ) : Type 0 where
  pub behind : h.area ≤ p
  pub whole : p + n ≤ length h.bytes
  pub clear : free p n m ≡ true
  pub same : length (occupy p n m) ≡ length h.bytes

pub sat-indirect : {Q : List ℕ → List ℕ → Type 0} (past w : ℕ) (inside : ℕ → Reader) (h : Here) (at : ℕ) (m : List ℕ) → length m ≡ length h.bytes
    → ((p : ℕ) → Lies h m p (4 + word p h.bytes * w) → Sat Q (inside (word p h.bytes) h p (occupy p (4 + word p h.bytes * w) m)))
    → Sat Q (indirect_r past w inside h at m)
unfolding indirect_r locate in_area
sat-indirect past w inside h at m e f =
    let p : ℕ = at + word at h.bytes in
    let n : ℕ = 4 + word p h.bytes * w in
    sat-onward h inside (satp-need _ 5 _ (λ t₁. satp-need _ 26 _ (λ t₂. satp-need _ past _ (λ t₃. satp-need _ 27 _ (λ t₄.
    let l : p + n ≤ length h.bytes = leb-true _ _ t₃ in
    said_p (f p (record { behind = leb-true _ _ ((and-eq-true_iff _ _).0 t₁).0; whole = l; clear = t₄; same = occupy-length p n m (omega (arith, l, e)) ∙ e })))))))
