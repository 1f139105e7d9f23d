-- A reading that is judged: refused where a statement fails, or done where it holds. So both directions are shown in one walk.
-- At each test one says why the statement gives it, and keeps what the test shows.
use mathlib.Core.Path.{◌≡◌, refl}
use mathlib.Core.Bool.{Bool, true, false, cond, and-eq-true_iff}
use mathlib.Core.List.{List}
use Prim.Native.Nat.{ℕ, ◌+◌, ◌*◌, ◌≤◌, ◌<◌}
use native.Mathlib.Omega.{arith}
use lib.ListN.{length}
use borrow.Author.Tests.{lt-ltb, le-leb, leb-true, ltb-true}
use Rattle.schema.specs.Faults.{need}
use Rattle.message.specs.Occupancy.{free, occupy}
use Rattle.message.specs.Walk.{Here, Reading, refused, done, Reader, word, prefixed, next, in_area, Place, lost, found, locate, onward, indirect_r}
use Rattle.message.proofs.Tests.{true-false}

-- M: the occupancy that a reading leaves.
pub data Judged (P : Type 0) (M : List ℕ) : Reading → Type 0 where
  wrong : {n p : ℕ} → (P → ⊥) → Judged P M (refused n p)
  right : {s : List ℕ} → P → Judged P M (done s M)

module _ {P : Type 0} {M : List ℕ} where
  pub judge-need : (c : Bool) (n p : ℕ) {k : Reading} → (P → c ≡ true) → (c ≡ true → Judged P M k) → Judged P M (need c (refused n p) k)
  unfolding need
  judge-need true n p t f = f refl
  judge-need false n p t f = wrong (λ x. true-false _ (t x) refl)

  pub judge-cond : (c : Bool) {x y : Reading} → (c ≡ true → Judged P M x) → (c ≡ false → Judged P M y) → Judged P M (cond c x y)
  judge-cond true f g = f refl
  judge-cond false f g = g refl

  pub judge-prefixed : (s : List ℕ) {r : Reading} → Judged P M r → Judged P M (prefixed s r)
  unfolding prefixed
  judge-prefixed s (wrong x) = wrong x
  judge-prefixed s (right x) = right x

  pub judge-next : {P₁ : Type 0} {M₁ : List ℕ} {r : Reading} (f : List ℕ → Reading) → Judged P₁ M₁ r → (P → P₁) → (P₁ → Judged P M (f M₁)) → Judged P M (next r f)
  unfolding next
  judge-next f (wrong x) t g = wrong (λ y. x (t y))
  judge-next f (right {s = s} x) t g = judge-prefixed s (g x)

  pub judge-iff : {P₁ : Type 0} {r : Reading} → (P₁ → P) → (P → P₁) → Judged P₁ M r → Judged P M r
  judge-iff f g (wrong x) = wrong (λ y. x (g y))
  judge-iff f g (right x) = right (f x)

  judge-onward : (c : Bool) (n p : ℕ) (x : Place) (h : Here) (inside : ℕ → Reader) → (P → c ≡ true) → (c ≡ true → Judged P M (onward x h inside))
      → Judged P M (onward (need c (lost n p) x) h inside)
  unfolding need onward
  judge-onward true n p x h inside t f = f refl
  judge-onward false n p x h inside t f = wrong (λ x. true-false _ (t x) refl)

  judge-found : (h : Here) (inside : ℕ → Reader) (p n : ℕ) (m : List ℕ) → Judged P M (inside n h p m) → Judged P M (onward (found p n m) h inside)
  unfolding onward
  judge-found h inside p n m x = x

pub in-area : (h : Here) (p : ℕ) → h.area ≤ p → p < length h.bytes → in_area h p ≡ true
unfolding in_area
in-area h p x y = rw (le-leb _ _ x, lt-ltb _ _ y)

pub area_in : (h : Here) (p : ℕ) → in_area h p ≡ true → (h.area ≤ p) × (p < length h.bytes)
unfolding in_area
area_in h p t = let x = (and-eq-true_iff _ _).0 t in (leb-true _ _ x.0, ltb-true _ _ x.1)

-- where an offset leads: at p stands the word n, and k bytes follow it
module _ {P : Type 0} {M : List ℕ} where
  pub judge-indirect : (past w : ℕ) (inside : ℕ → Reader) (h : Here) (at : ℕ) (m : List ℕ) (p n k : ℕ)
      → p ≡ at + word at h.bytes → n ≡ word p h.bytes → n * w ≡ k
      → (P → h.area ≤ p) → (P → p < length h.bytes) → (P → p + (4 + k) ≤ length h.bytes) → (P → free p (4 + k) m ≡ true)
      → (h.area ≤ p → p < length h.bytes → p + (4 + k) ≤ length h.bytes → free p (4 + k) m ≡ true → Judged P M (inside n h p (occupy p (4 + k) m)))
      → Judged P M (indirect_r past w inside h at m)
  unfolding indirect_r locate
  judge-indirect past w inside h at m p n k ep en ek a e l f c =
      rw (← ep, ← en, ek) (judge-onward _ 5 _ _ h inside (λ x. in-area h p (a x) (e x)) (λ t₁.
      judge-onward _ 26 _ _ h inside (λ x. le-leb (p + 4) (length h.bytes) (omega (arith, l x))) (λ t₂.
      judge-onward _ past _ _ h inside (λ x. le-leb _ _ (l x)) (λ t₃.
      judge-onward _ 27 _ _ h inside f (λ t₄. judge-found h inside p n _ (c (area_in h p t₁).0 (area_in h p t₁).1 (leb-true _ _ t₃) t₄))))))
