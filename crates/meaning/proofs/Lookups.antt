-- What the lookups in a schema find: the group that an id names, and the groups below another.
use mathlib.Core.Path.{◌≡◌, refl}
use mathlib.Core.Bool.{Bool, true, false, cond, ◌&&◌, and-eq-true_iff}
use mathlib.Core.List.{List, [], ◌∷◌}
use Prim.Native.Nat.{ℕ, zero, suc, ◌-◌, ◌≤◌, ◌<◌}
use native.Mathlib.Omega.{arith}
use lib.ListN.{length, take, drop}
use lib.Dec.{ltb, eqb}
use borrow.Author.Tests.{lt-ltb, eq-eqb, ltb-true, ltb-false, eqb-true}
use Rattle.schema.specs.Schema.{Group, super_of, under, allows, find, known}
use Rattle.meaning.specs.Conforms.{Names, here, there, Below, itself, higher, Allowed}
use Rattle.meaning.specs.Proper.{Proper}
use Rattle.message.proofs.Tests.{true-false, or_right, or_cases}

-- BELOW

under-below : (gs : List Group) (n a g : ℕ) → under gs n a g ≡ true → Below gs a g
unfolding under
under-below gs zero a g e = rw (eqb-true a g e) itself
under-below gs (suc n) a g e = or_cases _ _ (λ x. rw (eqb-true a g x) itself) (λ x.
    let y = (and-eq-true_iff _ _).0 x in
    let l : 0 < super_of gs g = ltb-true 0 (super_of gs g) y.0 in
    higher {s = super_of gs g - 1} (omega arith) (under-below gs n a (super_of gs g - 1) y.1)) e

below-under : (gs : List Group) → ((g : ℕ) → super_of gs g ≤ g) → (n a : ℕ) {g : ℕ} → g ≤ n → Below gs a g → under gs n a g ≡ true
unfolding under
below-under gs r zero a l itself = eq-eqb a a refl
below-under gs r zero a {g} l (higher e b) = absurd (omega (arith, r g))
below-under gs r (suc n) a l itself = rw (eq-eqb a a refl)
below-under gs r (suc n) a {g} l (higher {s = s} e b) =
    let p : super_of gs g - 1 ≡ s = omega arith in
    let up : under gs n a (super_of gs g - 1) ≡ true = rw p (below-under gs r n a (omega (arith, r g)) b) in
    or_right (eqb a g) _ (rw (lt-ltb 0 (super_of gs g) (omega arith)) up)

pub allows-allowed : (gs : List Group) (n g : ℕ) → allows gs n g ≡ true → Allowed gs n g
unfolding allows
allows-allowed gs zero g e = tt
allows-allowed gs (suc a) g e = under-below gs g a g e

pub allowed-allows : (gs : List Group) → Proper gs → (n g : ℕ) → Allowed gs n g → allows gs n g ≡ true
unfolding allows
allowed-allows gs t zero g x = refl
allowed-allows gs t (suc a) g x = below-under gs t.falls g a (omega arith) x

-- NAMES

names-cond : (g : Group) (gs : List Group) (id n : ℕ) (c : Bool) → (g.has_id && eqb g.id id) ≡ c → (n < length gs → Names gs n id) → cond c 0 (suc n) < suc (length gs) → Names (g ∷ gs) (cond c 0 (suc n)) id
names-cond g gs id n true e f l = let x = (and-eq-true_iff _ _).0 e in here x.0 (eqb-true _ _ x.1)
names-cond g gs id n false e f l = there (f (omega arith))

find-names : (gs : List Group) (id : ℕ) → find gs id < length gs → Names gs (find gs id) id
unfolding find
find-names [] id l = absurd (omega arith)
find-names (g ∷ gs) id l = names-cond g gs id (find gs id) _ refl (λ k. find-names gs id k) l

pub known-names : (gs : List Group) (id : ℕ) → known gs id ≡ true → Names gs (find gs id) id
unfolding known
known-names gs id e = find-names gs id (ltb-true _ _ e)

cond-less : (c : Bool) (n k : ℕ) → n < k → cond c 0 (suc n) < suc k
cond-less true n k l = omega arith
cond-less false n k l = omega arith

names-find : {gs : List Group} {g id : ℕ} → Names gs g id → find gs id < length gs
unfolding find
names-find (here {g = g} {gs = gs} {id = id} h e) =
    let q = (and-eq-true_iff g.has_id (eqb g.id id)).1 (h, eq-eqb _ _ e) in rw q (omega arith)
names-find (there {g = g} {gs = gs} {id = id} x) = cond-less (g.has_id && eqb g.id id) (find gs id) (length gs) (names-find x)

pub names-known : {gs : List Group} {g id : ℕ} → Names gs g id → known gs id ≡ true
unfolding known
names-known x = lt-ltb _ _ (names-find x)

-- AN ID NAMES ONE GROUP

record Stands (gs : List Group) (g id : ℕ) : Type 0 where
  it : Group
  rest : List Group
  is : drop g gs ≡ it ∷ rest
  has : it.has_id ≡ true
  named : it.id ≡ id

names-stands : {gs : List Group} {g id : ℕ} → Names gs g id → Stands gs g id
names-stands (here {g = g} {gs = gs} h e) = record { it = g; rest = gs; is = refl; has = h; named = e }
names-stands (there x) = let s = names-stands x in record { it = s.it; rest = s.rest; is = s.is; has = s.has; named = s.named }

names-take : {gs : List Group} {g id : ℕ} (k : ℕ) → g < k → Names gs g id → Names (take k gs) g id
names-take zero l x = absurd (omega arith)
names-take (suc k) l (here h e) = here h e
names-take (suc k) l (there x) = there (names-take k (omega arith) x)

module _ (gs : List Group) (proper : Proper gs) where
  not-before : (g k id : ℕ) → g < k → Names gs g id → Names gs k id → ⊥
  not-before g k id l x y =
      let s = names-stands y in
      true-false (known (take k gs) id) (names-known (names-take k l x)) (rw s.named at (proper.fresh k s.it s.rest s.is s.has))

  pub names-once : (g k id : ℕ) → Names gs g id → Names gs k id → g ≡ k
  names-once g k id x y = go (ltb g k) (ltb k g) refl refl
    where
      go : (c d : Bool) → ltb g k ≡ c → ltb k g ≡ d → g ≡ k
      go true d e f = absurd (not-before g k id (ltb-true _ _ e) x y)
      go false true e f = absurd (not-before k g id (ltb-true _ _ f) y x)
      go false false e f = omega (arith, ltb-false g k e, ltb-false k g f)
