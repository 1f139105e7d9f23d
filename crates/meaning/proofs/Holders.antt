-- How many extents hold a byte: what joins an occupancy, which is made in turn, with "share no byte" and with pad bytes, which know no order.
use mathlib.Core.Path.{◌≡◌, refl, ◌∙◌}
use mathlib.Core.Bool.{Bool, true, false, cond, ◌&&◌, and-eq-true_iff}
use mathlib.Core.List.{List, [], ◌∷◌, ◌++◌}
use Prim.Native.Nat.{ℕ, zero, suc, ◌+◌, ◌-◌, ◌≤◌, ◌<◌}
use native.Mathlib.Omega.{arith}
use lib.ListN.{length, take, drop, get_or, replicate, length-take, length-replicate, get_or-replicate, get_or-append}
use lib.Seq.{get_or-append-add, get_or-take, get_or-drop, length-take-le}
use lib.Dec.{leb, ltb, eqb}
use borrow.Author.Tests.{eq-eqb, lt-ltb, le-ltb, le-leb, lt-leb, ltb-true, ltb-false, eqb-true}
use Rattle.message.specs.Occupancy.{free, occupy, pads_zero}
use Rattle.meaning.specs.Conforms.{Extent, Holds, DisjointAll, Apart, Pad}
use Rattle.meaning.proofs.Occupying.{occupy-length}
use Rattle.meaning.proofs.Extents.{zero-part, part-zero, occupied, Clear}

-- HOW MANY HOLD A BYTE

held : ℕ → Extent → ℕ
held i e = cond (leb e.from i && ltb i (e.from + e.long)) 1 0

pub holders : ℕ → List Extent → ℕ
holders i [] = 0
holders i (e ∷ es) = held i e + holders i es

-- byte i stands under, inside or over the n bytes from p on
data Where (i p n : ℕ) : Type 0 where
  under : i < p → Where i p n
  inside : p ≤ i → i < p + n → Where i p n
  over : p + n ≤ i → Where i p n

side : (i p n : ℕ) → Where i p n
side i p n = go (ltb i p) (ltb i (p + n)) refl refl
  where
    go : (c d : Bool) → ltb i p ≡ c → ltb i (p + n) ≡ d → Where i p n
    go true d e f = under (ltb-true _ _ e)
    go false true e f = inside (ltb-false _ _ e) (ltb-true _ _ f)
    go false false e f = over (ltb-false _ _ f)

module _ (p n : ℕ) (m : List ℕ) (l : p + n ≤ length m) (i : ℕ) where
  occupy-under : i < p → get_or (occupy p n m) i 0 ≡ get_or m i 0
  unfolding occupy
  occupy-under h = get_or-append (take p m) (replicate n 1 ++ drop n (drop p m)) 0 i (simp length-take (omega arith)) ∙ get_or-take p m i 0 h

  behind : (j : ℕ) → i ≡ p + j → get_or (occupy p n m) i 0 ≡ get_or (replicate n 1 ++ drop n (drop p m)) j 0
  unfolding occupy
  behind j e =
      let k : length (take p m) ≡ p = length-take-le p m (omega arith) in
      let q : i ≡ length (take p m) + j = omega arith in
      rw q (get_or-append-add (take p m) (replicate n 1 ++ drop n (drop p m)) j 0)

  occupy-inside : p ≤ i → i < p + n → get_or (occupy p n m) i 0 ≡ 1
  occupy-inside a h =
      let j : ℕ = i - p in
      behind j (omega arith) ∙ get_or-append (replicate n 1) (drop n (drop p m)) 0 j (rw (length-replicate {A = ℕ} n 1) (omega arith)) ∙ get_or-replicate n j 1 0 (omega arith)

  occupy-over : p + n ≤ i → get_or (occupy p n m) i 0 ≡ get_or m i 0
  occupy-over a =
      let j : ℕ = i - (p + n) in
      let k = length-replicate {A = ℕ} n 1 in
      let q : n + j ≡ length (replicate {A = ℕ} n 1) + j = omega arith in
      let r : p + (n + j) ≡ i = omega arith in
      behind (n + j) (omega arith) ∙ rw (q, get_or-append-add {A = ℕ} (replicate n 1) (drop n (drop p m)) j 0, get_or-drop n (drop p m) j 0, get_or-drop p m (n + j) 0, r)

held_in : (e : Extent) (i : ℕ) → e.from ≤ i → i < e.from + e.long → held i e ≡ 1
unfolding held
held_in e i a h = rw (le-leb _ _ a, lt-ltb _ _ h)

held-under : (e : Extent) (i : ℕ) → i < e.from → held i e ≡ 0
unfolding held
held-under e i a = rw (lt-leb _ _ a)

held-over : (e : Extent) (i : ℕ) → e.from + e.long ≤ i → held i e ≡ 0
unfolding held
held-over e i a = let k : e.from ≤ i = omega arith in rw (le-leb _ _ k, le-ltb _ _ a)

-- a pad byte is held by none
pub pad-none : (i : ℕ) (es : List Extent) → Pad i es → holders i es ≡ 0
unfolding holders
pad-none i [] p = refl
pad-none i (e ∷ es) p = go (pad-none i es p.1) (side i e.from e.long)
  where
    go : holders i es ≡ 0 → Where i e.from e.long → held i e + holders i es ≡ 0
    go r (under h) = omega (arith, held-under e i h, r)
    go r (inside a h) = absurd (p.0 (record { starts = a; ends = h }))
    go r (over h) = omega (arith, held-over e i h, r)

pub none-pad : (i : ℕ) (es : List Extent) → holders i es ≡ 0 → Pad i es
unfolding holders
none-pad i [] p = tt
none-pad i (e ∷ es) p = (λ x. omega (arith, held_in e i x.starts x.ends), none-pad i es (omega arith))

-- MARKS COUNT THE HOLDERS

abbrev pub Bits : List ℕ → Type 0
Bits m = (i : ℕ) → get_or m i 0 ≤ 1

abbrev pub Fits : List Extent → ℕ → Type 0
Fits [] n = Unit
Fits (e ∷ es) n = (e.from + e.long ≤ n) × Fits es n

module _ (e : Extent) (m : List ℕ) (l : e.from + e.long ≤ length m) where
  occupy-bits : Bits m → Bits (occupy e.from e.long m)
  occupy-bits f i = go (side i e.from e.long)
    where
      go : Where i e.from e.long → get_or (occupy e.from e.long m) i 0 ≤ 1
      go (under h) = omega (arith, f i, occupy-under e.from e.long m l i h)
      go (inside a h) = omega (arith, occupy-inside e.from e.long m l i a h)
      go (over h) = omega (arith, f i, occupy-over e.from e.long m l i h)

  -- an extent that is free: marking it adds it
  occupy-held : free e.from e.long m ≡ true → (i : ℕ) → get_or (occupy e.from e.long m) i 0 ≡ get_or m i 0 + held i e
  unfolding free
  occupy-held f i = go (side i e.from e.long)
    where
      go : Where i e.from e.long → get_or (occupy e.from e.long m) i 0 ≡ get_or m i 0 + held i e
      go (under h) = omega (arith, held-under e i h, occupy-under e.from e.long m l i h)
      go (inside a h) = omega (arith, held_in e i a h, occupy-inside e.from e.long m l i a h, zero-part m e.from e.long f i a h)
      go (over h) = omega (arith, held-over e i h, occupy-over e.from e.long m l i h)

  fits_on : (es : List Extent) → Fits es (length m) → Fits es (length (occupy e.from e.long m))
  fits_on es f = rw (occupy-length e.from e.long m l) f

pub occupied-get : (es : List Extent) (m : List ℕ) → Fits es (length m) → Clear es m → (i : ℕ) → get_or (occupied es m) i 0 ≡ get_or m i 0 + holders i es
unfolding occupied holders
occupied-get [] m f c i = omega arith
occupied-get (e ∷ es) m f c i = omega (arith, occupy-held e m f.0 c.0 i, occupied-get es (occupy e.from e.long m) (fits_on e m f.0 es f.1) c.1 i)

pub occupied-length : (es : List Extent) (m : List ℕ) → Fits es (length m) → length (occupied es m) ≡ length m
unfolding occupied
occupied-length [] m f = refl
occupied-length (e ∷ es) m f = occupied-length es (occupy e.from e.long m) (fits_on e m f.0 es f.1) ∙ occupy-length e.from e.long m f.0

pub clear_apart : (es : List Extent) (m : List ℕ) → Fits es (length m) → Bits m → Clear es m → (i : ℕ) → get_or m i 0 + holders i es ≤ 1
unfolding holders
clear_apart [] m f b c i = omega (arith, b i)
clear_apart (e ∷ es) m f b c i = omega (
  arith,
  occupy-held e m f.0 c.0 i,
  clear_apart es (occupy e.from e.long m) (fits_on e m f.0 es f.1) (occupy-bits e m f.0 b) c.1 i,
)

pub apart-clear : (es : List Extent) (m : List ℕ) → Fits es (length m) → ((i : ℕ) → get_or m i 0 + holders i es ≤ 1) → Clear es m
unfolding holders free
apart-clear [] m f a = tt
apart-clear (e ∷ es) m f a =
    let z : free e.from e.long m ≡ true = part-zero m e.from e.long (λ i l h. omega (arith, a i, held_in e i l h)) in
    (z, apart-clear es (occupy e.from e.long m) (fits_on e m f.0 es f.1) (λ i. omega (arith, a i, occupy-held e m f.0 z i)))

-- extents are apart where no byte is held twice

disjoint-all : (e : Extent) (es : List Extent) → ((i : ℕ) → held i e + holders i es ≤ 1) → DisjointAll e es
unfolding holders
disjoint-all e [] a = tt
disjoint-all e (f ∷ fs) a = (λ i x y. omega (arith, a i, held_in e i x.starts x.ends, held_in f i y.starts y.ends), disjoint-all e fs (λ i. omega (arith, a i)))

all-disjoint : (e : Extent) (es : List Extent) → DisjointAll e es → (i : ℕ) → Holds i e → Pad i es
all-disjoint e [] d i x = tt
all-disjoint e (f ∷ fs) d i x = (λ y. d.0 i x y, all-disjoint e fs d.1 i x)

pub once-apart : (es : List Extent) → ((i : ℕ) → holders i es ≤ 1) → Apart es
unfolding holders
once-apart [] a = tt
once-apart (e ∷ es) a = (disjoint-all e es a, once-apart es (λ i. omega (arith, a i)))

pub apart-once : (es : List Extent) → Apart es → (i : ℕ) → holders i es ≤ 1
unfolding holders
apart-once [] a i = omega arith
apart-once (e ∷ es) a i = go (apart-once es a.1 i) (side i e.from e.long)
  where
    go : holders i es ≤ 1 → Where i e.from e.long → held i e + holders i es ≤ 1
    go r (under h) = omega (arith, held-under e i h, r)
    go r (inside b h) = omega (arith, held_in e i b h, pad-none i es (all-disjoint e es a.0 i (record { starts = b; ends = h })))
    go r (over h) = omega (arith, held-over e i h, r)

-- PADS

pub pads-get : (x y : List ℕ) → pads_zero x y ≡ true → (i : ℕ) → i < length x → get_or x i 0 ≡ 0 → get_or y i 0 ≡ 0
unfolding pads_zero
pads-get [] y e i l z = absurd (omega arith)
pads-get (x ∷ xs) [] e i l z = refl
pads-get (zero ∷ xs) (y ∷ ys) e zero l z = eqb-true _ _ ((and-eq-true_iff _ _).0 e).0
pads-get (zero ∷ xs) (y ∷ ys) e (suc i) l z = pads-get xs ys ((and-eq-true_iff (eqb y 0) _).0 e).1 i (omega arith) z
pads-get (suc x ∷ xs) (y ∷ ys) e zero l z = absurd (omega arith)
pads-get (suc x ∷ xs) (y ∷ ys) e (suc i) l z = pads-get xs ys e i (omega arith) z

pub get-pads : (x y : List ℕ) → ((i : ℕ) → i < length x → get_or x i 0 ≡ 0 → get_or y i 0 ≡ 0) → pads_zero x y ≡ true
unfolding pads_zero
get-pads [] y f = refl
get-pads (x ∷ xs) [] f = refl
get-pads (zero ∷ xs) (y ∷ ys) f = rw (eq-eqb y 0 (f 0 (omega arith) refl)) (get-pads xs ys (λ i l z. f (suc i) (omega arith) z))
get-pads (suc x ∷ xs) (y ∷ ys) f = get-pads xs ys (λ i l z. f (suc i) (omega arith) z)

pub zeros-get : (n i : ℕ) → get_or {A = ℕ} (replicate n 0) i 0 ≡ 0
zeros-get zero i = refl
zeros-get (suc n) zero = refl
zeros-get (suc n) (suc i) = zeros-get n i
