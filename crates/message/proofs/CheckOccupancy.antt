-- Occupancy that is kept as a number: what is taken from the data area's start on, and what the scratch adds to it.
use Rattle.std.proofs.Common.{◌≡◌, ℕ, zero, suc, ◌+◌, ◌-◌, ◌<◌, ◌≤◌, min, max, Bool, true, false, cond, ◌&&◌, eqb, ltb, leb, List, [], ◌∷◌, ◌++◌, length, get_or, take, drop, replicate, sym, refl, ap, ◌∙◌, append_assoc, mod-eq_of_lt, arith, length-append, length-drop, drop_of_length-le, length-take, get_or-drop, take_all, get_or-take, drop-drop, take_at, get_or-append-add, ext_get_or, drop_at, ltb-false, ltb-true, eqb-true, le-leb, leb-false, leb-true}
use lib.ListN.{length-replicate, get_or-append, get_or-replicate, replicate-append-replicate}
use borrow.Author.Tests.{lt-leb}
use Rattle.wire.specs.Bytes.{part, splice, all_zero}
use Rattle.wire.proofs.Laws.{drop_more, splice-append, splice-nil, length-splice}
use Rattle.schema.proofs.Depth.{and_both}
use Rattle.message.specs.Occupancy.{free, occupy, pads_zero}
use Rattle.message.specs.Check.{packed, scattered, occupancy_of}

-- what stands in a place does not matter once it is written over
pub splice-over : (n p : ℕ) (xs ys s : List ℕ) → length xs ≡ n → p + n ≤ length s → splice n p ys (splice n p xs s) ≡ splice n p ys s
splice-over n p xs ys s h l =
    let front : length (take p s) ≡ p = simp length-take (omega arith) in
    let both : length (take p s ++ xs) ≡ p + n = simp (length-append, length-take) (omega (arith, h)) in
    let left : take p (splice n p xs s) ≡ take p s = take_at (take p s) (xs ++ drop n (drop p s)) p front in
    let right : drop n (drop p (splice n p xs s)) ≡ drop n (drop p s)
    = drop-drop n p (splice n p xs s) ∙ ap (drop (p + n)) (sym (append_assoc (take p s) xs (drop n (drop p s)))) ∙ drop_at (take p s ++ xs) (drop n (drop p s)) (p + n) both in
    rw (left, right)

-- what a splice left behind it
drop-behind : (n p q : ℕ) (ys s : List ℕ) → p + n ≤ q → p + n ≤ length s → length ys ≡ n → drop q (splice n p ys s) ≡ drop q s
drop-behind n p q ys s h l e =
    let k : q ≡ p + n + (q - (p + n)) = omega arith in
    let front : length (take p s ++ ys) ≡ p + n = simp (length-append, length-take) (omega (arith, e)) in
    let tail : drop (p + n) (splice n p ys s) ≡ drop (p + n) s = ap (drop (p + n)) (sym (append_assoc (take p s) ys (drop n (drop p s)))) ∙ drop_at (take p s ++ ys) (drop n (drop p s)) (p + n) front ∙ drop-drop n p s in
    ap (λ (j : ℕ). drop j (splice n p ys s)) k ∙ sym (drop-drop (q - (p + n)) (p + n) (splice n p ys s)) ∙ ap (drop (q - (p + n))) tail ∙ drop-drop (q - (p + n)) (p + n) s ∙ ap (λ (j : ℕ). drop j s) (sym k)

-- MARKS

module _ (p n : ℕ) (m : List ℕ) (l : p + n ≤ length m) where
  pub length-occupied : length (occupy p n m) ≡ length m
  unfolding occupy
  length-occupied = length-splice n p (replicate n 1) m l (length-replicate n 1)

  drop-occupied : (q : ℕ) → p + n ≤ q → drop q (occupy p n m) ≡ drop q m
  unfolding occupy
  drop-occupied q h = drop-behind n p q (replicate n 1) m h l (length-replicate n 1)

  pub occupy-twice : occupy p n (occupy p n m) ≡ occupy p n m
  unfolding occupy
  occupy-twice = splice-over n p (replicate n 1) (replicate n 1) m (length-replicate n 1) l

  -- each byte of an occupied list
  get-before : (i : ℕ) → i < p → get_or (occupy p n m) i 0 ≡ get_or m i 0
  unfolding occupy
  get-before i h = let f : length (take p m) ≡ p = simp length-take (omega arith) in
      get_or-append (take p m) (replicate n 1 ++ drop n (drop p m)) 0 i (omega (arith, f)) ∙ get_or-take p m i 0 h

  get-inside : (i : ℕ) → p ≤ i → i < p + n → get_or (occupy p n m) i 0 ≡ 1
  unfolding occupy
  get-inside i h g = let f : length (take p m) ≡ p = simp length-take (omega arith) in
      let k : i ≡ length (take p m) + (i - p) = omega (arith, f) in
      ap (λ (j : ℕ). get_or (take p m ++ (replicate n 1 ++ drop n (drop p m))) j 0) k
      ∙ get_or-append-add (take p m) (replicate n 1 ++ drop n (drop p m)) (i - p) 0
      ∙ get_or-append (replicate n 1) (drop n (drop p m)) 0 (i - p) (let q : length {A = ℕ} (replicate n 1) ≡ n = length-replicate n 1 in omega (arith, q))
      ∙ get_or-replicate n (i - p) 1 0 (omega arith)

  get-behind : (i : ℕ) → p + n ≤ i → get_or (occupy p n m) i 0 ≡ get_or m i 0
  get-behind i h =
      let e : i ≡ i + 0 = omega arith in
      ap (λ (j : ℕ). get_or (occupy p n m) j 0) e ∙ sym (get_or-drop i (occupy p n m) 0 0) ∙ ap (λ (s : List ℕ). get_or s 0 0) (drop-occupied i h) ∙ get_or-drop i m 0 0 ∙ ap (λ (j : ℕ). get_or m j 0) (sym e)

-- the order in which two values are taken does not matter
module _ (p n q k : ℕ) (m : List ℕ) (l : p + n ≤ length m) (g : q + k ≤ length m) where
  abbrev lp : length (occupy q k m) ≡ length m
  lp = length-occupied q k m g

  abbrev lq : length (occupy p n m) ≡ length m
  lq = length-occupied p n m l

  swapped : (i : ℕ) → get_or (occupy p n (occupy q k m)) i 0 ≡ get_or (occupy q k (occupy p n m)) i 0
  swapped i = go (leb p i) refl (ltb i (p + n)) refl (leb q i) refl (ltb i (q + k)) refl
    where
      outer : p + n ≤ length (occupy q k m)
      outer = omega (arith, lp)

      inner : q + k ≤ length (occupy p n m)
      inner = omega (arith, lq)

      -- inside either of them it is 1, and outside both it is m's
      here' : p ≤ i → i < p + n → get_or (occupy p n (occupy q k m)) i 0 ≡ get_or (occupy q k (occupy p n m)) i 0
      here' a b = get-inside p n (occupy q k m) outer i a b ∙ sym (one (leb q i) refl (ltb i (q + k)) refl)
        where
          one : (x : Bool) → leb q i ≡ x → (y : Bool) → ltb i (q + k) ≡ y → get_or (occupy q k (occupy p n m)) i 0 ≡ 1
          one true x true y = get-inside q k (occupy p n m) inner i (leb-true _ _ x) (ltb-true _ _ y)
          one true x false y = get-behind q k (occupy p n m) inner i (ltb-false _ _ y) ∙ get-inside p n m l i a b
          one false x y z = get-before q k (occupy p n m) inner i (leb-false _ _ x) ∙ get-inside p n m l i a b

      there : (get_or (occupy p n (occupy q k m)) i 0 ≡ get_or (occupy q k m) i 0) → (get_or (occupy p n m) i 0 ≡ get_or m i 0) → get_or (occupy p n (occupy q k m)) i 0 ≡ get_or (occupy q k (occupy p n m)) i 0
      there a b = a ∙ other (leb q i) refl (ltb i (q + k)) refl
        where
          other : (x : Bool) → leb q i ≡ x → (y : Bool) → ltb i (q + k) ≡ y → get_or (occupy q k m) i 0 ≡ get_or (occupy q k (occupy p n m)) i 0
          other true x true y = get-inside q k m g i (leb-true _ _ x) (ltb-true _ _ y) ∙ sym (get-inside q k (occupy p n m) inner i (leb-true _ _ x) (ltb-true _ _ y))
          other true x false y = get-behind q k m g i (ltb-false _ _ y) ∙ sym (get-behind q k (occupy p n m) inner i (ltb-false _ _ y) ∙ b)
          other false x y z = get-before q k m g i (leb-false _ _ x) ∙ sym (get-before q k (occupy p n m) inner i (leb-false _ _ x) ∙ b)

      go : (a : Bool) → leb p i ≡ a → (b : Bool) → ltb i (p + n) ≡ b → (c : Bool) → leb q i ≡ c → (d : Bool) → ltb i (q + k) ≡ d → get_or (occupy p n (occupy q k m)) i 0 ≡ get_or (occupy q k (occupy p n m)) i 0
      go true a true b c e d f = here' (leb-true _ _ a) (ltb-true _ _ b)
      go true a false b c e d f = there (get-behind p n (occupy q k m) outer i (ltb-false _ _ b)) (get-behind p n m l i (ltb-false _ _ b))
      go false a b e c f d h = there (get-before p n (occupy q k m) outer i (leb-false _ _ a)) (get-before p n m l i (leb-false _ _ a))

  pub occupy-swap : occupy p n (occupy q k m) ≡ occupy q k (occupy p n m)
  occupy-swap =
      ext_get_or 0 (occupy p n (occupy q k m)) (occupy q k (occupy p n m))
      (length-occupied p n (occupy q k m) (omega (arith, lp)) ∙ lp ∙ sym (length-occupied q k (occupy p n m) (omega (arith, lq)) ∙ lq)) (λ i h. swapped i)

-- one value straight behind another
occupy-run : (a p n : ℕ) (m : List ℕ) → a ≤ p → p + n ≤ length m → occupy p n (occupy a (p - a) m) ≡ occupy a (p + n - a) m
unfolding occupy
occupy-run a p n m h l =
    let e : a + (p - a) ≡ p = omega arith in
    let k : p - a + n ≡ p + n - a = omega arith in
    let s = splice-append (p - a) n a (replicate (p - a) 1) (replicate n 1) m (length-replicate (p - a) 1) (omega arith) in
    rw (e, replicate-append-replicate, k) at s

-- a byte that is taken is not free
taken-not-free : (a r p n : ℕ) (m : List ℕ) → a ≤ p → p < a + r → a + r ≤ length m → 1 ≤ n → free p n (occupy a r m) ≡ false
unfolding free all_zero
taken-not-free a r p n m h g l o =
    let k : n ≡ suc (n - 1) = omega arith in
    let q : p < length (occupy a r m) = omega (arith, length-occupied a r m l) in
    rw (k, drop_more (occupy a r m) p q, get-inside a r m l p h g)

free-behind : (a r p n : ℕ) (m : List ℕ) → a + r ≤ p → a + r ≤ length m → free p n (occupy a r m) ≡ all_zero (part n p m)
unfolding free
free-behind a r p n m h l = rw (drop-occupied a r m l p h)

-- ZEROS

zeros-drop : (p : ℕ) (s : List ℕ) → all_zero s ≡ true → all_zero (drop p s) ≡ true
unfolding all_zero
zeros-drop zero s h = h
zeros-drop (suc p) [] h = h
zeros-drop (suc p) (x ∷ s) h = zeros-drop p s (and_both (eqb x 0) (all_zero s) h).1

zeros-take : (n : ℕ) (s : List ℕ) → all_zero s ≡ true → all_zero (take n s) ≡ true
unfolding all_zero
zeros-take zero s h = refl
zeros-take (suc n) [] h = refl
zeros-take (suc n) (x ∷ s) h = let q = and_both (eqb x 0) (all_zero s) h in rw q.0 (zeros-take n s q.1)

zeros-all : (n : ℕ) → all_zero (replicate n 0) ≡ true
unfolding all_zero
zeros-all zero = refl
zeros-all (suc n) = zeros-all n

zeros-free : (n p k : ℕ) → all_zero (part k p (replicate n 0)) ≡ true
zeros-free n p k = zeros-take k (drop p (replicate n 0)) (zeros-drop p (replicate n 0) (zeros-all n))

-- WHAT IS TAKEN, AS A NUMBER

module _ (s : ℕ) (h : s < 131072) where
  pub packed-is : packed s ≡ s
  unfolding packed
  packed-is = mod-eq_of_lt h

  packed_more : packed (s + 131072) ≡ packed s
  unfolding packed
  packed_more = omega arith

  pub not-scattered : scattered s ≡ false
  unfolding scattered
  not-scattered = lt-leb 131072 s h

pub is-scattered : (s : ℕ) → 131072 ≤ s → scattered s ≡ true
unfolding scattered
is-scattered s h = le-leb 131072 s h

-- CLAIMS

abbrev under : ℕ → ℕ → List ℕ → List ℕ
under a s m = cond (scattered s) m (replicate (length m) 0)

under-length : (x : Bool) (m : List ℕ) → length (cond x m (replicate (length m) 0)) ≡ length m
under-length true m = refl
under-length false m = length-replicate (length m) 0

module _ (a : ℕ) (s : ℕ) (m : List ℕ) where
  abbrev run : ℕ
  run = min (packed s) (length m) - a

  is : occupancy_of a s m ≡ occupy a run (under a s m)
  unfolding occupancy_of
  is = refl

  module _ (p n : ℕ) (ap' : a ≤ p) (one : 1 ≤ n) (l : p + n ≤ length m) where
    u : length (under a s m) ≡ length m
    u = under-length (scattered s) m

    pub claim-taken : p < packed s → free p n (occupancy_of a s m) ≡ false
    unfolding occupancy_of
    claim-taken h = taken-not-free a run p n (under a s m) ap' (omega (arith, h)) (omega (arith, u)) one

    module _ (h : packed s ≤ p) where
      claim-behind : free p n (occupancy_of a s m) ≡ all_zero (part n p (under a s m))
      unfolding occupancy_of
      claim-behind = free-behind a run p n (under a s m) (omega (arith, h)) (omega (arith, u))

      pub claim-scattered : scattered s ≡ true → free p n (occupancy_of a s m) ≡ all_zero (part n p m)
      claim-scattered e = claim-behind ∙ rw e

      pub claim-packed : scattered s ≡ false → free p n (occupancy_of a s m) ≡ true
      claim-packed e = claim-behind ∙ rw e (zeros-free (length m) p n)

      -- the occupancy with the value taken: in the scratch, by the end of the packed ones, and in a scratch that was cleared
      claim-swap : occupy p n (occupancy_of a s m) ≡ occupy a run (occupy p n (under a s m))
      unfolding occupancy_of
      claim-swap = occupy-swap p n a run (under a s m) (omega (arith, u)) (omega (arith, u))

    pub claimed-packed : p ≡ s → s < 131072 → p + n < 131072 → occupy p n (occupancy_of a s m) ≡ occupancy_of a (p + n) m
    unfolding occupancy_of
    claimed-packed e f g =
        let x : min (packed s) (length m) ≡ p = omega (arith, packed-is s f) in
        let y : min (packed (p + n)) (length m) ≡ p + n = omega (arith, packed-is (p + n) g) in
        let z : length {A = ℕ} (replicate (length m) 0) ≡ length m = length-replicate (length m) 0 in
        rw (x, y, not-scattered s f, not-scattered (p + n) g) (occupy-run a p n (replicate (length m) 0) ap' (omega (arith, z, l)))

-- the scratch after a value was taken in it: as it was, or cleared before
pub claimed-scattered : (a : ℕ) (s : ℕ) (m m' : List ℕ) (p n : ℕ) → a ≤ p → 1 ≤ n → p + n ≤ length m → packed s ≤ p → scattered s ≡ true
    → m' ≡ occupy p n m → occupy p n (occupancy_of a s m) ≡ occupancy_of a s m'
unfolding occupancy_of occupy
claimed-scattered a s m m' p n h o l q e r =
    let k : length m' ≡ length m = ap length r ∙ length-splice n p (replicate n 1) m l (length-replicate n 1) in
    claim-swap a s m p n h o l q ∙ rw (k, e, r)

pub claimed-first : (a : ℕ) (s : ℕ) (m o m' : List ℕ) (p n : ℕ) → a ≤ p → 1 ≤ n → p + n ≤ length m → packed s ≤ p → s < 131072
    → o ≡ replicate (length m) 0 → m' ≡ occupy p n o → occupy p n (occupancy_of a s m) ≡ occupancy_of a (s + 131072) m'
unfolding occupancy_of occupy
claimed-first a s m o m' p n h i l q e z r =
    let j : length o ≡ length m = ap length z ∙ length-replicate (length m) 0 in
    let k : length m' ≡ length m = ap length r ∙ length-splice n p (replicate n 1) o (omega (arith, j, l)) (length-replicate n 1) ∙ j in
    claim-swap a s m p n h i l q ∙ rw (k, packed_more s e, not-scattered s e, is-scattered (s + 131072) (omega arith), r, z)

-- A NESTED GROUP

-- what a nested group left in the scratch is gone
module _ (a : ℕ) (s : ℕ) (m m' m'' ys : List ℕ) (p n : ℕ) (h : a ≤ length m) (l : p + n ≤ length m) (y : length ys ≡ n)
    (e : m' ≡ splice n p ys m) (r : m'' ≡ cond (scattered s) (occupy p n m') m') (t : occupy p n (occupancy_of a s m) ≡ occupancy_of a s m) where
  retaken-length : length m' ≡ length m
  retaken-length = ap length e ∙ length-splice n p ys m l y

  pub retaken : occupancy_of a s m'' ≡ occupancy_of a s m
  unfolding occupancy_of occupy
  retaken = go (scattered s) refl
    where
      go : (x : Bool) → scattered s ≡ x → occupancy_of a s m'' ≡ occupancy_of a s m
      go true x =
          let z : m'' ≡ occupy p n m = r ∙ rw (x, e) (splice-over n p ys (replicate n 1) m y l) in
          let k : length m'' ≡ length m = ap length z ∙ length-occupied p n m l in
          let w : occupy a (min (packed s) (length m) - a) (occupy p n m) ≡ occupy p n (occupy a (min (packed s) (length m) - a) m) = occupy-swap a (min (packed s) (length m) - a) p n m (omega arith) l in
          rw (k, x, z) (w ∙ rw x at t)
      go false x =
          let q : m'' ≡ m' = r ∙ rw x in
          let k : length m'' ≡ length m = ap length q ∙ retaken-length in
          rw (k, x)

-- PADS

ones-pads : (r : ℕ) (xs bs : List ℕ) → pads_zero (replicate r 1 ++ xs) bs ≡ pads_zero xs (drop r bs)
unfolding pads_zero
ones-pads zero xs bs = refl
ones-pads (suc r) xs [] = sym (nothing xs)
  where
    nothing : (xs : List ℕ) → pads_zero xs [] ≡ true
    nothing [] = refl
    nothing (x ∷ xs) = refl
ones-pads (suc r) xs (b ∷ bs) = ones-pads r xs bs

zeros-pads : (zs bs : List ℕ) → all_zero zs ≡ true → length zs ≡ length bs → pads_zero zs bs ≡ all_zero bs
unfolding pads_zero all_zero
zeros-pads [] [] h e = refl
zeros-pads [] (b ∷ bs) h e = absurd (omega arith)
zeros-pads (z ∷ zs) [] h e = absurd (omega arith)
zeros-pads (z ∷ zs) (b ∷ bs) h e =
    let q = and_both (eqb z 0) (all_zero zs) h in
    let x : z ≡ 0 = eqb-true z 0 q.0 in
    rw x (ap (λ (c : Bool). eqb b 0 && c) (zeros-pads zs bs q.1 (omega arith)))

module _ (a : ℕ) (s : ℕ) (m b : List ℕ) (same : length m ≡ length b) (room : a ≤ length b) where
  run-pads : pads_zero (drop a (occupancy_of a s m)) (drop a b) ≡ pads_zero (drop (a + (min (packed s) (length m) - a)) (under a s m)) (drop (a + (min (packed s) (length m) - a)) b)
  unfolding occupancy_of occupy
  run-pads =
      let z = under a s m in
      let r = min (packed s) (length m) - a in
      let f : length (take a z) ≡ a = length-take a z ∙ (let k : length z ≡ length m = under-length (scattered s) m in omega (arith, k)) in
      rw (drop_at (take a z) (replicate r 1 ++ drop r (drop a z)) a f, ones-pads r (drop r (drop a z)) (drop a b), drop-drop r a z, drop-drop r a b)

  pub pads-from : (x : ℕ) → x ≡ max a (packed s) → pads_zero (drop a (occupancy_of a s m)) (drop a b) ≡ pads_zero (drop x (under a s m)) (drop x b)
  unfolding pads_zero
  pads-from x e = go (leb (packed s) (length b)) refl
    where
      k : length (under a s m) ≡ length m
      k = under-length (scattered s) m

      go : (t : Bool) → leb (packed s) (length b) ≡ t → pads_zero (drop a (occupancy_of a s m)) (drop a b) ≡ pads_zero (drop x (under a s m)) (drop x b)
      go true h = let q : packed s ≤ length b = leb-true _ _ h in let y : a + (min (packed s) (length m) - a) ≡ x = omega arith in run-pads ∙ rw y
      go false h =
          let q : length b < packed s = leb-false _ _ h in
          let y : length (under a s m) ≤ a + (min (packed s) (length m) - a) = omega (arith, k) in
          let z : length (under a s m) ≤ x = omega (arith, k) in
          run-pads ∙ rw (drop_of_length-le (under a s m) y, drop_of_length-le (under a s m) z)

  module _ (x : ℕ) (e : x ≡ max a (packed s)) where
    pub pads-scattered : scattered s ≡ true → pads_zero (drop x m) (drop x b) ≡ pads_zero (drop a (occupancy_of a s m)) (drop a b)
    pads-scattered f = sym (pads-from x e ∙ rw f)

    pub pads-past : length b < x → true ≡ pads_zero (drop a (occupancy_of a s m)) (drop a b)
    unfolding pads_zero
    pads-past h = let k : length (under a s m) ≤ x = omega (arith, under-length (scattered s) m) in sym (pads-from x e ∙ rw (drop_of_length-le (under a s m) k))

    pub pads-packed : scattered s ≡ false → x ≤ length b → all_zero (part (length b - x) x b) ≡ pads_zero (drop a (occupancy_of a s m)) (drop a b)
    pads-packed f h =
        let k : length {A = ℕ} (drop x (replicate (length m) 0)) ≡ length (drop x b) = simp (length-drop, length-replicate) (omega arith) in
        let t : length (drop x b) ≤ length b - x = simp length-drop (omega arith) in
        sym (pads-from x e ∙ rw (f, take_all (length b - x) (drop x b) t) (zeros-pads (drop x (replicate (length m) 0)) (drop x b) (zeros-drop x (replicate (length m) 0) (zeros-all (length m))) k))

  -- the values fill the data area
  pub pads-none : s ≡ length b → s < 131072 → pads_zero (drop a (occupancy_of a s m)) (drop a b) ≡ true
  unfolding all_zero
  pads-none e h =
      let x : s ≡ max a (packed s) = omega (arith, packed-is s h) in
      let k : length b - s ≡ 0 = omega arith in
      sym (pads-packed s x (not-scattered s h) (omega arith)) ∙ rw k

-- the occupancy, written out
module _ (a : ℕ) (s : ℕ) (m o : List ℕ) (e : o ≡ cond (scattered s) m (replicate (length m) 0)) (y : ℕ) (iy : y ≡ min (length o) (packed s)) where
  o-length : length o ≡ length m
  o-length = ap length e ∙ under-length (scattered s) m

  pub written-some : (m' : List ℕ) → m' ≡ occupy a (y - a) o → m' ≡ occupancy_of a s m
  unfolding occupancy_of occupy
  written-some m' r = let k : y ≡ min (packed s) (length m) = omega (arith, iy, o-length) in r ∙ rw (k, e)

  pub written_none : y ≤ a → o ≡ occupancy_of a s m
  unfolding occupancy_of occupy
  written_none h = let k : min (packed s) (length m) - a ≡ 0 = omega (arith, iy, o-length) in e ∙ sym (rw k (splice-nil a (cond (scattered s) m (replicate (length m) 0))))

pub occupied-room : (a : ℕ) (s : ℕ) (m : List ℕ) (p n : ℕ) → a ≤ p → p + n ≤ length m → p + n ≤ length (occupancy_of a s m)
unfolding occupancy_of
occupied-room a s m p n h l =
    let u = under-length (scattered s) m in
    let k = length-occupied a (min (packed s) (length m) - a) (under a s m) (omega (arith, u)) in omega (arith, k, u)
