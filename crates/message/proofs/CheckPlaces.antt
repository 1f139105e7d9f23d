-- Where an offset leads, and the occupancy of what was found.
use Rattle.std.proofs.Common.{Ok, Err, Result, IfOk, ◌≡◌, ℕ, zero, suc, ◌+◌, ◌-◌, ◌*◌, ◌^◌, ◌<◌, ◌≤◌, Bool, true, false, not, ◌&&◌, ◌||◌, eqb, List, ◌∷◌, length, get_or, drop, sym, refl, mul-le-mul_right, arith, drop_of_length-le, le-ltb, lt-ltb, ne_eqb, le-leb}
use Rattle.std.proofs.lemmas.Result.{IfOk-weaker}
use mathlib.Core.Bool.{and_assoc, and-true}
use borrow.Author.Tests.{lt-leb}
use Rattle.wire.proofs.Laws.{drop_more}
use Rattle.schema.specs.Faults.{need}
use Rattle.message.specs.Occupancy.{free, occupy, pads_zero, pads_before}
use Rattle.message.proofs.CheckOccupancy.{occupy-twice}
use Rattle.settings.specs.declared.Ignored.{Ignored}
use Rattle.message.specs.Walk.{lost, found, here, word, in_area, locate}
use Rattle.message.specs.Check.{place_by, Claims, Lands}
use Rattle.message.specs.declared.failure.Failure.{Failure}
use Rattle.message.specs.declared.Found.{Found}

pub small : (n w : ℕ) → n < 2 ^ 32 → w ≤ 4096 → n * w ≤ 17592186044416
small n w h l = omega (arith, mul-le-mul_right {m = n} {n = 4294967296} w (omega arith))

-- LANDS

module _ (F : ℕ → List ℕ) where
  pub claims-at : (p n k : ℕ) (s : ℕ) (m : List ℕ) → occupy p k m ≡ F s → p + k ≤ length m → Claims F p n k (record { place = p; count = n; taken = s })
  claims-at p n k s m e l = record { place = refl; word = refl; taken = rw (← e) (occupy-twice p k m l) }

  pub lands-claim : (w : ℕ) (b : List ℕ) (p n k : ℕ) (r : Result Found Failure) → IfOk r (Claims F p n k) → n < 2 ^ 32 → k ≡ 4 + n * w → p + k ≤ length b → IfOk r (Lands F w b)
  lands-claim w b p n k r C h e l =
      IfOk-weaker r (Claims F p n k) (Lands F w b) (λ f C. record { four = rw C.word h; inside = rw (C.place, C.word, ← e) l; taken = rw (C.place, C.word, ← e) C.taken }) C

-- LOCATE

module _ (y : Ignored) (F : ℕ → List ℕ) (past w : ℕ) (b : List ℕ) (base area at : ℕ) (m : List ℕ) (o p n k : ℕ) (io : o ≡ word at b) (ip : p ≡ at + o) where
  pub low : (f : Failure) → f.number ≡ 5 → f.place ≡ base + at → p < area → place_by F (Err f) ≡ locate past w (here y b base area) at m
  unfolding place_by locate need in_area
  low f fn fp h = rw (fn, fp, ← io, ← ip, lt-leb area p h)

  pub high : (f : Failure) → f.number ≡ 5 → f.place ≡ base + at → area ≤ p → length b ≤ p → place_by F (Err f) ≡ locate past w (here y b base area) at m
  unfolding place_by locate need in_area
  high f fn fp h k = rw (fn, fp, ← io, ← ip, le-leb area p h, le-ltb p (length b) k)

  pub cut : (f : Failure) → f.number ≡ 26 → f.place ≡ base + p → area ≤ p → p < length b → length b < p + 4 → place_by F (Err f) ≡ locate past w (here y b base area) at m
  unfolding place_by locate need in_area
  cut f fn fp h k l = rw (fn, fp, ← io, ← ip, le-leb area p h, lt-ltb p (length b) k, lt-leb (p + 4) (length b) l)

  module _ (h : area ≤ p) (g : p < length b) (l : p + 4 ≤ length b) (in' : n ≡ word p b) (ik : k ≡ 4 + n * w) where
    pub over : (f : Failure) → f.number ≡ past → f.place ≡ base + p → length b < p + k → place_by F (Err f) ≡ locate past w (here y b base area) at m
    unfolding place_by locate need in_area
    over f fn fp q = rw (fn, fp, ← io, ← ip, ← in', ← ik, le-leb area p h, lt-ltb p (length b) g, le-leb (p + 4) (length b) l, lt-leb (p + k) (length b) q)

    pub claims : p + k ≤ length b → need (free p k m) (lost 27 (base + p)) (found p n (occupy p k m)) ≡ locate past w (here y b base area) at m
    unfolding locate need in_area
    claims q = rw (← io, ← ip, ← in', ← ik, le-leb area p h, lt-ltb p (length b) g, le-leb (p + 4) (length b) l, le-leb (p + k) (length b) q)

-- CLAIM

module _ (F : ℕ → List ℕ) (base p n k : ℕ) (m : List ℕ) where
  pub claim-shared : (f : Failure) → f.number ≡ 27 → f.place ≡ base + p → free p k m ≡ false → place_by F (Err f) ≡ need (free p k m) (lost 27 (base + p)) (found p n (occupy p k m))
  unfolding place_by need
  claim-shared f fn fp e = rw (fn, fp, e)

  pub claim-free : (s : ℕ) → free p k m ≡ true → occupy p k m ≡ F s → place_by F (Ok (record { place = p; count = n; taken = s })) ≡ need (free p k m) (lost 27 (base + p)) (found p n (occupy p k m))
  unfolding place_by need
  claim-free s e f = rw (e, f)

-- PADS

-- a byte that a value took, or one that is zero
abbrev pub clean : ℕ → ℕ → Bool
clean m b = not (eqb m 0) || eqb b 0

zero_one : (m b : ℕ) (ms bs : List ℕ) → pads_zero (m ∷ ms) (b ∷ bs) ≡ clean m b && pads_zero ms bs
unfolding pads_zero
zero_one zero b ms bs = refl
zero_one (suc m) b ms bs = rw (ne_eqb (suc m) 0 (λ z. omega arith))

before-clean : (m b : ℕ) (ms bs : List ℕ) → clean m b ≡ true → pads_before (m ∷ ms) (b ∷ bs) ≡ suc (pads_before ms bs)
unfolding pads_before
before-clean zero zero ms bs e = refl
before-clean zero (suc b) ms bs e = absurd (let f : eqb (suc b) 0 ≡ false = ne_eqb (suc b) 0 (λ z. omega arith) in let z : ◌≡◌ {A = ℕ} 0 1 = cc (f, e) in omega arith)
before-clean (suc m) b ms bs e = refl

before-dirty : (m b : ℕ) (ms bs : List ℕ) → clean m b ≡ false → pads_before (m ∷ ms) (b ∷ bs) ≡ 0
unfolding pads_before
before-dirty zero zero ms bs e = absurd (let z : ◌≡◌ {A = ℕ} 0 1 = cc in omega arith)
before-dirty zero (suc b) ms bs e = refl
before-dirty (suc m) b ms bs e = absurd (let f : eqb (suc m) 0 ≡ false = ne_eqb (suc m) 0 (λ z. omega arith) in let g = rw f at e in let z : ◌≡◌ {A = ℕ} 0 1 = cc in omega arith)

module _ (m b : List ℕ) (s : length m ≡ length b) (i : ℕ) where
  pub zero_turn : (z : Bool) → i < length b → z && pads_zero (drop i m) (drop i b) ≡ z && clean (get_or m i 0) (get_or b i 0) && pads_zero (drop (i + 1) m) (drop (i + 1) b)
  zero_turn z h = rw (drop_more m i (omega arith), drop_more b i h, zero_one) (sym (and_assoc z _ _))

  pub zero-end : (z : Bool) → length b ≤ i → z && pads_zero (drop i m) (drop i b) ≡ z
  unfolding pads_zero
  zero-end z h = let e : length m ≤ i = omega arith in rw (drop_of_length-le m e) (and-true z)

  module _ (at : ℕ) (l : at ≤ i) where
    pub before-turn : i < length b → clean (get_or m i 0) (get_or b i 0) ≡ true → i - at + pads_before (drop i m) (drop i b) ≡ i + 1 - at + pads_before (drop (i + 1) m) (drop (i + 1) b)
    before-turn h e = rw (drop_more m i (omega arith), drop_more b i h, before-clean (get_or m i 0) (get_or b i 0) (drop (i + 1) m) (drop (i + 1) b) e) (omega arith)

    pub before-stop : i < length b → clean (get_or m i 0) (get_or b i 0) ≡ false → i - at + pads_before (drop i m) (drop i b) ≡ i - at
    before-stop h e = rw (drop_more m i (omega arith), drop_more b i h, before-dirty (get_or m i 0) (get_or b i 0) (drop (i + 1) m) (drop (i + 1) b) e) (omega arith)

    pub before-end : length b ≤ i → i - at + pads_before (drop i m) (drop i b) ≡ i - at
    unfolding pads_before
    before-end h = let e : length m ≤ i = omega arith in rw (drop_of_length-le m e) (omega arith)
