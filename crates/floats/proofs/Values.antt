-- Laws of the numbers that limbs stand for.
use Prim.Native.Nat.{ℕ, suc, ◌+◌, ◌-◌, ◌*◌, ◌^◌, ◌<◌, ◌≤◌}
use mathlib.Core.Path.{◌≡◌, refl, sym, ap, ◌∙◌}
use mathlib.Core.Bool.{Bool, true, false, cond}
use mathlib.Core.List.{List, [], ◌∷◌, ◌++◌, reverse}
use native.Mathlib.Omega.{arith}
use native.Mathlib.Numerals.{add-one}
use native.Mathlib.Nat.{pow-suc, mul_comm, mul_assoc, mul-add, mul_left_comm, mul_right_comm, mul-zero, add-zero, mul-le-mul_left}
use lib.ListN.{length, get_or, set, take, drop, get_or-eq_default}
use lib.Seq.{take-suc, take-suc-set, length-take-le, drop-set-lt, get_or-drop, drop-drop}
use lib.Dec.{ltb, eqb}
use Rattle.std.specs.Ordering.{is_lt, nat_cmp, ordering_then}
use Rattle.std.specs.Cmp.Lexicographic.{slice_cmp}
use Rattle.std.proofs.lemmas.List.{get_or-reverse, length-reverse, reverse-append, reverse-reverse}
use Rattle.std.proofs.lemmas.Bool.Decides.{nat_tests}
use Rattle.std.specs.declared.cmp.Ordering.{Ordering}
use Rattle.std.specs.declared.cmp.Ordering.TheVariants.{Less, Equal, Greater}
use borrow.Author.Tests.{lt-ltb, le-ltb, ltb-true, ltb-false, eqb-true}
use Rattle.floats.specs.Limbs.{value}

-- ONE LIMB MORE

value-snoc : (xs : List ℕ) (x : ℕ) → value (xs ++ (x ∷ [])) ≡ value xs + 4294967296 ^ length xs * x
unfolding value
value-snoc [] x = omega arith
value-snoc (y ∷ xs) x =
    let p = 4294967296 ^ length xs in
    let e : 4294967296 ^ suc (length xs) * x ≡ p * x * 4294967296 = rw (pow-suc) (mul_right_comm p 4294967296 x) in
    omega (arith, e, value-snoc xs x)

pub value-more : (s : List ℕ) (i : ℕ) → i < length s → value (take (i + 1) s) ≡ value (take i s) + 4294967296 ^ i * get_or s i 0
value-more s i h =
    rw (add-one, take-suc s i 0 h, value-snoc (take i s) (get_or s i 0), length-take-le i s (omega arith))

pub value-stored : (s : List ℕ) (i x : ℕ) → i < length s → value (take (i + 1) (set s i x)) ≡ value (take i s) + 4294967296 ^ i * x
value-stored s i x h = rw (add-one, take-suc-set s i x h, value-snoc (take i s) x, length-take-le i s (omega arith))

-- what a store at i leaves of the limbs after it, where they were another list's
pub rest-stored : (s t : List ℕ) (i x : ℕ) → drop i s ≡ drop i t → drop (i + 1) (set s i x) ≡ drop (i + 1) t
rest-stored s t i x e = rw (drop-set-lt (i + 1) s i x (omega arith)) (sym (drop-drop 1 i s) ∙ ap (drop 1) e ∙ drop-drop 1 i t)

pub limb-kept : (s t : List ℕ) (i : ℕ) → drop i s ≡ drop i t → get_or s i 0 ≡ get_or t i 0
limb-kept s t i e = rw add-zero at (sym (get_or-drop i s 0 0) ∙ ap (λ (l : List ℕ). get_or l 0 0) e ∙ get_or-drop i t 0 0)

-- TURNS: p is the power of the limb, c what came over to it, and d what goes over to the next

pub mix-turn : (p v k a b c x d u w : ℕ) → v + c * p ≡ u + k * w → x + 4294967296 * d ≡ k * b + a + c
    → v + p * x + d * (p * 4294967296) ≡ (u + p * a) + k * (w + p * b)
mix-turn p v k a b c x d u w h e =
    let f : p * x + p * (4294967296 * d) ≡ p * (k * b) + p * a + p * c = simp mul-add at (ap (λ (n : ℕ). p * n) e) in
    let g : k * (w + p * b) ≡ k * w + p * (k * b) = rw mul-add (ap (λ (n : ℕ). k * w + n) (mul_left_comm k p b)) in
    let o : d * (p * 4294967296) ≡ p * (4294967296 * d) = mul_comm d (p * 4294967296) ∙ mul_assoc p 4294967296 d in
    omega (arith, f, g, o, mul_comm c p)

pub subtract-turn : (p v w u x a b c d : ℕ) → v + w ≡ u + c * p → x + b + c ≡ a + 4294967296 * d
    → (v + p * x) + (w + p * b) ≡ (u + p * a) + d * (p * 4294967296)
subtract-turn p v w u x a b c d h e =
    let f : p * x + p * b + p * c ≡ p * a + p * (4294967296 * d) = simp mul-add at (ap (λ (n : ℕ). p * n) e) in
    let o : d * (p * 4294967296) ≡ p * (4294967296 * d) = mul_comm d (p * 4294967296) ∙ mul_assoc p 4294967296 d in
    omega (arith, f, o, mul_comm c p)

next_power : (i : ℕ) → 4294967296 ^ (i + 1) ≡ 4294967296 ^ i * 4294967296
next_power i = rw (add-one, pow-suc)

-- what one more limb makes of out = a + k * b, of a = k * a, and of a = a - b; a₀ is what a held
module _ (i y d : ℕ) where
  pub mix-more : (out a b : List ℕ) (k over : ℕ) → i < length out → length out ≡ length a → length b ≡ length a
      → value (take i out) + over * 4294967296 ^ i ≡ value (take i a) + k * value (take i b) → y + d * 4294967296 ≡ k * get_or b i 0 + get_or a i 0 + over
      → value (take (i + 1) (set out i y)) + d * 4294967296 ^ (i + 1) ≡ value (take (i + 1) a) + k * value (take (i + 1) b)
  mix-more out a b k over h l m e is =
      rw (value-stored out i y h, value-more a i (omega arith), value-more b i (omega arith), next_power i) (mix-turn _ _ k _ _ over _ _ _ _ e (omega arith))

  pub times-more : (a a₀ : List ℕ) (k over : ℕ) → i < length a → length a ≡ length a₀ → drop i a ≡ drop i a₀
      → value (take i a) + over * 4294967296 ^ i ≡ k * value (take i a₀) → y + d * 4294967296 ≡ k * get_or a i 0 + over
      → value (take (i + 1) (set a i y)) + d * 4294967296 ^ (i + 1) ≡ k * value (take (i + 1) a₀)
  times-more a a₀ k over h l r e is =
      let p = 4294967296 ^ i in
      let f = mix-turn p (value (take i a)) k 0 (get_or a₀ i 0) over y d 0 (value (take i a₀)) (omega arith) (rw (← limb-kept a a₀ i r) (omega arith)) in
      rw (value-stored a i y h, value-more a₀ i (omega arith), next_power i) (omega (arith, f, mul-zero p))

  pub subtract-more : (a a₀ b : List ℕ) (owed : ℕ) → i < length a → length a ≡ length a₀ → length b ≡ length a₀ → drop i a ≡ drop i a₀
      → value (take i a) + value (take i b) ≡ value (take i a₀) + owed * 4294967296 ^ i → y + get_or b i 0 + owed ≡ get_or a i 0 + d * 4294967296
      → value (take (i + 1) (set a i y)) + value (take (i + 1) b) ≡ value (take (i + 1) a₀) + d * 4294967296 ^ (i + 1)
  subtract-more a a₀ b owed h l m r e is =
      let k = limb-kept a a₀ i r in
      rw (value-stored a i y h, value-more a₀ i (omega arith), value-more b i (omega arith), next_power i) (subtract-turn _ _ _ _ _ _ _ owed _ e (omega arith))

-- what is stored stays below the power of its limbs
pub stored-below : (s : List ℕ) (i x : ℕ) → i < length s → x < 4294967296 → value (take i s) < 4294967296 ^ i
    → value (take (i + 1) (set s i x)) < 4294967296 ^ (i + 1)
stored-below s i x h l e =
    let p = 4294967296 ^ i in
    let m : p * x ≤ p * 4294967295 = mul-le-mul_left p (omega arith) in
    rw (value-stored s i x h, next_power i) (omega (arith, m))

-- ORDER

pub value-below : (a : List ℕ) → ((j : ℕ) → get_or a j 0 < 4294967296) → value a < 4294967296 ^ length a
unfolding value
value-below [] f = omega arith
value-below (x ∷ a) f = rw (pow-suc) (omega (arith, f 0, value-below a (λ j. f (suc j))))

below-reversed : (p : List ℕ) → ((j : ℕ) → get_or p j 0 < 4294967296) → (j : ℕ) → get_or (reverse p) j 0 < 4294967296
below-reversed p f j = go (ltb j (length p)) refl where
  go : (t : Bool) → ltb j (length p) ≡ t → get_or (reverse p) j 0 < 4294967296
  go true e = rw (get_or-reverse p j 0 (ltb-true _ _ e)) (f (length p - 1 - j))
  go false e = rw (get_or-eq_default (reverse p) 0 {n = j} (rw (length-reverse p) (ltb-false _ _ e))) (omega arith)

value-high : (x : ℕ) (p : List ℕ) → value (reverse (x ∷ p)) ≡ value (reverse p) + 4294967296 ^ length p * x
value-high x p = ap value (reverse-append (x ∷ []) p) ∙ value-snoc (reverse p) x ∙ rw (length-reverse p) refl

-- the highest limb that differs says which number is less
step : (x y p u v : ℕ) (o : Ordering) → u < p → v < p → is_lt o ≡ ltb u v → is_lt (ordering_then (nat_cmp x y) o) ≡ ltb (u + p * x) (v + p * y)
step x y p u v o h l e = go (ltb x y) (eqb x y) refl refl
  where
    higher : (x y u v : ℕ) → u < p → x < y → u + p * x < v + p * y
    higher x y u v h l = let m : p * (x + 1) ≤ p * y = mul-le-mul_left p (omega arith) in omega (arith, m, mul-add p x 1)

    same : (w : ℕ) → ltb u v ≡ ltb (u + w) (v + w)
    same w = grind (arith, nat_tests)

    go : (s t : Bool) → ltb x y ≡ s → eqb x y ≡ t → is_lt (ordering_then (cond s Less (cond t Equal Greater)) o) ≡ ltb (u + p * x) (v + p * y)
    go true t a b = sym (lt-ltb _ _ (higher x y u v h (ltb-true _ _ a)))
    go false true a b = let z = eqb-true x y b in rw z (e ∙ same (p * y))
    go false false a b = let z : y < x = grind (arith, nat_tests) in let k = higher y x v u l z in sym (le-ltb _ _ (omega arith))

order : (p q : List ℕ) → length q ≡ length p → ((j : ℕ) → get_or p j 0 < 4294967296) → ((j : ℕ) → get_or q j 0 < 4294967296)
    → is_lt (slice_cmp nat_cmp p q) ≡ ltb (value (reverse p)) (value (reverse q))
unfolding value
order [] [] l f g = refl
order [] (y ∷ q) l f g = absurd (omega arith)
order (x ∷ p) [] l f g = absurd (omega arith)
order (x ∷ p) (y ∷ q) l f g =
    let n : length q ≡ length p = omega arith in
    let f' = λ (j : ℕ). f (suc j) in
    let g' = λ (j : ℕ). g (suc j) in
    let u = value-below (reverse p) (below-reversed p f') in
    let v = value-below (reverse q) (below-reversed q g') in
    rw (value-high x p, value-high y q, n)
    (step x y (4294967296 ^ length p) (value (reverse p)) (value (reverse q)) _ (rw (length-reverse p) at u) (rw (length-reverse q, n) at v) (order p q n f' g'))

pub below-is : (a b : List ℕ) → length b ≡ length a → ((j : ℕ) → get_or a j 0 < 4294967296) → ((j : ℕ) → get_or b j 0 < 4294967296)
    → is_lt (slice_cmp nat_cmp (reverse a) (reverse b)) ≡ ltb (value a) (value b)
below-is a b l f g =
    order (reverse a) (reverse b) (simp length-reverse l) (below-reversed a f) (below-reversed b g) ∙ rw (reverse-reverse a, reverse-reverse b) refl
