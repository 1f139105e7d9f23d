-- Laws of what is put into a room.
use Prim.Native.Nat.{ℕ, zero, suc, ◌+◌, ◌-◌, ◌*◌, ◌/◌, ◌%◌, ◌^◌, ◌<◌, ◌≤◌, max}
use mathlib.Core.Path.{◌≡◌, refl, sym, ap, ◌∙◌}
use mathlib.Core.Bool.{Bool, true, false, cond}
use mathlib.Core.List.{List, [], ◌∷◌, ◌++◌}
use native.Mathlib.Omega.{arith}
use native.Mathlib.Nat.{pow-le-pow_right, pow-succ'}
use native.Mathlib.Numerals.{add-one}
use lib.ListN.{length, set, take, length-append, length-set}
use lib.Dec.{ltb}
use borrow.Author.Tests.{lt-ltb, ltb-true, ltb-false}
use Rattle.io.specs.Digits.{last_digits}
use Rattle.io.specs.Counts.{IsPrefixLen}
use Rattle.wire.specs.Bytes.{splice}
use Rattle.wire.proofs.Laws.{splice-cons, splice-nil, splice-append, splice-before, part-splice}
use Rattle.values.specs.Spelling.{Wrote, places_from, places}

pub put_one : (at y : ℕ) (s : List ℕ) → at < length s → set s at y ≡ splice 1 at (y ∷ []) s
put_one at y s h = sym (splice-cons 0 at y [] s h ∙ splice-nil (at + 1) (set s at y))

pub wrote_one : (at y : ℕ) (s : List ℕ) → at < length s → Wrote s (set s at y) at 1 (y ∷ []) (at + 1)
wrote_one at y s h = record { next = refl; size = refl; kept = simp length-set; wrote = put_one at y s h }

-- DIGITS

pub length_digits : (k n : ℕ) → length (last_digits 10 k n) ≡ k
length_digits zero n = refl
length_digits (suc k) n = simp length-append (omega (arith, length_digits k (n / 10)))

-- the last digit is put first
pub digits-turn : (i at n : ℕ) (s : List ℕ) → 0 < i → at + i ≤ length s
    → splice i at (last_digits 10 i n) s ≡ splice (i - 1) at (last_digits 10 (i - 1) (n / 10)) (set s (at + (i - 1)) (48 + n % 10))
digits-turn zero at n s h l = absurd (omega arith)
digits-turn (suc j) at n s h l =
    let k : suc j - 1 ≡ j = omega arith in
    let m : suc j ≡ j + 1 = omega arith in
    let t : ltb (n % 10) 10 ≡ true = lt-ltb (n % 10) 10 (omega arith) in
    rw (k, t, put_one (at + j) (48 + n % 10) s (omega arith))
    (ap (λ (x : ℕ). splice x at (last_digits 10 j (n / 10) ++ ((48 + n % 10) ∷ [])) s) m
    ∙ sym (splice-before j 1 at (at + j) (last_digits 10 j (n / 10)) ((48 + n % 10) ∷ []) s refl (length_digits j (n / 10)) (omega arith)))

pub digits-end : (i at n : ℕ) (s : List ℕ) → i ≤ 0 → splice i at (last_digits 10 i n) s ≡ s
digits-end i at n s h = let z : i ≡ 0 = omega arith in rw z (splice-nil at s)

-- HOW MANY

more : (k p n : ℕ) → k ≤ p → n < 10 ^ p → 10 ^ k ≤ n → (t : Bool) → ltb k p ≡ t → suc k ≤ p
more k p n a c x true l = let l' = ltb-true k p l in omega arith
more k p n a c x false l =
    let l' = ltb-false k p l in
    let s : k ≡ p = omega arith in
    let y = rw s at x in
    absurd (omega arith)

same : (k p n : ℕ) → k ≤ p → (k < p → 10 ^ (p - 1) ≤ n) → n < 10 ^ k → (t : Bool) → ltb k p ≡ t → k ≡ p
same k p n a d x true l =
    let l' = ltb-true k p l in
    let y = d l' in
    let z = pow-le-pow_right {n = 10} (omega arith) {i = k} {j = p - 1} (omega arith) in
    absurd (omega arith)
same k p n a d x false l = let l' = ltb-false k p l in omega arith

places-are : (f k p n : ℕ) → k ≤ p → p ≤ k + f → n < 10 ^ p → (k < p → 10 ^ (p - 1) ≤ n) → places_from f k n ≡ p
unfolding places_from
places-are zero k p n a b c d = omega arith
places-are (suc f) k p n a b c d = go (ltb n (10 ^ k)) refl (λ x. places-are f (suc k) p n x (omega arith) c (λ q. d (omega arith))) where
  go : (t : Bool) → ltb n (10 ^ k) ≡ t → (suc k ≤ p → places_from f (suc k) n ≡ p) → cond t k (places_from f (suc k) n) ≡ p
  go true e on = same k p n a d (ltb-true _ _ e) (ltb k p) refl
  go false e on = on (more k p n a c (ltb-false _ _ e) (ltb k p) refl)

-- counted by a logarithm, and made up to `least`
pub places-count : (least n l : ℕ) → 0 < least → least ≤ 20 → l < 20 → 10 ^ l ≤ max n 1 → max n 1 < 10 * 10 ^ l → max (l + 1) least ≡ places least n
unfolding places
places-count least n l z m b h k = go (ltb l least) refl
  where
    next : 10 ^ (l + 1) ≡ 10 * 10 ^ l
    next = rw (add-one, pow-succ')

    go : (t : Bool) → ltb l least ≡ t → max (l + 1) least ≡ places_from 20 least n
    go true e =
        let i = ltb-true l least e in
        let y = pow-le-pow_right {n = 10} (omega arith) {i = l + 1} {j = least} (omega arith) in
        let p : max (l + 1) least ≡ least = omega arith in
        p ∙ sym (places-are 20 least least n (omega arith) (omega arith) (omega (arith, next)) (λ q. absurd (omega arith)))
    go false e =
        let i = ltb-false l least e in
        let y = pow-le-pow_right {n = 10} (omega arith) {i = 1} {j = l} (omega arith) in
        let p : max (l + 1) least ≡ l + 1 = omega arith in
        let r : l + 1 - 1 ≡ l = omega arith in
        p ∙ sym (places-are 20 least (l + 1) n (omega arith) (omega arith) (omega (arith, next)) (λ q. rw r (omega arith)))

under : (k n : ℕ) → k ≤ 20 → n < 10 ^ 20 → 10 ^ k ≤ n → (t : Bool) → ltb k 20 ≡ t → suc k ≤ 20
under k n a b x true l = let l' = ltb-true k 20 l in omega arith
under k n a b x false l =
    let l' = ltb-false k 20 l in
    let e : k ≡ 20 = omega arith in
    let y = rw e at x in
    absurd (omega arith)

places-bound : (f k n : ℕ) → k ≤ 20 → n < 10 ^ 20 → places_from f k n ≤ 20
unfolding places_from
places-bound zero k n a b = a
places-bound (suc f) k n a b = go (ltb n (10 ^ k)) refl (λ x. places-bound f (suc k) n x b) where
  go : (t : Bool) → ltb n (10 ^ k) ≡ t → (suc k ≤ 20 → places_from f (suc k) n ≤ 20) → cond t k (places_from f (suc k) n) ≤ 20
  go true e on = a
  go false e on = on (under k n a b (ltb-false _ _ e) (ltb k 20) refl)

pub places-most : (least n : ℕ) → least ≤ 20 → n < 2 ^ 64 → places least n ≤ 20
unfolding places
places-most least n a b = places-bound 20 least n a (omega arith)

pub places-small : (least n : ℕ) → n < 10 ^ least → places least n ≡ least
unfolding places places_from
places-small least n h = rw (lt-ltb n (10 ^ least) h)

-- ONE AFTER THE OTHER

pub wrote_then : {s s' s'' : List ℕ} {at j p k q : ℕ} {xs ys : List ℕ} → Wrote s s' at j xs p → Wrote s' s'' p k ys q → q ≤ length s → Wrote s s'' at (j + k) (xs ++ ys) q
wrote_then {s} {s'} {s''} {at} {j} {p} {k} {q} {xs} {ys} a b h =
    let n : p ≡ at + j = a.next in
    let i : p + k ≡ at + (j + k) = omega arith in
    record {
      next = b.next ∙ i;
      size = length-append xs ys ∙ rw (a.size, b.size);
      kept = b.kept ∙ a.kept;
      wrote = b.wrote ∙ rw (n, a.wrote) (splice-append j k at xs ys s a.size (omega (arith, b.next)));
    }

-- of a text that is the same by another name
pub wrote_as : {s s' : List ℕ} {at k r : ℕ} {ys : List ℕ} (m : ℕ) (zs : List ℕ) → Wrote s s' at k ys r → k ≡ m → ys ≡ zs → Wrote s s' at m zs r
wrote_as m zs w e f = rw (← e, ← f) w

pub wrote-text : {s s' : List ℕ} {at k r : ℕ} {ys : List ℕ} (zs : List ℕ) → Wrote s s' at k ys r → ys ≡ zs → Wrote s s' at (length zs) zs r
wrote-text zs w f = wrote_as (length zs) zs w (sym w.size ∙ ap length f) f

pub wrote-counts : {s s' : List ℕ} {k r : ℕ} {ys : List ℕ} → Wrote s s' 0 k ys r → r ≤ length s → IsPrefixLen r s' × (take r s' ≡ ys)
wrote-counts {s} {s'} {k} {r} {ys} w h =
    let n = w.next in
    let e : r ≡ k = omega arith in
    let t : take r s' ≡ ys = rw (e, w.wrote) (part-splice k 0 ys s (omega arith) w.size) in
    ((rw w.kept h, e ∙ sym w.size ∙ ap length (sym t)), t)
