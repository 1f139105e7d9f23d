-- Laws of parts, sameness, splices and little-endian numbers, for the crates above to cite.
use Prim.Native.Nat.{ℕ, zero, suc, ◌+◌, ◌-◌, ◌*◌, ◌/◌, ◌%◌, ◌^◌, ◌<◌, ◌≤◌}
use mathlib.Core.Path.{◌≡◌, refl, sym, ap, ◌∙◌}
use mathlib.Core.Bool.{true, and-eq-true_iff}
use mathlib.Core.List.{List, [], ◌∷◌, ◌++◌, append_assoc}
use native.Mathlib.Omega.{arith}
use native.Mathlib.Numerals.{add-one}
use native.Mathlib.Nat.{zero-add, suc-add, add_assoc, pow-succ', mul_assoc, div-div-eq-div-mul, div-one}
use lib.ListN.{length, get_or, set, take, drop, length-append, length-take, length-drop, take-append-drop}
use lib.Seq.{drop-cons, drop-drop, take-add, take-take, take_all, take-nil, take_at, drop_at, take-suc-set, drop-set-lt}
use lib.Dec.{eqb}
use borrow.Author.Tests.{eq-eqb, eqb-true}
use Rattle.wire.specs.Bytes.{part, splice, le, bytes_of, same}

-- PARTS

-- what is left of a list at i, and one element further
pub drop_more : (s : List ℕ) (i : ℕ) → i < length s → drop i s ≡ get_or s i 0 ∷ drop (i + 1) s
drop_more s i h = rw (add-one, drop-cons s i 0)

pub length_part : (n at : ℕ) (s : List ℕ) → at + n ≤ length s → length (part n at s) ≡ n
length_part n at s h = simp (length-take, length-drop) (omega arith)

-- two parts in a row are one
pub part-add : (m n at : ℕ) (s : List ℕ) → part (m + n) at s ≡ part m at s ++ part n (at + m) s
part-add m n at s = rw (take-add m n (drop at s), drop-drop)

drop-take : (p n : ℕ) (s : List ℕ) → drop p (take (p + n) s) ≡ take n (drop p s)
drop-take zero n s = rw zero-add
drop-take (suc p) n [] = rw (take-nil, take-nil)
drop-take (suc p) n (x ∷ s) = rw suc-add (drop-take p n s)

-- a part of a part
pub part-part : (m p n at : ℕ) (s : List ℕ) → p + m ≤ n → part m p (part n at s) ≡ part m (at + p) s
part-part m p n at s h =
    let e : n ≡ p + (n - p) = omega arith in
    ap (λ (k : ℕ). take m (drop p (take k (drop at s)))) e
    ∙ rw (drop-take p (n - p) (drop at s), drop-drop) (take-take m (n - p) (drop (at + p) s) (omega arith))

-- SAMENESS

pub same-eq : (x y : List ℕ) → same x y ≡ true → x ≡ y
unfolding same
same-eq [] [] e = refl
same-eq [] (y ∷ ys) e = cc
same-eq (x ∷ xs) [] e = cc
same-eq (x ∷ xs) (y ∷ ys) e =
    let h = (and-eq-true_iff (eqb x y) (same xs ys)).0 e in
    let p : x ≡ y = eqb-true x y h.0 in
    let q : xs ≡ ys = same-eq xs ys h.1 in
    cc

pub same_refl : (x : List ℕ) → same x x ≡ true
unfolding same
same_refl [] = refl
same_refl (x ∷ xs) = rw (eq-eqb x x refl) (same_refl xs)

-- SPLICES

pub length-splice : (n at : ℕ) (ys s : List ℕ) → at + n ≤ length s → length ys ≡ n → length (splice n at ys s) ≡ length s
length-splice n at ys s h e = simp (length-append, length-take, length-drop) (omega arith)

-- a store at the start of what is still to be written, and the end of it: the two laws of every loop that writes
pub splice-cons : (n at y : ℕ) (ys s : List ℕ) → at < length s → splice (suc n) at (y ∷ ys) s ≡ splice n (at + 1) ys (set s at y)
splice-cons n at y ys s h =
    let e : at + suc n ≡ suc at + n = omega arith in
    rw (add-one, take-suc-set s at y h, append_assoc) (simp (drop-drop, e, drop-set-lt (suc at + n) s at y (omega arith)))

pub splice-nil : (at : ℕ) (s : List ℕ) → splice 0 at [] s ≡ s
splice-nil at s = take-append-drop at s

-- two splices in a row are one
pub splice-append : (m n at : ℕ) (xs ys s : List ℕ) → length xs ≡ m → at + m ≤ length s
    → splice n (at + m) ys (splice m at xs s) ≡ splice (m + n) at (xs ++ ys) s
splice-append m n at xs ys s e h =
    let l : length (take at s ++ xs) ≡ at + m = simp (length-append, length-take) (omega arith) in
    let z = drop m (drop at s) in
    rw (← (append_assoc (take at s) xs z), take_at (take at s ++ xs) z (at + m) l, drop_at (take at s ++ xs) z (at + m) l) (simp (append_assoc, drop-drop, add_assoc))

splice_at : (n at : ℕ) (a b c ys : List ℕ) → length a ≡ at → length b ≡ n → splice n at ys (a ++ (b ++ c)) ≡ a ++ (ys ++ c)
splice_at n at a b c ys ha hb = rw (take_at a (b ++ c) at ha, drop_at a (b ++ c) at ha, drop_at b c n hb)

-- what lies before the other is written in any order
module _ (m n p q : ℕ) (xs ys : List ℕ) (e : length xs ≡ m) (h : p + m ≤ q) where
  commute-parts : (a b c d t : List ℕ) → length a ≡ p → length b ≡ m → length (a ++ (b ++ c)) ≡ q → length d ≡ n
      → splice m p xs (splice n q ys (a ++ (b ++ (c ++ (d ++ t))))) ≡ splice n q ys (splice m p xs (a ++ (b ++ (c ++ (d ++ t)))))
  commute-parts a b c d t ha hb hq hd =
      let k : length (a ++ (xs ++ c)) ≡ q = simp length-append (omega (arith, hq, simp length-append at hq)) in
      let u : splice n q ys (a ++ (b ++ (c ++ (d ++ t)))) ≡ a ++ (b ++ (c ++ (ys ++ t))) =
      ap (splice n q ys) (simp append_assoc) ∙ splice_at n q (a ++ (b ++ c)) d t ys hq hd ∙ simp append_assoc in
      let v : splice n q ys (a ++ (xs ++ (c ++ (d ++ t)))) ≡ a ++ (xs ++ (c ++ (ys ++ t))) =
      ap (splice n q ys) (simp append_assoc) ∙ splice_at n q (a ++ (xs ++ c)) d t ys k hd ∙ simp append_assoc in
      ap (splice m p xs) u ∙ splice_at m p a b (c ++ (ys ++ t)) xs ha hb
      ∙ sym (ap (splice n q ys) (splice_at m p a b (c ++ (d ++ t)) xs ha hb) ∙ v)

  pub splice-commute : (s : List ℕ) → q + n ≤ length s → splice m p xs (splice n q ys s) ≡ splice n q ys (splice m p xs s)
  splice-commute s l =
      let a = take p s in
      let b = part m p s in
      let c = part (q - (p + m)) (p + m) s in
      let d = part n q s in
      let i : q ≡ p + m + (q - (p + m)) = omega arith in
      let la : length a ≡ p = simp length-take (omega arith) in
      let lb : length b ≡ m = length_part m p s (omega arith) in
      let lc : length c ≡ q - (p + m) = length_part (q - (p + m)) (p + m) s (omega arith) in
      let o : s ≡ a ++ (b ++ (c ++ (d ++ drop n (drop q s)))) =
      sym (take-append-drop p s)
      ∙ ap (λ (x : List ℕ). a ++ x) (sym (take-append-drop m (drop p s)))
      ∙ ap (λ (x : List ℕ). a ++ (b ++ x)) (drop-drop m p s ∙ sym (take-append-drop (q - (p + m)) (drop (p + m) s)))
      ∙ ap (λ (x : List ℕ). a ++ (b ++ (c ++ x))) (drop-drop (q - (p + m)) (p + m) s ∙ ap (λ (k : ℕ). drop k s) (sym i) ∙ sym (take-append-drop n (drop q s))) in
      ap (λ (x : List ℕ). splice m p xs (splice n q ys x)) o
      ∙ commute-parts a b c d (drop n (drop q s)) la lb (simp length-append (omega (arith, la, lb, lc))) (length_part n q s l)
      ∙ sym (ap (λ (x : List ℕ). splice n q ys (splice m p xs x)) o)

-- the first of two splices in a row may be written last
pub splice-before : (m n p q : ℕ) (xs ys s : List ℕ) → q ≡ p + m → length xs ≡ m → q + n ≤ length s → splice m p xs (splice n q ys s) ≡ splice (m + n) p (xs ++ ys) s
splice-before m n p q xs ys s i e h =
    splice-commute m n p q xs ys e (omega arith) s h ∙ rw i (splice-append m n p xs ys s e (omega arith))

-- what a splice wrote, and what it left before and behind
module _ (n at : ℕ) (ys s : List ℕ) (h : at + n ≤ length s) (e : length ys ≡ n) where
  pub part-splice : part n at (splice n at ys s) ≡ ys
  part-splice = rw (drop_at (take at s) _ at (simp length-take (omega arith))) (take_at ys _ n e)

-- what a part keeps behind its first p bytes, and what stands behind the part
take-drop : (p n : ℕ) (s : List ℕ) → p ≤ n → drop p (take n s) ++ drop n s ≡ drop p s
take-drop p n s h =
    let k : n ≡ p + (n - p) = omega arith in
    ap (λ (j : ℕ). drop p (take j s) ++ drop j s) k
    ∙ rw (drop-take p (n - p) s, ← (drop-drop (n - p) p s)) (take-append-drop (n - p) (drop p s))

-- a splice through a lent part is one of the whole
pub splice-part : (m p n at : ℕ) (ys s : List ℕ) → p + m ≤ n → splice n at (splice m p ys (part n at s)) s ≡ splice m (at + p) ys s
splice-part m p n at ys s h =
    let d = drop at s in
    let tail : drop m (drop p (take n d)) ++ drop n d ≡ drop m (drop p d) = rw (drop-drop m p (take n d), drop-drop m p d) (take-drop (p + m) n d h) in
    rw (take-take p n d (omega arith), take-add at p s, ← (drop-drop p at s)) (simp append_assoc (ap (λ (t : List ℕ). take at s ++ (take p d ++ (ys ++ t))) tail))

-- NUMBERS

-- a number of two parts
pub le-append : (xs ys : List ℕ) → le (xs ++ ys) ≡ le xs + 256 ^ length xs * le ys
unfolding le
le-append [] ys = omega arith
le-append (x ∷ xs) ys = rw (le-append xs ys, pow-succ', mul_assoc) (omega arith)

pub length-bytes : (n x : ℕ) → length (bytes_of n x) ≡ n
unfolding bytes_of
length-bytes zero x = refl
length-bytes (suc n) x = ap suc (length-bytes n (x / 256))

-- the bytes of a number, in two parts
pub bytes-add : (m n x : ℕ) → bytes_of (m + n) x ≡ bytes_of m x ++ bytes_of n (x / 256 ^ m)
unfolding bytes_of
bytes-add zero n x = rw (zero-add, div-one)
bytes-add (suc m) n x = rw (suc-add, bytes-add m n (x / 256), div-div-eq-div-mul, pow-succ')

-- each undoes the other
pub le_bytes : (n x : ℕ) → x < 256 ^ n → le (bytes_of n x) ≡ x
unfolding le bytes_of
le_bytes zero x h = omega arith
le_bytes (suc n) x h = let k = rw pow-succ' at h in rw (le_bytes n (x / 256) (omega arith)) (omega arith)

pub bytes_le : (s : List ℕ) → ((i : ℕ) → get_or s i 0 < 256) → bytes_of (length s) (le s) ≡ s
unfolding le bytes_of
bytes_le [] h = refl
bytes_le (x ∷ s) h =
    let x< : x < 256 = h 0 in
    let m : (x + 256 * le s) % 256 ≡ x = omega arith in
    let d : (x + 256 * le s) / 256 ≡ le s = omega arith in
    rw (m, d, bytes_le s (λ i. h (suc i)))

pub le-bound : (s : List ℕ) → ((i : ℕ) → get_or s i 0 < 256) → le s < 256 ^ length s
unfolding le
le-bound [] h = omega arith
le-bound (x ∷ s) h = let x< : x < 256 = h 0 in let l = le-bound s (λ i. h (suc i)) in rw pow-succ' (omega arith)

-- TWO BYTES

pub two : (at : ℕ) (s : List ℕ) → at + 2 ≤ length s → part 2 at s ≡ get_or s at 0 ∷ (get_or s (at + 1) 0 ∷ [])
two at s h = rw (drop_more s at (omega arith), drop_more s (at + 1) (omega arith))

pub two-of : (s : List ℕ) → length s ≡ 2 → s ≡ get_or s 0 0 ∷ (get_or s 1 0 ∷ [])
two-of s h = sym (take_all 2 s (omega arith)) ∙ two 0 s (omega arith)
