-- The scan of a text accepts the forms of UTF-8, and nothing else.
use mathlib.Core.Path.{◌≡◌, refl, sym, ap, ◌∙◌}
use mathlib.Core.Logic.{◌↔◌}
use mathlib.Core.Bool.{Bool, true, false, cond, ◌&&◌, and-eq-true_iff}
use mathlib.Core.List.{List, [], ◌∷◌}
use Prim.Native.Nat.{ℕ, zero, suc, ◌≤◌, ◌<◌}
use native.Mathlib.Omega.{arith}
use lib.ListN.{length}
use lib.Dec.{leb, ltb, eqb}
use borrow.Author.Tests.{ne_eqb, lt-ltb, le-ltb, le-leb, leb-true, ltb-true, ltb-false, eqb-true, eqb-false}
use Rattle.wire.specs.Utf8.{Text, valid, broken, after, begins, follow, lowest, highest, text_from, is_valid, utf8}
use Rattle.meaning.specs.Text.{In, Utf8, empty, x00-7f, xc2-df, xe0, xe1-ef, xf0, xf1-f3, xf4}
use Rattle.message.proofs.Tests.{true-false}

-- ONE TURN OF THE SCAN

-- where k bytes of a form are due, the next of them in low..high
abbrev scan : ℕ → ℕ → ℕ → List ℕ → Bool
scan k low high s = is_valid (text_from k low high s)

valid-after : (t : Text) → is_valid (after t) ≡ is_valid t
unfolding is_valid after
valid-after valid = refl
valid-after (broken n) = refl

valid-cond : (c : Bool) (t : Text) → is_valid (cond c (after t) (broken 0)) ≡ c && is_valid t
unfolding is_valid
valid-cond true t = valid-after t
valid-cond false t = refl

scan-first : (low high b : ℕ) (s : List ℕ) → scan 0 low high (b ∷ s) ≡ begins b && scan (follow b) (lowest b) (highest b) s
unfolding text_from
scan-first low high b s = valid-cond (begins b) _

scan-due : (k low high b : ℕ) (s : List ℕ) → scan (suc k) low high (b ∷ s) ≡ (leb low b && leb b high) && scan k 0x80 0xBF s
unfolding text_from
scan-due k low high b s = valid-cond (leb low b && leb b high) _

scan-end : (low high : ℕ) → scan 0 low high [] ≡ true
unfolding text_from is_valid
scan-end low high = refl

scan-short : (k low high : ℕ) → scan (suc k) low high [] ≡ false
unfolding text_from is_valid
scan-short k low high = refl

-- FORMS

-- what a first byte asks: how many follow, and the bounds of the next
data First (b : ℕ) : ℕ → ℕ → ℕ → Type 0 where
  f1 : In 0x00 0x7F b → First b 0 0x80 0xBF
  f2 : In 0xC2 0xDF b → First b 1 0x80 0xBF
  f3a : b ≡ 0xE0 → First b 2 0xA0 0xBF
  f3 : In 0xE1 0xEF b → First b 2 0x80 0xBF
  f4a : b ≡ 0xF0 → First b 3 0x90 0xBF
  f4 : In 0xF1 0xF3 b → First b 3 0x80 0xBF
  f4b : b ≡ 0xF4 → First b 3 0x80 0x8F

record Asks (b k l h : ℕ) : Type 0 where
  starts : begins b ≡ true
  many : follow b ≡ k
  least : lowest b ≡ l
  most : highest b ≡ h

first-asks : {b k l h : ℕ} → First b k l h → Asks b k l h
unfolding begins follow lowest highest
first-asks {b} (f1 x) = record {
  starts = rw (lt-ltb b 0x80 (omega (arith, x.high)));
  many = rw (lt-ltb b 0x80 (omega (arith, x.high)));
  least = rw (ne_eqb b 0xE0 (omega (arith, x.high)), ne_eqb b 0xF0 (omega (arith, x.high)));
  most = rw (ne_eqb b 0xF4 (omega (arith, x.high)));
}
first-asks {b} (f2 x) = record {
  starts = rw (le-ltb b 0x80 (omega (arith, x.low)), le-leb 0xC2 b x.low, le-leb b 0xF4 (omega (arith, x.high)));
  many = rw (le-ltb b 0x80 (omega (arith, x.low)), lt-ltb b 0xE0 (omega (arith, x.high)));
  least = rw (ne_eqb b 0xE0 (omega (arith, x.high)), ne_eqb b 0xF0 (omega (arith, x.high)));
  most = rw (ne_eqb b 0xF4 (omega (arith, x.high)));
}
first-asks (f3a x) = record { starts = rw x; many = rw x; least = rw x; most = rw x }
first-asks {b} (f3 x) = record {
  starts = rw (le-ltb b 0x80 (omega (arith, x.low)), le-leb 0xC2 b (omega (arith, x.low)), le-leb b 0xF4 (omega (arith, x.high)));
  many = rw (le-ltb b 0x80 (omega (arith, x.low)), le-ltb b 0xE0 (omega (arith, x.low)), lt-ltb b 0xF0 (omega (arith, x.high)));
  least = rw (ne_eqb b 0xE0 (omega (arith, x.low)), ne_eqb b 0xF0 (omega (arith, x.high)));
  most = rw (ne_eqb b 0xF4 (omega (arith, x.high)));
}
first-asks (f4a x) = record { starts = rw x; many = rw x; least = rw x; most = rw x }
first-asks {b} (f4 x) = record {
  starts = rw (le-ltb b 0x80 (omega (arith, x.low)), le-leb 0xC2 b (omega (arith, x.low)), le-leb b 0xF4 (omega (arith, x.high)));
  many = rw (le-ltb b 0x80 (omega (arith, x.low)), le-ltb b 0xE0 (omega (arith, x.low)), le-ltb b 0xF0 (omega (arith, x.low)));
  least = rw (ne_eqb b 0xE0 (omega (arith, x.low)), ne_eqb b 0xF0 (omega (arith, x.low)));
  most = rw (ne_eqb b 0xF4 (omega (arith, x.high)));
}
first-asks (f4b x) = record { starts = rw x; many = rw x; least = rw x; most = rw x }

-- from the forms to the scan
leads : {b k l h : ℕ} (lo hi : ℕ) (s : List ℕ) → First b k l h → scan k l h s ≡ true → scan 0 lo hi (b ∷ s) ≡ true
leads {b} lo hi s f e = let a = first-asks f in scan-first lo hi b s ∙ rw (a.starts, a.many, a.least, a.most) e

goes : (n : ℕ) {lo hi c : ℕ} (s : List ℕ) → In lo hi c → scan n 0x80 0xBF s ≡ true → scan (suc n) lo hi (c ∷ s) ≡ true
goes n {lo} {hi} {c} s x e = scan-due n lo hi c s ∙ rw (le-leb _ _ x.low, le-leb _ _ x.high) e

scans : {s : List ℕ} → Utf8 s → (lo hi : ℕ) → scan 0 lo hi s ≡ true
scans empty lo hi = scan-end lo hi
scans (x00-7f x u) lo hi = leads lo hi _ (f1 x) (scans u _ _)
scans (xc2-df x c u) lo hi = leads lo hi _ (f2 x) (goes 0 _ c (scans u _ _))
scans (xe0 x c d u) lo hi = leads lo hi _ (f3a x) (goes 1 _ c (goes 0 _ d (scans u _ _)))
scans (xe1-ef x c d u) lo hi = leads lo hi _ (f3 x) (goes 1 _ c (goes 0 _ d (scans u _ _)))
scans (xf0 x c d e u) lo hi = leads lo hi _ (f4a x) (goes 2 _ c (goes 1 _ d (goes 0 _ e (scans u _ _))))
scans (xf1-f3 x c d e u) lo hi = leads lo hi _ (f4 x) (goes 2 _ c (goes 1 _ d (goes 0 _ e (scans u _ _))))
scans (xf4 x c d e u) lo hi = leads lo hi _ (f4b x) (goes 2 _ c (goes 1 _ d (goes 0 _ e (scans u _ _))))

-- from the scan to the forms
record Some (b : ℕ) : Type 0 where
  k : ℕ
  l : ℕ
  h : ℕ
  is : First b k l h

begins-high : (b : ℕ) → 0x80 ≤ b → begins b ≡ true → (0xC2 ≤ b) × (b ≤ 0xF4)
unfolding begins
begins-high b l e = let y = (and-eq-true_iff (leb 0xC2 b) (leb b 0xF4)).0 (rw (le-ltb b 0x80 l) at e) in (leb-true _ _ y.0, leb-true _ _ y.1)

some_first : (b : ℕ) → begins b ≡ true → Some b
some_first b e = go (ltb b 0x80) refl
  where
    last : 0xF0 < b → b ≤ 0xF4 → (c : Bool) → eqb b 0xF4 ≡ c → Some b
    last l h true e₆ = record { k = 3; l = 0x80; h = 0x8F; is = f4b (eqb-true _ _ e₆) }
    last l h false e₆ = let n = eqb-false b 0xF4 e₆ in record { k = 3; l = 0x80; h = 0xBF; is = f4 (record { low = omega arith; high = omega (arith, n) }) }

    four : 0xF0 ≤ b → b ≤ 0xF4 → (c : Bool) → eqb b 0xF0 ≡ c → Some b
    four l h true e₅ = record { k = 3; l = 0x90; h = 0xBF; is = f4a (eqb-true _ _ e₅) }
    four l h false e₅ = let n = eqb-false b 0xF0 e₅ in last (omega (arith, n)) h (eqb b 0xF4) refl

    three : 0xE0 < b → b ≤ 0xF4 → (c : Bool) → ltb b 0xF0 ≡ c → Some b
    three l h true e₄ = record { k = 2; l = 0x80; h = 0xBF; is = f3 (record { low = omega arith; high = omega (arith, ltb-true b 0xF0 e₄) }) }
    three l h false e₄ = four (ltb-false b 0xF0 e₄) h (eqb b 0xF0) refl

    more : 0xE0 ≤ b → b ≤ 0xF4 → (c : Bool) → eqb b 0xE0 ≡ c → Some b
    more l h true e₃ = record { k = 2; l = 0xA0; h = 0xBF; is = f3a (eqb-true _ _ e₃) }
    more l h false e₃ = let n = eqb-false b 0xE0 e₃ in three (omega (arith, n)) h (ltb b 0xF0) refl

    two : (0xC2 ≤ b) × (b ≤ 0xF4) → (c : Bool) → ltb b 0xE0 ≡ c → Some b
    two x true e₂ = record { k = 1; l = 0x80; h = 0xBF; is = f2 (record { low = x.0; high = omega (arith, ltb-true b 0xE0 e₂) }) }
    two x false e₂ = more (ltb-false b 0xE0 e₂) x.1 (eqb b 0xE0) refl

    go : (c : Bool) → ltb b 0x80 ≡ c → Some b
    go true e₁ = record { k = 0; l = 0x80; h = 0xBF; is = f1 (record { low = omega arith; high = omega (arith, ltb-true b 0x80 e₁) }) }
    go false e₁ = two (begins-high b (ltb-false b 0x80 e₁) e) (ltb b 0xE0) refl

record More (n lo hi : ℕ) (s : List ℕ) : Type 0 where
  c : ℕ
  t : List ℕ
  is : s ≡ c ∷ t
  fits : In lo hi c
  rest : scan n 0x80 0xBF t ≡ true

more : (n lo hi : ℕ) (s : List ℕ) → scan (suc n) lo hi s ≡ true → More n lo hi s
more n lo hi [] e = absurd (true-false _ e (scan-short n lo hi))
more n lo hi (c ∷ t) e =
    let x = (and-eq-true_iff _ _).0 (sym (scan-due n lo hi c t) ∙ e) in
    let y = (and-eq-true_iff _ _).0 x.0 in
    record { c = c; t = t; is = refl; fits = record { low = leb-true _ _ y.0; high = leb-true _ _ y.1 }; rest = x.1 }

begun : (b : ℕ) (s : List ℕ) (lo hi : ℕ) → scan 0 lo hi (b ∷ s) ≡ true → (begins b ≡ true) × (scan (follow b) (lowest b) (highest b) s ≡ true)
begun b s lo hi e = (and-eq-true_iff (begins b) _).0 (sym (scan-first lo hi b s) ∙ e)

asked : {b k l h : ℕ} (s : List ℕ) → First b k l h → scan (follow b) (lowest b) (highest b) s ≡ true → scan k l h s ≡ true
asked s f e = let a = first-asks f in rw (a.many, a.least, a.most) at e

-- q bounds the length
forms : (q : ℕ) (s : List ℕ) → length s ≤ q → (lo hi : ℕ) → scan 0 lo hi s ≡ true → Utf8 s
forms zero [] l lo hi e = empty
forms zero (b ∷ s) l lo hi e = absurd (omega arith)
forms (suc q) [] l lo hi e = empty
forms (suc q) (b ∷ s) l lo hi e = let x = begun b s lo hi e in let f = some_first b x.0 in go f.is (asked s f.is x.1) (λ t k u. forms q t k 0x80 0xBF u)
  where
    go : {k lo hi : ℕ} → First b k lo hi → scan k lo hi s ≡ true → ((t : List ℕ) → length t ≤ q → scan 0 0x80 0xBF t ≡ true → Utf8 t) → Utf8 (b ∷ s)
    go (f1 x) u r = x00-7f x (r s (omega arith) u)
    go (f2 x) u r =
        let m = more 0 _ _ s u in
        rw m.is (xc2-df x m.fits (r m.t (omega (arith, ap length m.is)) m.rest))
    go (f3a x) u r =
        let m = more 1 _ _ s u in let n = more 0 _ _ m.t m.rest in
        rw (m.is, n.is) (xe0 x m.fits n.fits (r n.t (omega (arith, ap length m.is, ap length n.is)) n.rest))
    go (f3 x) u r =
        let m = more 1 _ _ s u in let n = more 0 _ _ m.t m.rest in
        rw (m.is, n.is) (xe1-ef x m.fits n.fits (r n.t (omega (arith, ap length m.is, ap length n.is)) n.rest))
    go (f4a x) u r =
        let m = more 2 _ _ s u in let n = more 1 _ _ m.t m.rest in let o = more 0 _ _ n.t n.rest in
        rw (m.is, n.is, o.is) (xf0 x m.fits n.fits o.fits (r o.t (omega (arith, ap length m.is, ap length n.is, ap length o.is)) o.rest))
    go (f4 x) u r =
        let m = more 2 _ _ s u in let n = more 1 _ _ m.t m.rest in let o = more 0 _ _ n.t n.rest in
        rw (m.is, n.is, o.is) (xf1-f3 x m.fits n.fits o.fits (r o.t (omega (arith, ap length m.is, ap length n.is, ap length o.is)) o.rest))
    go (f4b x) u r =
        let m = more 2 _ _ s u in let n = more 1 _ _ m.t m.rest in let o = more 0 _ _ n.t n.rest in
        rw (m.is, n.is, o.is) (xf4 x m.fits n.fits o.fits (r o.t (omega (arith, ap length m.is, ap length n.is, ap length o.is)) o.rest))

pub utf8-iff : (s : List ℕ) → (utf8 s ≡ true) ↔ Utf8 s
unfolding utf8
utf8-iff s = (λ e. forms (length s) s (omega arith) 0 0 e, λ u. scans u 0 0)
