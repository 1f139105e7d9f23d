-- The scan of a text, form by form.
use Prim.Native.Nat.{ℕ, zero, suc, ◌+◌, ◌-◌, ◌*◌, ◌/◌, ◌^◌, ◌<◌, ◌≤◌}
use mathlib.Core.Path.{◌≡◌, refl, sym, ap, ◌∙◌}
use mathlib.Core.Bool.{Bool, true, false, cond, ◌&&◌}
use mathlib.Core.List.{List, [], ◌∷◌}
use native.Mathlib.Omega.{arith}
use native.Mathlib.Nat.{mod-eq_of_lt}
use lib.Bits.{bit_and, and_block, and_high}
use lib.ListN.{length, get_or, drop, replicate, drop_of_length-le}
use lib.Seq.{get_or-take, get_or-drop}
use lib.Dec.{leb, ltb}
use borrow.Author.Tests.{lt-ltb, le-ltb, ltb-true, ltb-false}
use Rattle.wire.specs.Bytes.{part, le}
use Rattle.wire.specs.Utf8.{Text, valid, broken, after, begins, follow, lowest, highest, text_from, is_valid, utf8}
use Rattle.wire.specs.Scan.{Form, all_ascii, next}
use Rattle.wire.proofs.Laws.{drop_more, length_part}

valid-after : (t : Text) → is_valid (after t) ≡ is_valid t
unfolding is_valid after
valid-after valid = refl
valid-after (broken n) = refl

-- where no byte is due, the bounds of the next do not matter
any-bounds : (s : List ℕ) (low high : ℕ) → is_valid (text_from 0 low high s) ≡ utf8 s
unfolding text_from utf8
any-bounds [] low high = refl
any-bounds (b ∷ s) low high = refl

module _ (s : List ℕ) (at : ℕ) where
  -- the first byte of a form
  pub starts : (k : ℕ) {low high : ℕ} → at < length s → begins (get_or s at 0) ≡ true → follow (get_or s at 0) ≡ k → low ≡ lowest (get_or s at 0) → high ≡ highest (get_or s at 0)
      → utf8 (drop at s) ≡ is_valid (text_from k low high (drop (at + 1) s))
  unfolding utf8 text_from
  starts k h b f l u = rw (drop_more s at h, b, f, l, u) (valid-after _)

  pub no_start : at < length s → begins (get_or s at 0) ≡ false → utf8 (drop at s) ≡ false
  unfolding utf8 text_from is_valid
  no_start h b = rw (drop_more s at h, b)

  -- a byte that is due, at p
  pub fits : (k p low high : ℕ) → utf8 (drop at s) ≡ is_valid (text_from (suc k) low high (drop p s)) → next s p low high ≡ true
      → utf8 (drop at s) ≡ is_valid (text_from k 0x80 0xBF (drop (p + 1) s))
  unfolding text_from
  fits k p low high so e = so ∙ go (ltb p (length s)) refl e
    where
      go : (b : Bool) → ltb p (length s) ≡ b → b && (leb low (get_or s p 0) && leb (get_or s p 0) high) ≡ true
          → is_valid (text_from (suc k) low high (drop p s)) ≡ is_valid (text_from k 0x80 0xBF (drop (p + 1) s))
      go true l f = rw (drop_more s p (ltb-true _ _ l), f) (valid-after _)
      go false l f = cc

  pub misfits : (k p low high : ℕ) → utf8 (drop at s) ≡ is_valid (text_from (suc k) low high (drop p s)) → next s p low high ≡ false → utf8 (drop at s) ≡ false
  unfolding text_from is_valid
  misfits k p low high so e = so ∙ go (ltb p (length s)) refl e
    where
      go : (b : Bool) → ltb p (length s) ≡ b → b && (leb low (get_or s p 0) && leb (get_or s p 0) high) ≡ false
          → is_valid (text_from (suc k) low high (drop p s)) ≡ false
      go true l f = rw (drop_more s p (ltb-true _ _ l), f)
      go false l f = rw (drop_of_length-le s (ltb-false _ _ l))

  -- no byte is due
  pub ends : (n low high : ℕ) → at + suc n ≤ length s → utf8 (drop at s) ≡ is_valid (text_from 0 low high (drop (at + suc n) s)) → Form s at (suc n)
  ends n low high h so = record { some = omega arith; inside = h; passes = so ∙ any-bounds _ _ _ }

  pub inside : (p low high : ℕ) → next s p low high ≡ true → p < length s
  inside p low high e = ltb-true _ _ (first (ltb p (length s)) _ e)
    where
      first : (a b : Bool) → a && b ≡ true → a ≡ true
      first true b e = refl
      first false b e = e

-- how many bytes follow a first byte that is no ASCII
module _ (b : ℕ) (h : 0x80 ≤ b) where
  pub follow-some : follow b ≡ suc (follow b - 1)
  unfolding follow
  follow-some = rw (le-ltb _ _ h) (go (ltb b 0xE0) (ltb b 0xF0))
    where
      go : (x y : Bool) → cond x 1 (cond y 2 3) ≡ suc (cond x 1 (cond y 2 3) - 1)
      go true y = refl
      go false true = refl
      go false false = refl

  pub follow_one : b < 0xE0 → follow b ≡ 1
  unfolding follow
  follow_one l = rw (le-ltb _ _ h, lt-ltb _ _ l)

  pub follow-two : 0xE0 ≤ b → b < 0xF0 → follow b ≡ 2
  unfolding follow
  follow-two l m = rw (le-ltb _ _ h, le-ltb _ _ l, lt-ltb _ _ m)

  pub follow-three : 0xE0 ≤ b → 0xF0 ≤ b → follow b ≡ 3
  unfolding follow
  follow-three l m = rw (le-ltb _ _ h, le-ltb _ _ l, le-ltb _ _ m)

  -- two at least
  pub follow-more : 0xE0 ≤ b → follow b ≡ suc (suc (follow b - 2))
  unfolding follow
  follow-more l = rw (le-ltb _ _ h, le-ltb _ _ l) (go (ltb b 0xF0))
    where
      go : (y : Bool) → cond y 2 3 ≡ suc (suc (cond y 2 3 - 2))
      go true = refl
      go false = refl

-- a form of more than one byte, by the tests of the scan in their order
module _ (s : List ℕ) (at low high : ℕ) (h : at < length s) (n : 0x80 ≤ get_or s at 0) (g : begins (get_or s at 0) ≡ true) (l : low ≡ lowest (get_or s at 0)) (m : high ≡ highest (get_or s at 0)) where
  so : (k : ℕ) → follow (get_or s at 0) ≡ k → utf8 (drop at s) ≡ is_valid (text_from k low high (drop (at + 1) s))
  so k f = starts s at k h g f l m

  pub bad-second : next s (at + 1) low high ≡ false → utf8 (drop at s) ≡ false
  bad-second e = misfits s at _ _ low high (so _ (follow-some _ n)) e

  module _ (second : next s (at + 1) low high ≡ true) where
    after-second : (k : ℕ) → follow (get_or s at 0) ≡ suc k → utf8 (drop at s) ≡ is_valid (text_from k 0x80 0xBF (drop (at + 2) s))
    after-second k d = let p : at + 1 + 1 ≡ at + 2 = omega arith in rw p at (fits s at k (at + 1) low high (so (suc k) d) second)

    pub form-two : get_or s at 0 < 0xE0 → Form s at 2
    form-two w = let i = inside s at (at + 1) low high second in ends s at 1 0x80 0xBF (omega arith) (after-second 0 (follow_one _ n w))

    module _ (w : 0xE0 ≤ get_or s at 0) where
      pub bad-third : next s (at + 2) 0x80 0xBF ≡ false → utf8 (drop at s) ≡ false
      bad-third e = misfits s at _ _ 0x80 0xBF (after-second _ (follow-more _ n w)) e

      module _ (third : next s (at + 2) 0x80 0xBF ≡ true) where
        after-third : (k : ℕ) → follow (get_or s at 0) ≡ suc (suc k) → utf8 (drop at s) ≡ is_valid (text_from k 0x80 0xBF (drop (at + 3) s))
        after-third k d = let p : at + 2 + 1 ≡ at + 3 = omega arith in rw p at (fits s at k (at + 2) 0x80 0xBF (after-second (suc k) d) third)

        pub form-three : get_or s at 0 < 0xF0 → Form s at 3
        form-three x = let i = inside s at (at + 2) 0x80 0xBF third in ends s at 2 0x80 0xBF (omega arith) (after-third 0 (follow-two _ n w x))

        module _ (x : 0xF0 ≤ get_or s at 0) where
          pub bad-fourth : next s (at + 3) 0x80 0xBF ≡ false → utf8 (drop at s) ≡ false
          bad-fourth e = misfits s at 0 (at + 3) 0x80 0xBF (after-third 1 (follow-three _ n w x)) e

          pub form-four : next s (at + 3) 0x80 0xBF ≡ true → Form s at 4
          form-four fourth =
              let i = inside s at (at + 3) 0x80 0xBF fourth in
              let p : at + 3 + 1 ≡ at + 4 = omega arith in
              ends s at 3 0x80 0xBF (omega arith) (rw p at (fits s at 0 (at + 3) 0x80 0xBF (after-third 1 (follow-three _ n w x)) fourth))

-- ASCII

ascii-one : (s : List ℕ) (at : ℕ) → at < length s → get_or s at 0 < 0x80 → utf8 (drop at s) ≡ utf8 (drop (at + 1) s)
unfolding begins follow
ascii-one s at h l = starts s at 0 h (rw (lt-ltb _ _ l)) (rw (lt-ltb _ _ l)) refl refl ∙ any-bounds _ _ _

ascii_run : (n at : ℕ) (s : List ℕ) → at + n ≤ length s → ((k : ℕ) → k < n → get_or s (at + k) 0 < 0x80) → utf8 (drop at s) ≡ utf8 (drop (at + n) s)
ascii_run zero at s h l = let e : at + 0 ≡ at = omega arith in rw e
ascii_run (suc n) at s h l =
    let z : at + 0 ≡ at = omega arith in
    let e : at + suc n ≡ at + 1 + n = omega arith in
    ascii-one s at (omega arith) (rw z at (l 0 (omega arith)))
    ∙ ascii_run n (at + 1) s (omega arith) (λ k j. let f : at + 1 + k ≡ at + suc k = omega arith in rw f (l (suc k) (omega arith)))
    ∙ ap (λ (k : ℕ). utf8 (drop k s)) (sym e)

-- where no byte has its high bit, all are ASCII
low-bytes : (s : List ℕ) → ((k : ℕ) → k < length s → get_or s k 0 < 0x100) → bit_and (le s) (le (replicate (length s) 0x80)) ≡ 0 → (k : ℕ) → k < length s → get_or s k 0 < 0x80
unfolding le
low-bytes [] small e = λ k h. absurd (omega arith)
low-bytes (b ∷ s) small e =
    let m = le (replicate (length s) 0x80) in
    let p : b + 256 * le s ≡ le s * 2 ^ 8 + b = omega arith in
    let q : 0x80 + 256 * m ≡ m * 2 ^ 8 + 0x80 = omega arith in
    let l : b < 2 ^ 8 = small 0 (omega arith) in
    let f : bit_and (le s) m * 2 ^ 8 + bit_and b 0x80 ≡ 0 = sym (and_block 8 (le s) m b 0x80 l (omega arith)) ∙ (rw (p, q) at e) in
    let d : b / 2 ^ 7 < 2 = omega arith in
    go (omega (arith, f, and_high b 1 7, mod-eq_of_lt d)) (low-bytes s (λ k h. small (suc k) (omega arith)) (omega (arith, f)))
  where
    go : b < 0x80 → ((j : ℕ) → j < length s → get_or s j 0 < 0x80) → (k : ℕ) → k < length (b ∷ s) → get_or (b ∷ s) k 0 < 0x80
    go z r zero h = z
    go z r (suc k) h = r k (omega arith)

module _ (s : List ℕ) (at : ℕ) where
  pub one-ascii : at < length s → get_or s at 0 < 0x80 → Form s at 1
  one-ascii h l = record { some = omega arith; inside = omega arith; passes = ascii-one s at h l }

  pub eight-ascii : at + 8 ≤ length s → ((k : ℕ) → get_or s k 0 < 0x100) → bit_and (le (part 8 at s)) 0x8080808080808080 ≡ 0 → Form s at 8
  unfolding le
  eight-ascii h small e =
      let l = length_part 8 at s h in
      let same : (k : ℕ) → k < 8 → get_or (part 8 at s) k 0 ≡ get_or s (at + k) 0 = λ k j. get_or-take 8 (drop at s) k 0 j ∙ get_or-drop at s k 0 in
      let low = low-bytes (part 8 at s) (λ k j. rw (same k (omega arith)) (small (at + k))) (rw l e) in
      let run = ascii_run 8 at s h (λ k j. rw (same k j) at (low k (omega arith))) in
      record { some = omega arith; inside = h; passes = run }

pub both : (x y : Bool) → x && y ≡ true → (x ≡ true) × (y ≡ true)
both true y e = (refl, e)
both false y e = (e, cc)

-- two forms in a row, passed over at once
pub Form-add : (m n at : ℕ) (s : List ℕ) → Form s at m → Form s (at + m) n → Form s at (m + n)
Form-add m n at s f g =
    let p : at + m + n ≡ at + (m + n) = omega arith in
    record { some = omega (arith, f.some); inside = omega (arith, g.inside); passes = f.passes ∙ g.passes ∙ rw p }

-- four runs of eight are one of 32
pub four-eights : (at : ℕ) (s : List ℕ) → Form s at 8 → Form s (at + 8) 8 → Form s (at + 16) 8 → Form s (at + 24) 8 → Form s at 32
four-eights at s a b c d =
    let p : at + 8 + 8 ≡ at + 16 = omega arith in
    let q : at + 16 + 8 ≡ at + 24 = omega arith in
    Form-add 8 24 at s a (Form-add 8 16 (at + 8) s b (rw p (Form-add 8 8 (at + 16) s c (rw q d))))

-- a part that is all ASCII can be passed over
pub ascii-part : (n at : ℕ) (s : List ℕ) → at + n ≤ length s → all_ascii (part n at s) ≡ true → utf8 (drop at s) ≡ utf8 (drop (at + n) s)
unfolding all_ascii
ascii-part zero at s h e = let z : at + 0 ≡ at = omega arith in rw z
ascii-part (suc n) at s h e =
    let f : at + suc n ≡ at + 1 + n = omega arith in
    let x = both _ _ (rw (drop_more s at (omega arith)) at e) in
    ascii-one s at (omega arith) (ltb-true _ _ x.0) ∙ ascii-part n (at + 1) s (omega arith) x.1 ∙ ap (λ (k : ℕ). utf8 (drop k s)) (sym f)

-- THE END OF THE TEXT

pub utf8-end : (s : List ℕ) (at : ℕ) → length s ≤ at → utf8 (drop at s) ≡ true
unfolding utf8 text_from is_valid
utf8-end s at h = rw (drop_of_length-le s h)
