-- Laws of the characters' definitions.
use Prim.Native.Nat.{ℕ, zero, suc, ◌+◌, ◌-◌, ◌<◌, ◌≤◌}
use mathlib.Core.Path.{◌≡◌, refl, ap, ◌∙◌}
use mathlib.Core.Bool.{Bool, true, false, ◌&&◌, and-eq-true_iff, false≢true}
use mathlib.Core.List.{List}
use native.Mathlib.Omega.{arith}
use native.Mathlib.Nat.{add-zero}
use lib.ListN.{length, get_or, take, drop, length-drop, get_or-eq_default}
use lib.Seq.{take_all, get_or-drop}
use lib.Dec.{leb, ltb}
use borrow.Author.Tests.{lt-ltb, le-ltb, leb-true, ltb-true, ltb-false}
use Rattle.values.specs.declared.characters.Piece.{Piece}
use Rattle.values.specs.declared.characters.Kind.TheVariants.{Broken}
use Rattle.values.specs.Characters.{follows, is_two, is_three, is_four, two, three, four, whole, piece_of, piece_at, Stays, is_plain, plain_from}

-- WHAT BEGINS WITH A BYTE

abbrev broken : ℕ → Piece
broken b = record { length = 1; code = b; kind = Broken }

module _ (b c d e : ℕ) where
  pub piece-one : b < 0x80 → piece_of b c d e ≡ whole 1 b
  unfolding piece_of
  piece-one h = rw (lt-ltb _ _ h)

  module _ (h : 0x80 ≤ b) where
    pub piece-two : is_two b c ≡ true → piece_of b c d e ≡ whole 2 (two b c)
    unfolding piece_of
    piece-two t = simp (le-ltb _ _ h, t, piece_of)

    pub piece-three : is_two b c ≡ false → is_three b c d ≡ true → piece_of b c d e ≡ whole 3 (three b c d)
    unfolding piece_of
    piece-three t u = simp (le-ltb _ _ h, t, u, piece_of)

    pub piece-four : is_two b c ≡ false → is_three b c d ≡ false → is_four b c d e ≡ true → piece_of b c d e ≡ whole 4 (four b c d e)
    unfolding piece_of
    piece-four t u v = simp (le-ltb _ _ h, t, u, v, piece_of)

    pub piece-none : is_two b c ≡ false → is_three b c d ≡ false → is_four b c d e ≡ false → piece_of b c d e ≡ broken b
    unfolding piece_of
    piece-none t u v = simp (le-ltb _ _ h, t, u, v, piece_of)

-- what begins with the bytes of what is left of a text
abbrev pub left : List ℕ → ℕ → ℕ → ℕ
left s i k = get_or (take (length s - i) (drop i s)) k 0

pub read : (s : List ℕ) (i : ℕ) (p : Piece) {b c d e : ℕ} → i ≤ length s → p ≡ piece_of b c d e → b ≡ left s i 0 → c ≡ left s i 1 → d ≡ left s i 2 → e ≡ left s i 3
    → p ≡ piece_of (get_or s i 0) (get_or s (i + 1) 0) (get_or s (i + 2) 0) (get_or s (i + 3) 0)
read s i p h x b c d e = cc (byte 1, byte 2, byte 3, byte 0 ∙ ap (λ (k : ℕ). get_or s k 0) (add-zero i))
  where
    byte : (k : ℕ) → left s i k ≡ get_or s (i + k) 0
    byte k = rw (take_all (length s - i) (drop i s) (simp length-drop (omega arith))) (get_or-drop i s k 0)

-- A byte of a text that goes on with a character stands inside the text.
inside : (s : List ℕ) (i : ℕ) → follows (get_or s i 0) ≡ true → i < length s
unfolding follows
inside s i h = go (ltb i (length s)) refl where
  go : (t : Bool) → ltb i (length s) ≡ t → i < length s
  go true e = ltb-true _ _ e
  go false e =
      let l = leb-true 0x80 (get_or s i 0) ((and-eq-true_iff (leb 0x80 (get_or s i 0)) (ltb (get_or s i 0) 0xC0)).0 h).0 in
      let z = get_or-eq_default s 0 {n = i} (ltb-false _ _ e) in
      absurd (omega arith)

-- a test among others that all hold
second : (a b c d : Bool) → (a && b && c && d) ≡ true → b ≡ true
second true true c d h = refl
second true false c d h = h
second false b c d h = absurd (false≢true h)

middle : (a b c : Bool) → (a && b && c) ≡ true → b ≡ true
middle true true c h = refl
middle true false c h = h
middle false b c h = absurd (false≢true h)

last : (a b : Bool) → (a && b) ≡ true → b ≡ true
last true b h = h
last false b h = absurd (false≢true h)

-- A piece ends inside the text, and is not empty where the text goes on.
module _ (s : List ℕ) (at : ℕ) where
  pub behind : length s ≤ at → piece_at s at ≡ record { length = 0; code = 0; kind = Broken }
  unfolding piece_at
  behind h = rw (le-ltb _ _ h)

  pub before-end : at < length s → piece_at s at ≡ piece_of (get_or s at 0) (get_or s (at + 1) 0) (get_or s (at + 2) 0) (get_or s (at + 3) 0)
  unfolding piece_at
  before-end h = rw (lt-ltb _ _ h)

  -- where the text goes on, a piece is not empty and ends inside it
  module _ (h : at < length s) where
    abbrev Fits : Piece → Type 0
    Fits p = (0 < p.length) × (at + p.length ≤ length s)

    abbrev b : ℕ
    b = get_or s at 0

    abbrev c : ℕ
    c = get_or s (at + 1) 0

    abbrev d : ℕ
    d = get_or s (at + 2) 0

    abbrev e : ℕ
    e = get_or s (at + 3) 0

    fits-four : 0x80 ≤ b → is_two b c ≡ false → is_three b c d ≡ false → (t : Bool) → is_four b c d e ≡ t → Fits (piece_of b c d e)
    unfolding is_four whole
    fits-four l t u true v =
        let f =
        second (leb 0xF0 b && ltb b 0xF8 && follows c && follows d) (follows e) (leb 0x10000 (four b c d e)) (leb (four b c d e) 0x10FFFF) v in
        let k = inside s (at + 3) f in
        rw (piece-four b c d e l t u v) (omega arith, omega arith)
    fits-four l t u false v = rw (piece-none b c d e l t u v) (omega arith, omega arith)

    fits-three : 0x80 ≤ b → is_two b c ≡ false → (t : Bool) → is_three b c d ≡ t → Fits (piece_of b c d e)
    unfolding is_three whole
    fits-three l t true u =
        let f = middle (leb 0xE0 b && ltb b 0xF0 && follows c) (follows d) (leb 0x800 (three b c d)) u in
        let k = inside s (at + 2) f in
        rw (piece-three b c d e l t u) (omega arith, omega arith)
    fits-three l t false u = fits-four l t u _ refl

    fits-two : 0x80 ≤ b → (t : Bool) → is_two b c ≡ t → Fits (piece_of b c d e)
    unfolding is_two whole
    fits-two l true t =
        let k = inside s (at + 1) (last (leb 0xC2 b && ltb b 0xE0) (follows c) t) in
        rw (piece-two b c d e l t) (omega arith, omega arith)
    fits-two l false t = fits-three l t _ refl

    fits_one : (t : Bool) → ltb b 0x80 ≡ t → Fits (piece_of b c d e)
    unfolding whole
    fits_one true l = rw (piece-one b c d e (ltb-true _ _ l)) (omega arith, omega arith)
    fits_one false l = fits-two (ltb-false _ _ l) _ refl

    pub stays : (p : Piece) → p ≡ piece_of b c d e → Stays s at p.length
    stays p i = let f = fits_one _ refl in rw i (record { inside = omega arith; some = omega arith })

-- RUNS

module _ (s : List ℕ) (i : ℕ) (p : Piece) (e : p ≡ piece_at s i) where
  pub run_on : (k : ℕ) → 0 < k → is_plain p.kind ≡ true → plain_from k s i ≡ p.length + plain_from (k - 1) s (i + p.length)
  unfolding plain_from
  run_on zero h t = absurd (omega arith)
  run_on (suc k) h t = let n : suc k - 1 ≡ k = omega arith in let u = rw e at t in rw (e, n, u)

  pub run-stop : (k : ℕ) → is_plain p.kind ≡ false → plain_from k s i ≡ 0
  unfolding plain_from
  run-stop zero t = refl
  run-stop (suc k) t = let u = rw e at t in rw u

-- nothing plain stands behind the end
pub plain_inside : (s : List ℕ) (i : ℕ) (p : Piece) → p ≡ piece_at s i → is_plain p.kind ≡ true → i < length s
unfolding is_plain
plain_inside s i p e t = go (ltb i (length s)) refl where
  go : (b : Bool) → ltb i (length s) ≡ b → i < length s
  go true l = ltb-true _ _ l
  go false l = let u = rw (e, behind s i (ltb-false _ _ l)) at t in absurd (false≢true u)
