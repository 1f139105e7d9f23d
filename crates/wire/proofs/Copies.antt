-- Copies: what is copied, and what is still to copy.
use Prim.Native.Nat.{ℕ, ◌+◌, ◌-◌, ◌≤◌}
use mathlib.Core.Path.{◌≡◌, refl, sym, ◌∙◌}
use mathlib.Core.List.{List, []}
use native.Mathlib.Omega.{arith}
use native.Mathlib.Nat.{sub-zero, add-zero}
use lib.ListN.{length, get_or, set}
use Rattle.wire.specs.Bytes.{part, splice}
use Rattle.wire.proofs.Laws.{drop_more, part-add, length_part, splice-append, splice-before, splice-cons, splice-nil}

-- two copies in a row are one
pub copied-both : (m n at from : ℕ) (s out mid left : List ℕ) → from + (m + n) ≤ length s → at + (m + n) ≤ length out
    → mid ≡ splice m at (part m from s) out → left ≡ splice n (at + m) (part n (from + m) s) mid → left ≡ splice (m + n) at (part (m + n) from s) out
copied-both m n at from s out mid left h r e f =
    f ∙ rw (e, part-add m n from s) (splice-append m n at (part m from s) (part n (from + m) s) out (length_part m from s (omega arith)) (omega arith))

-- of n bytes to copy, the last m are copied
pub copied-last : (n k m at from : ℕ) (s out mid : List ℕ) → n ≡ k + m → from + n ≤ length s → at + n ≤ length out
    → mid ≡ splice m (at + k) (part m (from + k) s) out → splice n at (part n from s) out ≡ splice k at (part k from s) mid
copied-last n k m at from s out mid q h r e =
    rw (q, e, part-add k m from s) (sym (splice-before k m at (at + k) (part k from s) (part m (from + k) s) out refl (length_part k from s (omega arith)) (omega arith)))

-- n bytes to copy, of which the first w are copied and k are left
pub copied-first : (n w k from at : ℕ) (s out mid : List ℕ) → n ≡ w + k → from + n ≤ length s → at + n ≤ length out → mid ≡ splice w at (part w from s) out
    → splice n at (part n from s) out ≡ splice k (at + w) (part k (from + w) s) mid
copied-first n w k from at s out mid q h r l =
    rw (q, l, part-add w k from s) (sym (splice-append w k at (part w from s) (part k (from + w) s) out (length_part w from s (omega arith)) (omega arith)))

-- the same from the byte i on, up to the byte j
pub words-next : (n i w j from at : ℕ) (s out mid : List ℕ) → j ≡ i + w → j ≤ n → from + n ≤ length s → at + n ≤ length out → mid ≡ splice w (at + i) (part w (from + i) s) out
    → splice (n - i) (at + i) (part (n - i) (from + i) s) out ≡ splice (n - j) (at + j) (part (n - j) (from + j) s) mid
words-next n i w j from at s out mid q l h r m =
    let p : from + j ≡ from + i + w = omega arith in
    let a : at + j ≡ at + i + w = omega arith in
    rw (p, a) (copied-first (n - i) w (n - j) (from + i) (at + i) s out mid (omega arith) (omega arith) (omega arith) m)

pub words-start : (n from at : ℕ) (s out : List ℕ) → splice n at (part n from s) out ≡ splice (n - 0) (at + 0) (part (n - 0) (from + 0) s) out
words-start n from at s out = rw (sub-zero, add-zero, add-zero)

pub words-none : (n i from at : ℕ) (s out : List ℕ) → n ≤ i → splice (n - i) (at + i) (part (n - i) (from + i) s) out ≡ out
words-none n i from at s out h = let q : n - i ≡ 0 = omega arith in rw q (splice-nil (at + i) out)

pub words_last : (n i from at : ℕ) (s out : List ℕ) → n ≡ i + 1 → from + n ≤ length s → at + n ≤ length out → splice (n - i) (at + i) (part (n - i) (from + i) s) out ≡ set out (at + i) (get_or s (from + i) 0)
words_last n i from at s out e h r =
    let q : n - i ≡ 1 = omega arith in
    rw (q, drop_more s (from + i) (omega arith)) (splice-cons 0 (at + i) (get_or s (from + i) 0) [] out (omega arith) ∙ splice-nil (at + i + 1) _)
