-- Writes in the two places where a message grows: bytes in place, and behind them the data area.
use Prim.Native.Nat.{ℕ, ◌+◌, ◌-◌, ◌<◌, ◌≤◌}
use mathlib.Core.Path.{◌≡◌, refl, sym, ap, ◌∙◌}
use mathlib.Core.List.{List, [], ◌∷◌, ◌++◌, append_assoc}
use native.Mathlib.Omega.{arith}
use lib.ListN.{length, replicate, set, length-append}
use Rattle.wire.specs.Bytes.{part, splice}
use Rattle.wire.proofs.Laws.{length-splice, splice-append, splice-commute, splice-before, splice-cons, splice-nil, splice-part}
use Rattle.writing.specs.Write.{put}

pub length-put : (at free : ℕ) (F D out : List ℕ) → at + length F ≤ free → free + length D ≤ length out → length (put at free F D out) ≡ length out
length-put at free F D out h l =
    let k = length-splice (length F) at F out (omega arith) refl in
    length-splice (length D) free D (splice (length F) at F out) (omega (arith, k)) refl ∙ k

-- one writing and then another; and another whose bytes stand before those of the first
module _ (at free w end : ℕ) (F F' E D D' G out mid : List ℕ) (eD : end ≡ free + length D) (eG : G ≡ D ++ D') where
  pub put_next : length F ≡ w → mid ≡ put at free F D out → E ≡ F ++ F' → at + w + length F' ≤ free → end + length D' ≤ length out
      → put (at + w) end F' D' mid ≡ put at free E G out
  put_next eF m eE h l =
      let o = splice (length F) at F out in
      let k : length o ≡ length out = length-splice (length F) at F out (omega arith) refl in
      let k' : length (splice (length F') (at + length F) F' o) ≡ length o = length-splice (length F') (at + length F) F' o (omega (arith, k)) refl in
      rw (m, eE, eG, eD, ← eF, length-append F F', length-append D D') (
      ap (splice (length D') (free + length D) D') (splice-commute (length F') (length D) (at + length F) free F' D refl (omega (arith, eF, h)) o (omega (arith, k)))
      ∙ splice-append (length D) (length D') free D D' (splice (length F') (at + length F) F' o) refl (omega (arith, k, k'))
      ∙ ap (splice (length D + length D') free (D ++ D')) (splice-append (length F) (length F') at F F' out refl (omega arith)))

  pub put_back : length F' ≡ w → mid ≡ put (at + w) free F D out → E ≡ F' ++ F → at + w + length F ≤ free → end + length D' ≤ length out
      → put at end F' D' mid ≡ put at free E G out
  put_back eF m eE h l =
      let o = splice (length F) (at + length F') F out in
      let k : length o ≡ length out = length-splice (length F) (at + length F') F out (omega arith) refl in
      let k' : length (splice (length F') at F' o) ≡ length o = length-splice (length F') at F' o (omega (arith, k)) refl in
      rw (m, eE, eG, eD, ← eF, length-append F' F, length-append D D') (
      ap (splice (length D') (free + length D) D') (splice-commute (length F') (length D) at free F' D refl (omega arith) o (omega (arith, k)))
      ∙ splice-append (length D) (length D') free D D' (splice (length F') at F' o) refl (omega (arith, k, k'))
      ∙ ap (splice (length D + length D') free (D ++ D')) (splice-before (length F') (length F) at (at + length F') F' F out refl refl (omega arith)))

-- a value's own bytes and what hangs on it
pub put-behind : (n at free : ℕ) (X Y F D out : List ℕ) → length X ≡ n → F ≡ [] → D ≡ X ++ Y → free + n ≤ length out → put free (free + n) X Y out ≡ put at free F D out
put-behind n at free X Y F D out l eF eD h =
    rw (eF, eD, ← l) (splice-append (length X) (length Y) free X Y out refl (omega arith) ∙ rw (← length-append X Y, splice-nil at out))

-- bytes in place before the others
pub put-head : (n at free : ℕ) (c F E D out mid : List ℕ) → length c ≡ n → mid ≡ splice n at c out → E ≡ c ++ F → at + n ≤ length out → put (at + n) free F D mid ≡ put at free E D out
put-head n at free c F E D out mid l m e h =
    rw (m, e, ← l) (ap (splice (length D) free D) (splice-append (length c) (length F) at c F out refl (omega arith)) ∙ rw (length-append c F))

-- in a lent part
pub put-part : (n free : ℕ) (D out : List ℕ) → length D ≤ n → splice n free (put 0 0 [] D (part n free out)) out ≡ splice (length D) free D out
put-part n free D out h = let e : free + 0 ≡ free = omega arith in rw (splice-nil 0 (part n free out)) (splice-part (length D) 0 n free D out (omega arith) ∙ rw e)

-- a group: its type id, the bytes in place with the data area behind them, and its size word last
pub put-group : (w : ℕ) (size id F D out mid last left : List ℕ) → length size ≡ 4 → length id ≡ 8 → length F ≡ 4 + w → mid ≡ splice 8 4 id out → last ≡ put 12 (16 + w) F D mid → left ≡ splice 4 0 size last
    → 16 + w + length D ≤ length out → left ≡ splice (length (size ++ (id ++ (F ++ D)))) 0 (size ++ (id ++ (F ++ D))) out
put-group w size id F D out mid last left ls li lF m l e h =
    let n : ℕ = length F in
    let a : mid ≡ splice 8 4 id out = m in
    let q : 16 + w ≡ 4 + (8 + n) = omega (arith, lF) in
    let lI : length (id ++ F) ≡ 8 + n = length-append id F ∙ rw li in
    let b : last ≡ splice (8 + n + length D) 4 ((id ++ F) ++ D) out =
    l ∙ rw (q, m) (ap (splice (length D) (4 + (8 + n)) D) (splice-append 8 n 4 id F out li (omega (arith, lF, h))) ∙ splice-append (8 + n) (length D) 4 (id ++ F) D out lI (omega (arith, lF, h))) in
    let k : length (size ++ (id ++ (F ++ D))) ≡ 4 + (8 + n + length D) = simp length-append (omega (arith, ls, li)) in
    e ∙ ap (splice 4 0 size) b ∙ splice-before 4 (8 + n + length D) 0 4 size ((id ++ F) ++ D) out refl ls (omega (arith, lF, h)) ∙ rw (k, append_assoc id F D)

-- one byte
pub put-byte : (at y : ℕ) (out left : List ℕ) → left ≡ set out at y → at < length out → left ≡ splice 1 at (y ∷ []) out
put-byte at y out left e h = e ∙ sym (splice-cons 0 at y [] out h ∙ splice-nil (at + 1) (set out at y))

-- text in place: its count, its bytes, and zeros up to the capacity
pub put-inline : (n c at : ℕ) (v out first mid left : List ℕ) → first ≡ splice 1 at (n ∷ []) out → mid ≡ splice n (at + 1) v first → left ≡ splice (c - n) (at + 1 + n) (replicate (c - n) 0) mid
    → length v ≡ n → n ≤ c → at + (1 + c) ≤ length out → left ≡ splice (1 + c) at (n ∷ (v ++ replicate (c - n) 0)) out
put-inline n c at v out first mid left e f g l h r =
    let a : mid ≡ splice (1 + n) at (n ∷ v) out = f ∙ rw e (splice-append 1 n at (n ∷ []) v out refl (omega arith)) in
    let k : length (n ∷ v) ≡ 1 + n = omega (arith, l) in
    let p : at + 1 + n ≡ at + (1 + n) = omega arith in
    let q : 1 + n + (c - n) ≡ 1 + c = omega arith in
    g ∙ rw (a, p, ← q) (splice-append (1 + n) (c - n) at (n ∷ v) (replicate (c - n) 0) out k (omega arith))
