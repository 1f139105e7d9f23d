-- Writing a message part by part: what is left of a writing, and how each write and each call goes on from there.
use Prim.Native.Nat.{ℕ, ◌+◌, ◌≤◌}
use mathlib.Core.Path.{◌≡◌, refl, sym, ap, ◌∙◌}
use mathlib.Core.Bool.{Bool, true, false}
use mathlib.Core.List.{List, [], ◌++◌, append-nil}
use native.Mathlib.Omega.{arith}
use lib.ListN.{length, drop, length-append}
use Rattle.wire.specs.Bytes.{splice, bytes_of}
use Rattle.wire.proofs.Laws.{length-splice, splice-nil}
use Rattle.schema.specs.Faults.{need}
use Rattle.sheet.specs.Written.{Writing, stopped, wrote, headed, joined, next_w, placed, swapped, back_w}
use Rattle.sheet.proofs.Widths.{Wide, wide_is}
use Rattle.writing.specs.Write.{behind, put, Fits, Stands}
use Rattle.writing.proofs.Laws.{length-put, put_next, put_back, put-behind, put-head}

-- WHAT A WRITING IS MADE OF

-- whatever y writes, z writes
abbrev pub Opens : Writing → Writing → Type 0
Opens y z = (F D r : List ℕ) → y ≡ wrote F D r → z ≡ wrote F D r

module _ (F D r : List ℕ) where
  pub need-wrote : (c : Bool) (n p : ℕ) (k : Writing) → need c (stopped n p) k ≡ wrote F D r → (c ≡ true) × (k ≡ wrote F D r)
  unfolding need
  need-wrote true n p k e = (refl, e)
  need-wrote false n p k e = absurd (let z : ◌≡◌ {A = ℕ} 0 1 = cc in omega arith)

  pub headed-wrote : (c : List ℕ) (y : Writing) → headed c y ≡ wrote F D r → (F' : List ℕ) × (y ≡ wrote F' D r) × (F ≡ c ++ F')
  unfolding headed
  headed-wrote c (stopped n p) e = absurd (let z : ◌≡◌ {A = ℕ} 0 1 = cc in omega arith)
  headed-wrote c (wrote F' D' r') e = (F', cc, cc)

  pub behind-wrote : (y : Writing) → behind y ≡ wrote F D r → (X : List ℕ) × (Y : List ℕ) × (y ≡ wrote X Y r) × (D ≡ X ++ Y) × (F ≡ [])
  unfolding behind
  behind-wrote (stopped n p) e = absurd (let z : ◌≡◌ {A = ℕ} 0 1 = cc in omega arith)
  behind-wrote (wrote X Y r') e = (X, Y, cc, cc, cc)

  joined-wrote : (A B : List ℕ) (y : Writing) → joined A B y ≡ wrote F D r → (F' : List ℕ) × (D' : List ℕ) × (y ≡ wrote F' D' r) × (F ≡ A ++ F') × (D ≡ B ++ D')
  unfolding joined
  joined-wrote A B (stopped n p) e = absurd (let z : ◌≡◌ {A = ℕ} 0 1 = cc in omega arith)
  joined-wrote A B (wrote F' D' r') e = (F', D', cc, cc, cc)

  swapped-wrote : (A B : List ℕ) (y : Writing) → swapped A B y ≡ wrote F D r → (F' : List ℕ) × (D' : List ℕ) × (y ≡ wrote F' D' r) × (F ≡ F' ++ A) × (D ≡ B ++ D')
  unfolding swapped
  swapped-wrote A B (stopped n p) e = absurd (let z : ◌≡◌ {A = ℕ} 0 1 = cc in omega arith)
  swapped-wrote A B (wrote F' D' r') e = (F', D', cc, cc, cc)

  next-wrote : (y : Writing) (k : List ℕ → List ℕ → Writing) → next_w y k ≡ wrote F D r
      → (A : List ℕ) × (B : List ℕ) × (t : List ℕ) × (F' : List ℕ) × (D' : List ℕ) × (y ≡ wrote A B t) × (k B t ≡ wrote F' D' r) × (F ≡ A ++ F') × (D ≡ B ++ D')
  unfolding next_w
  next-wrote (stopped n p) k e = absurd (let z : ◌≡◌ {A = ℕ} 0 1 = cc in omega arith)
  next-wrote (wrote A B t) k e = let j = joined-wrote A B (k B t) e in (A, B, t, j.0, j.1, refl, j.2, j.3, j.4)

  pub back-wrote : (y : Writing) (k : List ℕ → List ℕ → Writing) → back_w y k ≡ wrote F D r
      → (A : List ℕ) × (B : List ℕ) × (t : List ℕ) × (F' : List ℕ) × (D' : List ℕ) × (y ≡ wrote A B t) × (k B t ≡ wrote F' D' r) × (F ≡ F' ++ A) × (D ≡ B ++ D')
  unfolding back_w
  back-wrote (stopped n p) k e = absurd (let z : ◌≡◌ {A = ℕ} 0 1 = cc in omega arith)
  back-wrote (wrote A B t) k e = let j = swapped-wrote A B (k B t) e in (A, B, t, j.0, j.1, refl, j.2, j.3, j.4)

pub placed-is : (o : ℕ) (y : Writing) → placed o y ≡ headed (bytes_of 4 o) (behind y)
unfolding placed headed behind
placed-is o (stopped n p) = refl
placed-is o (wrote X Y r) = ap (λ (F : List ℕ). wrote F (X ++ Y) r) (sym (append-nil (bytes_of 4 o)))

pub one-writing : (y : Writing) (F D r F' D' r' : List ℕ) → y ≡ wrote F D r → y ≡ wrote F' D' r' → (F ≡ F') × (D ≡ D') × (r ≡ r')
one-writing y F D r F' D' r' e f = (cc, cc, cc)

-- WHAT IS LEFT TO WRITE

-- y, with its bytes in place at `at` and its data at `free` of `out`, is what is left of x
pub record Left (x : Writing) (at₀ free₀ : ℕ) (out₀ : List ℕ) (y : Writing) (at free : ℕ) (out : List ℕ) : Type 0 where
  pub whole : List ℕ
  pub all : List ℕ
  pub fixed : List ℕ
  pub values : List ℕ
  pub rest : List ℕ
  pub was : x ≡ wrote whole all rest
  pub is : y ≡ wrote fixed values rest
  pub same : put at free fixed values out ≡ put at₀ free₀ whole all out₀
  pub ends : free + length values ≡ free₀ + length all
  pub before : at + length fixed ≤ free
  pub room : free + length values ≤ length out

pub begun : (x : Writing) (at free : ℕ) (out : List ℕ) → Fits x at free out → Left x at free out x at free out
begun x at free out f = record {
  whole = f.fixed;
  all = f.values;
  fixed = f.fixed;
  values = f.values;
  rest = f.rest;
  was = f.is;
  is = f.is;
  same = refl;
  ends = refl;
  before = f.before;
  room = f.room;
}

module _ (x : Writing) (at₀ free₀ : ℕ) (out₀ : List ℕ) where
  module _ (y : Writing) (at free : ℕ) (out : List ℕ) (L : Left x at₀ free₀ out₀ y at free out) where
    pub left-fits : Fits y at free out
    left-fits = record { fixed = L.fixed; values = L.values; rest = L.rest; is = L.is; before = L.before; room = L.room }

    -- once some of it is written, the rest stands elsewhere, and all of it is the same
    moved : (z : Writing) (at' free' : ℕ) (mid F D : List ℕ) → z ≡ wrote F D L.rest → put at' free' F D mid ≡ put at free L.fixed L.values out → free' + length D ≡ free + length L.values
        → at' + length F ≤ free' → length mid ≡ length out → Left x at₀ free₀ out₀ z at' free' mid
    moved z at' free' mid F D i q e b l = record {
      whole = L.whole;
      all = L.all;
      fixed = F;
      values = D;
      rest = L.rest;
      was = L.was;
      is = i;
      same = q ∙ L.same;
      ends = e ∙ L.ends;
      before = b;
      room = omega (arith, e, l, L.room);
    }

    pub opened : (z : Writing) → Opens y z → Left x at₀ free₀ out₀ z at free out
    opened z o = moved z at free out L.fixed L.values (o _ _ _ L.is) refl refl L.before refl

    -- a call wrote all of it
    pub finished : (s left : List ℕ) (pos end : ℕ) → Stands y at free s out left pos end → Stands x at₀ free₀ s out₀ left pos end
    finished s left pos end v =
        let o = one-writing y _ _ _ _ _ _ L.is v.is in
        record {
          fixed = L.whole;
          values = L.all;
          is = L.was ∙ ap (wrote L.whole L.all) o.2;
          bytes = v.bytes ∙ rw (← o.0, ← o.1) L.same;
          ends = v.ends ∙ rw (← o.1) L.ends;
        }

  -- nothing is left
  pub done : (r : List ℕ) (at free : ℕ) (out : List ℕ) → Left x at₀ free₀ out₀ (wrote [] [] r) at free out → (s : List ℕ) (pos : ℕ) → r ≡ drop pos s → Stands x at₀ free₀ s out₀ out pos free
  done r at free out L s pos e = finished (wrote [] [] r) at free out L s out pos free (record {
    fixed = [];
    values = [];
    is = ap (wrote [] []) e;
    bytes = sym (splice-nil free _ ∙ splice-nil at out);
    ends = omega arith;
  })

  -- bytes that go before the others, in place
  pub headed-left : (c : List ℕ) (y : Writing) (n at free : ℕ) (out mid : List ℕ) → Left x at₀ free₀ out₀ (headed c y) at free out → length c ≡ n → mid ≡ splice n at c out
      → Left x at₀ free₀ out₀ y (at + n) free mid
  headed-left c y n at free out mid L l m =
      let h = headed-wrote _ _ _ c y L.is in
      let F = h.0 in
      let k : length L.fixed ≡ n + length F = ap length h.2 ∙ length-append c F ∙ rw l in
      let room : at + n ≤ length out = omega (arith, k, L.before, L.room) in
      let j : length mid ≡ length out = ap length m ∙ length-splice n at c out room l in
      let q : put (at + n) free F L.values mid ≡ put at free L.fixed L.values out = put-head n at free c F L.fixed L.values out mid l m h.2 room in
      moved (headed c y) at free out L y (at + n) free mid F L.values h.1 q refl (omega (arith, k, L.before)) j

  -- a value behind its offset: n bytes of its own, and then what hangs on it
  pub behind-left : (y : Writing) (n at free : ℕ) (out : List ℕ) → Left x at₀ free₀ out₀ (behind y) at free out → Wide n y → Left x at₀ free₀ out₀ y free (free + n) out
  behind-left y n at free out L w =
      let h = behind-wrote _ _ _ y L.is in
      let X = h.0 in
      let Y = h.1 in
      let l : length X ≡ n = wide_is w h.2 in
      let k : length L.values ≡ n + length Y = ap length h.3 ∙ length-append X Y ∙ rw l in
      let q : put free (free + n) X Y out ≡ put at free L.fixed L.values out = put-behind n at free X Y L.fixed L.values out l h.4 h.3 (omega (arith, k, L.room)) in
      moved (behind y) at free out L y free (free + n) out X Y h.2 q (omega (arith, k)) (omega (arith, l)) refl

  -- one writing and then, at its ends, another
  module _ (s : List ℕ) (at free w : ℕ) (out mid : List ℕ) (pos end : ℕ) (y : Writing) (v : Stands y at free s out mid pos end) where
    pub called : (k : ℕ → List ℕ → Writing) → Left x at₀ free₀ out₀ (next_w y (λ D r. k (free + length D) r)) at free out → Wide w y → Left x at₀ free₀ out₀ (k end (drop pos s)) (at + w) end mid
    called k L u =
        let h = next-wrote _ _ _ y (λ D r. k (free + length D) r) L.is in
        let o = one-writing y _ _ _ _ _ _ h.5 v.is in
        let F = v.fixed in let D = v.values in let F' = h.3 in let D' = h.4 in
        let l : length F ≡ w = wide_is u v.is in
        let eF : L.fixed ≡ F ++ F' = h.7 ∙ ap (λ (z : List ℕ). z ++ F') o.0 in
        let eD : L.values ≡ D ++ D' = h.8 ∙ ap (λ (z : List ℕ). z ++ D') o.1 in
        let nF = ap length eF ∙ length-append F F' in
        let nD = ap length eD ∙ length-append D D' in
        let j : length mid ≡ length out = ap length v.bytes ∙ length-put at free F D out (omega (arith, nF, L.before)) (omega (arith, nD, L.room)) in
        let q : put (at + w) end F' D' mid ≡ put at free L.fixed L.values out = put_next at free w end F F' L.fixed D D' L.values out mid v.ends eD l v.bytes eF (omega (arith, l, nF, L.before)) (omega (arith, v.ends, nD, L.room)) in
        let i : k end (drop pos s) ≡ wrote F' D' L.rest = rw (v.ends, ← o.1, ← o.2) h.6 in
        moved _ at free out L (k end (drop pos s)) (at + w) end mid F' D' i q (omega (arith, nD, v.ends)) (omega (arith, nF, l, v.ends, L.before)) j

    pub called-back : (k : ℕ → List ℕ → Writing) (at' : ℕ) → at ≡ at' + w → Left x at₀ free₀ out₀ (back_w y (λ D r. k (free + length D) r)) at' free out → Wide w (k end (drop pos s)) → Left x at₀ free₀ out₀ (k end (drop pos s)) at' end mid
    called-back k at' a L u =
        let h = back-wrote _ _ _ y (λ D r. k (free + length D) r) L.is in
        let o = one-writing y _ _ _ _ _ _ h.5 v.is in
        let F = v.fixed in let D = v.values in let F' = h.3 in let D' = h.4 in
        let eF : L.fixed ≡ F' ++ F = h.7 ∙ ap (λ (z : List ℕ). F' ++ z) o.0 in
        let eD : L.values ≡ D ++ D' = h.8 ∙ ap (λ (z : List ℕ). z ++ D') o.1 in
        let i : k end (drop pos s) ≡ wrote F' D' L.rest = rw (v.ends, ← o.1, ← o.2) h.6 in
        let l : length F' ≡ w = wide_is u i in
        let nF = ap length eF ∙ length-append F' F in
        let nD = ap length eD ∙ length-append D D' in
        let j : length mid ≡ length out = ap length v.bytes ∙ length-put at free F D out (omega (arith, nF, l, a, L.before)) (omega (arith, nD, L.room)) in
        let m : mid ≡ put (at' + w) free F D out = v.bytes ∙ ap (λ (n : ℕ). put n free F D out) a in
        let q : put at' end F' D' mid ≡ put at' free L.fixed L.values out = put_back at' free w end F F' L.fixed D D' L.values out mid v.ends eD l m eF (omega (arith, l, nF, L.before)) (omega (arith, v.ends, nD, L.room)) in
        moved _ at' free out L (k end (drop pos s)) at' end mid F' D' i q (omega (arith, nD, v.ends)) (omega (arith, nF, v.ends, L.before)) j

  -- there is room for the first of two
  pub first_fits : (y : Writing) (k : List ℕ → List ℕ → Writing) (at free : ℕ) (out : List ℕ) → Left x at₀ free₀ out₀ (next_w y k) at free out → Fits y at free out
  first_fits y k at free out L =
      let h = next-wrote _ _ _ y k L.is in
      record {
        fixed = h.0;
        values = h.1;
        rest = h.2;
        is = h.5;
        before = omega (arith, ap length h.7 ∙ length-append h.0 h.3, L.before);
        room = omega (arith, ap length h.8 ∙ length-append h.1 h.4, L.room);
      }

  pub first_back : (w : ℕ) (y : Writing) (k : List ℕ → List ℕ → Writing) (at free : ℕ) (out : List ℕ) → ((D r : List ℕ) → Wide w (k D r)) → Left x at₀ free₀ out₀ (back_w y k) at free out → Fits y (at + w) free out
  first_back w y k at free out u L =
      let h = back-wrote _ _ _ y k L.is in
      let l = wide_is (u h.1 h.2) h.6 in
      record {
        fixed = h.0;
        values = h.1;
        rest = h.2;
        is = h.5;
        before = omega (arith, l, ap length h.7 ∙ length-append h.3 h.0, L.before);
        room = omega (arith, ap length h.8 ∙ length-append h.1 h.4, L.room);
      }

-- a writing that is another one, behind its tests
module _ (x y : Writing) (at free : ℕ) (out : List ℕ) (f : Fits x at free out) (o : Opens x y) where
  pub fits-opens : Fits y at free out
  fits-opens = record { fixed = f.fixed; values = f.values; rest = f.rest; is = o _ _ _ f.is; before = f.before; room = f.room }

  pub stands-opens : (s left : List ℕ) (pos end : ℕ) → Stands y at free s out left pos end → Stands x at free s out left pos end
  stands-opens s left pos end v = finished x at free out y at free out (opened x at free out x at free out (begun x at free out f) y o) s left pos end v
