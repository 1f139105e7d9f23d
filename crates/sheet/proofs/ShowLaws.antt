-- Writing a sheet part by part: what is left to write of a passage, and how each write and each call goes on from there.
use Prim.Native.Nat.{ℕ, ◌+◌, ◌≤◌}
use mathlib.Core.Path.{◌≡◌, refl, sym, ap, ◌∙◌}
use mathlib.Core.Bool.{Bool, true, false}
use mathlib.Core.List.{List, [], ◌++◌}
use native.Mathlib.Omega.{arith}
use lib.ListN.{length, length-append}
use Rattle.wire.specs.Bytes.{part, splice}
use Rattle.wire.proofs.Laws.{length_part, length-splice, splice-append, splice-nil}
use Rattle.schema.specs.Faults.{need}
use Rattle.message.specs.Sheet.{Mark, mark_bytes}
use Rattle.message.specs.Walk.{Reading, refused, done, prefixed, next}
use Rattle.message.proofs.Count.{length-mark}
use Rattle.sheet.specs.Show.{Passage, just, then, Reads, Fits, Shown}

-- WHAT IS READ BEHIND A TEST, AND IN TWO PARTS

pub need-done : (c : Bool) (n p : ℕ) (r : Reading) (s m : List ℕ) → need c (refused n p) r ≡ done s m → (c ≡ true) × (r ≡ done s m)
unfolding need
need-done true n p r s m e = (refl, e)
need-done false n p r s m e = absurd (let z : ◌≡◌ {A = ℕ} 0 1 = cc in omega arith)

pub record Parts (r : Reading) (f : List ℕ → Reading) (s m : List ℕ) : Type 0 where
  pub first : List ℕ
  pub occupied : List ℕ
  pub second : List ℕ
  pub reads : r ≡ done first occupied
  pub goes_on : f occupied ≡ done second m
  pub joined : s ≡ first ++ second

pub next-done : (r : Reading) (f : List ℕ → Reading) (s m : List ℕ) → next r f ≡ done s m → Parts r f s m
unfolding next prefixed
next-done (refused n p) f s m e = absurd (let z : ◌≡◌ {A = ℕ} 0 1 = cc in omega arith)
next-done (done x i) f s m e = go (f i) refl
  where
    go : (q : Reading) → f i ≡ q → Parts (done x i) f s m
    go (refused n p) o = absurd (let u = rw o at e in let z : ◌≡◌ {A = ℕ} 0 1 = cc in omega arith)
    go (done y j) o =
        let u : done (x ++ y) j ≡ done s m = rw o at e in
        record { first = x; occupied = i; second = y; reads = refl; goes_on = o ∙ (let v : done y j ≡ done y m = cc in v); joined = cc }

-- PASSAGES

-- whatever is read as F is read as G
abbrev pub Opens : Passage → Passage → Type 0
Opens F G = (s : List ℕ) → Reads F s → Reads G s

pub alike : (F G : Passage) → ((base area : ℕ) (m : List ℕ) → F base area m ≡ G base area m) → Opens F G
alike F G e s r = record { base = r.base; area = r.area; occupied = r.occupied; taken = r.taken; is = sym (e r.base r.area r.occupied) ∙ r.is }

pub two-of : (A B : Passage) (s : List ℕ) → Reads (then A B) s → (x : List ℕ) × (y : List ℕ) × Reads A x × Reads B y × (s ≡ x ++ y)
two-of A B s r =
    let p = next-done (A r.base r.area r.occupied) (λ m. B r.base r.area m) s r.taken r.is in (
      p.first,
      p.second,
      record { base = r.base; area = r.area; occupied = r.occupied; taken = p.occupied; is = p.reads },
      record { base = r.base; area = r.area; occupied = p.occupied; taken = r.taken; is = p.goes_on },
      p.joined,
    )

-- BYTES THAT WERE WRITTEN

just-is : (x s : List ℕ) → Reads (just x) s → s ≡ x
just-is x s r = let e = r.is in cc

pub shown-just : (x : List ℕ) (k pos : ℕ) (out left : List ℕ) (end : ℕ) → left ≡ splice k pos x out → length x ≡ k → end ≡ pos + k → Shown (just x) pos out left end
shown-just x k pos out left end e l q = record {
  bytes = λ s r h. let i = just-is x s r in rw (i, l) e;
  ends = λ s r h. let i = just-is x s r in rw (i, l) q;
}

pub shown-none : (pos : ℕ) (out : List ℕ) → Shown (just []) pos out out pos
shown-none pos out = shown-just [] 0 pos out out pos (sym (splice-nil pos out)) refl (omega arith)

pub shown-opens : (F G : Passage) (pos : ℕ) (out left : List ℕ) (end : ℕ) → Opens F G → Shown G pos out left end → Shown F pos out left end
shown-opens F G pos out left end o w = record { bytes = λ s r h. w.bytes s (o s r) h; ends = λ s r h. w.ends s (o s r) h }

two-writes : (pos p : ℕ) (x y s out mid : List ℕ) → p ≡ pos + length x → mid ≡ splice (length x) pos x out → pos + length x ≤ length out → s ≡ x ++ y
    → splice (length y) p y mid ≡ splice (length s) pos s out
two-writes pos p x y s out mid q m g e = rw (q, m, e, length-append x y) (splice-append (length x) (length y) pos x y out refl g)

pub shown-then : (A B : Passage) (pos : ℕ) (out mid left : List ℕ) (p end : ℕ) → Shown A pos out mid p → Shown B p mid left end → Shown (then A B) pos out left end
shown-then A B pos out mid left p end v w = record {
  bytes = λ s r h. (both s r h).0;
  ends = λ s r h. (both s r h).1;
}
  where
    both : (s : List ℕ) → Reads (then A B) s → pos + length s ≤ length out → (left ≡ splice (length s) pos s out) × (end ≡ pos + length s)
    both s r h =
        let t = two-of A B s r in
        let x = t.0 in let y = t.1 in
        let n : length s ≡ length x + length y = ap length t.4 ∙ length-append x y in
        let g : pos + length x ≤ length out = omega (arith, n, h) in
        let m = v.bytes x t.2 g in
        let q = v.ends x t.2 g in
        let k : length mid ≡ length out = ap length m ∙ length-splice (length x) pos x out g refl in
        let f : p + length y ≤ length mid = omega (arith, n, h, q, k) in
        let a = w.bytes y t.3 f in
        let b = w.ends y t.3 f in
        (a ∙ two-writes pos p x y s out mid q m g t.4, omega (arith, n, b, q))

-- WHAT IS LEFT TO WRITE

-- G, from `pos` of `out` on, is what is left of F: there is room for it, and once it is written F is
pub record Left (F : Passage) (pos₀ : ℕ) (out₀ : List ℕ) (G : Passage) (pos : ℕ) (out : List ℕ) : Type 0 where
  pub fits : Fits G pos out
  pub whole : (left : List ℕ) (end : ℕ) → Shown G pos out left end → Shown F pos₀ out₀ left end

pub begun : (F : Passage) (pos : ℕ) (out : List ℕ) → Fits F pos out → Left F pos out F pos out
begun F pos out f = record { fits = f; whole = λ l e w. w }

module _ (F : Passage) (pos₀ : ℕ) (out₀ : List ℕ) where
  pub opened : (G H : Passage) (pos : ℕ) (out : List ℕ) → Opens G H → Left F pos₀ out₀ G pos out → Left F pos₀ out₀ H pos out
  opened G H pos out o l = record {
    fits = record { sheet = l.fits.sheet; reads = o _ l.fits.reads; room = l.fits.room };
    whole = λ left end w. l.whole left end (shown-opens G H pos out left end o w);
  }

  module _ (A B : Passage) (pos : ℕ) (out : List ℕ) (l : Left F pos₀ out₀ (then A B) pos out) where
    -- there is room for the first part, and behind it for the second
    pub first_fits : Fits A pos out
    first_fits =
        let t = two-of A B _ l.fits.reads in
        record { sheet = t.0; reads = t.2; room = omega (arith, l.fits.room, ap length t.4 ∙ length-append t.0 t.1) }

    pub called : (mid : List ℕ) (p : ℕ) → Shown A pos out mid p → Left F pos₀ out₀ B p mid
    called mid p v =
        let t = two-of A B _ l.fits.reads in
        let x = t.0 in
        let n = ap length t.4 ∙ length-append x t.1 in
        let g : pos + length x ≤ length out = omega (arith, n, l.fits.room) in
        let k : length mid ≡ length out = ap length (v.bytes x t.2 g) ∙ length-splice (length x) pos x out g refl in
        record {
          fits = record { sheet = t.1; reads = t.3; room = omega (arith, n, l.fits.room, v.ends x t.2 g, k) };
          whole = λ left end w. l.whole left end (shown-then A B pos out mid left p end v w);
        }

-- room for fixed bytes
pub just-room : (x : List ℕ) (pos : ℕ) (out : List ℕ) → Fits (just x) pos out → pos + length x ≤ length out
just-room x pos out f = let e = just-is x _ f.reads in rw e at f.room

pub fits-opens : (F G : Passage) (pos : ℕ) (out : List ℕ) → Opens F G → Fits F pos out → Fits G pos out
fits-opens F G pos out o f = record { sheet = f.sheet; reads = o _ f.reads; room = f.room }

-- two writes in a row
pub written : (m n pos : ℕ) (x y out mid left : List ℕ) → mid ≡ splice m pos x out → left ≡ splice n (pos + m) y mid → length x ≡ m → pos + m ≤ length out → left ≡ splice (m + n) pos (x ++ y) out
written m n pos x y out mid left e f l h = f ∙ rw e (splice-append m n pos x y out l h)

-- MARKS, AND BYTES OF THE MESSAGE BEHIND THEM

module _ (k : Mark) (mark : List ℕ) (is : mark ≡ mark_bytes k) (pos : ℕ) (out left : List ℕ) (end : ℕ) where
  pub shown-mark : left ≡ splice 2 pos mark out → end ≡ pos + 2 → Shown (just (mark_bytes k)) pos out left end
  shown-mark e q = shown-just (mark_bytes k) 2 pos out left end (e ∙ rw is) (length-mark k) q

  pub shown-bytes : (n at : ℕ) (b : List ℕ) → at + n ≤ length b → left ≡ splice (2 + n) pos (mark ++ part n at b) out → end ≡ pos + (2 + n) → Shown (just (mark_bytes k ++ part n at b)) pos out left end
  shown-bytes n at b h e q =
      shown-just (mark_bytes k ++ part n at b) (2 + n) pos out left end (e ∙ rw is) (length-append (mark_bytes k) (part n at b) ∙ rw (length-mark k, length_part n at b h)) q

module _ (k : Mark) (pos : ℕ) (out : List ℕ) where
  pub mark-room : Fits (just (mark_bytes k)) pos out → pos + 2 ≤ length out
  mark-room f = rw (length-mark k) at (just-room (mark_bytes k) pos out f)

  pub bytes-room : (n at : ℕ) (b : List ℕ) → at + n ≤ length b → Fits (just (mark_bytes k ++ part n at b)) pos out → pos + (2 + n) ≤ length out
  bytes-room n at b h f =
      let e : length (mark_bytes k ++ part n at b) ≡ 2 + n = length-append (mark_bytes k) (part n at b) ∙ rw (length-mark k, length_part n at b h) in
      rw e at (just-room (mark_bytes k ++ part n at b) pos out f)
