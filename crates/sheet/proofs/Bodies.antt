-- The values in the data area: a text, a sequence, a dynamic group, each behind its offset.
use mathlib.Core.Path.{◌≡◌, refl, ap, ◌∙◌}
use mathlib.Core.Bool.{Bool, true}
use mathlib.Core.List.{List, [], ◌++◌, append_assoc, append-nil}
use Prim.Native.Nat.{ℕ, zero, suc, ◌+◌, ◌-◌, ◌*◌, ◌≤◌, ◌<◌, ◌^◌}
use native.Mathlib.Omega.{arith}
use lib.ListN.{length, take, drop, replicate, length-append, length-take, length-drop}
use lib.Seq.{take_at, drop-drop, take-add, take-append-le}
use borrow.Author.Tests.{lt-ltb, le-leb, leb-true}
use Rattle.wire.specs.Bytes.{part, le, bytes_of}
use Rattle.wire.proofs.Laws.{length-bytes, length_part}
use Rattle.schema.specs.Faults.{need}
use Rattle.schema.specs.Schema.{Group, known, text_ok}
use Rattle.message.specs.Occupancy.{free, occupy}
use Rattle.message.specs.Walk.{Here, done, Reader, Inner, word, prefixed, next, then_r, in_area, locate, onward, indirect_r, text_r, inner_r, items_r, list_r}
use Rattle.meaning.proofs.Occupying.{occupy-length, taken, taken_more}
use Rattle.meaning.proofs.Sat.{Sat, said, sat-need, sat-prefixed, sat-next, sat-map, sat-indirect}
use Rattle.sheet.specs.Written.{Writing, wrote, Writer, InnerW, headed, placed, then_w, Body, indirect_w, text_b, inner_b, items_w, list_b}
use Rattle.sheet.proofs.Laws.{need-true, four, At, at_left, at_right, at_part, ones-join, run-free, run-occupy}
use Rattle.sheet.proofs.Match.{SatW, said_w, satw-is, satw-need, satw-headed, satw-placed, satw-map, Taken, Held, split-front, held-rest, Again, Match, match_none, match-then}
use Rattle.sheet.proofs.Layers.{grab-eats, counted-eats, satw-grab, satw-counted}

-- The same of a body: its own bytes X, which an offset leads to, and the values Y behind them. All that it writes is not longer than hi - lo, so a nested group may shrink.
pub record BodyFit (x : Writing) (r : List ℕ) (lo hi : ℕ) : Type 0 where
  pub own : List ℕ
  pub values : List ℕ
  pub is : x ≡ wrote own values r
  pub small : lo + length own + length values ≤ hi

pub record BodyTaken (B : Body) (a n : ℕ) (m s m' : List ℕ) : Type 0 where
  pub same : length m' ≡ length m
  pub puts : (p : ℕ) (r : List ℕ) → BodyFit (B p (s ++ r)) r (taken a m) (taken a m' + n)

pub record BodyReads (w : ℕ) (inside : ℕ → Reader) (h : Here) (p : ℕ) (X Y z used : List ℕ) (j k : ℕ) : Type 0 where
  pub four : 4 ≤ length X
  pub size : 4 + le (take 4 X) * w ≡ length X
  pub reads : inside (le (take 4 X)) h p (z ++ replicate k 0) ≡ done used ((z ++ replicate (length Y) 1) ++ replicate j 0)

pub record BodyAgain (w : ℕ) (inside : ℕ → Reader) (p : ℕ) (s X Y r : List ℕ) : Type 0 where
  pub used : List ℕ
  pub split : s ≡ used ++ r
  pub again : (h : Here) (z : List ℕ) (q j k : ℕ) → q ≡ p + length X → Held h p q X Y z j k → BodyReads w inside h p X Y z used j k

-- w: how many bytes each unit of the count or size word stands for.
pub record BodyMatch (w : ℕ) (inside : ℕ → Reader) (B : Body) : Type 0 where
  pub forth : (h : Here) (p : ℕ) (m : List ℕ) → p + (4 + word p h.bytes * w) ≤ length h.bytes → length m ≡ length h.bytes
      → Sat (λ s m'. BodyTaken B h.area (4 + word p h.bytes * w) m s m') (inside (word p h.bytes) h p m)
  pub back : (p : ℕ) (s : List ℕ) → SatW (λ X Y r. BodyAgain w inside p s X Y r) (B p s)

-- BEHIND AN OFFSET

-- where an offset leads that was written
pub offset-leads : {h : Here} {at fr : ℕ} {D z : List ℕ} {j k : ℕ} → Held h at fr (bytes_of 4 (fr - at)) D z j k → at + word at h.bytes ≡ fr
offset-leads {h} {at} {fr} H =
    let lF = length-bytes 4 (fr - at) in
    let o : word at h.bytes ≡ fr - at = ap le (at_part h.bytes at 4 (bytes_of 4 (fr - at)) lF H.fix) ∙ four (fr - at) (omega (arith, H.all, H.small)) in
    omega (arith, o, H.before, lF)

-- and the count or size word there
pub count-there : (b : List ℕ) (p : ℕ) (X : List ℕ) → 4 ≤ length X → At b p X → word p b ≡ le (take 4 X)
count-there b p X l (t, e) = ap le (ap (take 4) e ∙ take-append-le 4 X t l)

module _ (B : Body) where
  pub indirect-taken : (a p n : ℕ) (m s m' : List ℕ) → free p n m ≡ true → a ≤ p → p + n ≤ length m
      → BodyTaken B a n (occupy p n m) s m' → Taken (indirect_w B) a m s m'
  unfolding indirect_w placed
  indirect-taken a p n m s m' e l h t = record {
    same = t.same ∙ occupy-length p n m h;
    puts = λ at fr r.
        let x = t.puts fr r in
        record {
          fixed = bytes_of 4 (fr - at);
          values = x.own ++ x.values;
          is = rw x.is;
          small = omega (arith, taken_more a p n m e l h, x.small, length-append x.own x.values);
        };
  }

module _ (past : ℕ) (w : ℕ) (inside : ℕ → Reader) where
  indirect-reads : (h : Here) (at p n N : ℕ) (m : List ℕ) → at + word at h.bytes ≡ p → word p h.bytes ≡ n → 4 + n * w ≡ N
      → h.area ≤ p → p < length h.bytes → p + 4 ≤ length h.bytes → p + N ≤ length h.bytes → free p N m ≡ true
      → indirect_r past w inside h at m ≡ inside n h p (occupy p N m)
  unfolding indirect_r locate onward need in_area
  indirect-reads h at p n N m ep en eN l4 lp l5 l6 f =
      rw (ep, en, eN, le-leb h.area p l4, lt-ltb p (length h.bytes) lp, le-leb (p + 4) (length h.bytes) l5, le-leb (p + N) (length h.bytes) l6, f)

  pub indirect-again : (at fr : ℕ) (s X Y r : List ℕ) → BodyAgain w inside fr s X Y r → Again (indirect_r past w inside) 4 at fr s (bytes_of 4 (fr - at)) (X ++ Y) r
  indirect-again at fr s X Y r p = record {
    used = p.used;
    split = p.split;
    long = length-bytes 4 (fr - at);
    reads = λ h z j k H.
        let lD = length-append X Y in
        let hX = at_left h.bytes fr X Y H.dat in
        let q = p.again h (z ++ replicate (length X) 1) (fr + length X) j (length Y + j) refl (held-rest X Y H fr X hX (omega arith)) in
        indirect-reads h at fr (le (take 4 X)) (length X) (z ++ replicate k 0) (offset-leads H) (count-there h.bytes fr X q.four hX) q.size
        H.area (omega (arith, H.all, lD, q.four)) (omega (arith, H.all, lD, q.four)) (omega (arith, H.all, lD))
        (run-free z fr (length X) (length Y + j) k H.run (omega (arith, H.zeros, lD)))
        ∙ rw (run-occupy z fr (length X) (length Y + j) k H.run (omega (arith, H.zeros, lD)), q.reads, ones-join z (length X) (length Y) (length (X ++ Y)) lD);
  }

pub match-indirect : (past : ℕ) (w : ℕ) (inside : ℕ → Reader) (B : Body) → BodyMatch w inside B → Match 4 (indirect_r past w inside) (indirect_w B)
unfolding indirect_w
match-indirect past w inside B A = record {
  forth = λ h at m f e. sat-indirect past w inside h at m e (λ p L.
      sat-map (λ s m' t. indirect-taken B h.area p _ m s m' L.clear L.behind (omega (arith, L.whole, e)) t) (A.forth h p _ L.whole L.same));
  back = λ at fr s. satw-placed (fr - at) (satw-map (λ X Y r p. indirect-again past w inside at fr s X Y r p) (A.back fr s));
}

-- TEXT

module _ (u : Bool) where
  text-taken : (a : ℕ) (m c v : List ℕ) → length c ≡ 4 → length v ≡ le c → text_ok u v ≡ true → BodyTaken (text_b u) a (4 + le c * 1) m (c ++ v) m
  unfolding text_b
  text-taken a m c v l k o = record {
    same = refl;
    puts = λ p r. record {
      own = c ++ v;
      values = [];
      is = counted-eats c v r _ l k ∙ need-true _ _ _ o;
      small = omega (arith, length-append c v);
    };
  }

  pub text-again : (p : ℕ) (s c v r : List ℕ) → s ≡ (c ++ v) ++ r → length c ≡ 4 → length v ≡ le c → text_ok u v ≡ true → BodyAgain 1 (text_r u) p s (c ++ v) [] r
  unfolding text_r need
  text-again p s c v r e l k o = record {
    used = c ++ v;
    split = e;
    again = λ h z q j n eq H.
        let t : take 4 (c ++ v) ≡ c = take_at c v 4 l in
        let lc = length-append c v in
        let i : n ≡ j = omega (arith, H.zeros) in
        let y : part (le c) (p + 4) h.bytes ≡ v = at_part h.bytes (p + 4) (le c) v k (at_right h.bytes p (p + 4) c v (omega arith) H.fix) in
        record {
          four = omega arith;
          size = rw t (omega arith);
          reads = rw (t, y, o, at_part h.bytes p (4 + le c) (c ++ v) (omega arith) H.fix, i, append-nil z);
        };
  }

  pub match-text : BodyMatch 1 (text_r u) (text_b u)
  unfolding text_r text_b
  match-text = record {
    forth = λ h p m f e. sat-need _ 9 _ (λ o.
        let n = word p h.bytes in
        let v = take n (drop 4 (drop p h.bytes)) in
        let o' : text_ok u v ≡ true = rw (drop-drop 4 p h.bytes) o in
        let t = text-taken h.area m (part 4 p h.bytes) v (simp (length-take, length-drop) (omega arith)) (simp (length-take, length-drop) (omega arith)) o' in
        said {s = part (4 + n) p h.bytes} {m = m} (rw (take-add 4 n (drop p h.bytes)) t));
    back = λ p s. satw-counted s _ (λ c v r e l k. satw-need _ 9 _ (λ o. said_w (text-again p s c v r e l k o)));
  }

-- A LIST

pub match-items : (w : ℕ) (R : Reader) (W : Writer) → Match w R W → (n : ℕ) → Match (n * w) (items_r w R n) (items_w w W n)
unfolding items_r items_w then_r then_w
match-items w R W A zero = rw (let z : 0 * w ≡ 0 = omega arith in z) match_none
match-items w R W A (suc n) = rw (let z : suc n * w ≡ w + n * w = omega arith in z) (match-then w (n * w) R (items_r w R n) W (items_w w W n) A (match-items w R W A n))

match-long : (w : ℕ) (R : Reader) (W : Writer) → Match w R W → (at fr : ℕ) (s F D r : List ℕ) → W at fr s ≡ wrote F D r → length F ≡ w
match-long w R W A at fr s F D r e = (satw-is (rw e at (A.back at fr s))).long

module _ (z : ℕ) (w : ℕ) (R : Reader) (W : Writer) (A : Match w R W) where
  pub list-taken : (a : ℕ) (m c s m' : List ℕ) → length c ≡ 4 → z ≤ le c → Taken (items_w w W (le c)) a m s m' → BodyTaken (list_b z w W) a (4 + le c * w) m (c ++ s) m'
  unfolding list_b headed
  list-taken a m c s m' l lz t = record {
    same = t.same;
    puts = λ p r.
        let x = t.puts (p + 4) (p + (4 + le c * w)) r in
        let k = match-long _ _ _ (match-items w R W A (le c)) _ _ _ _ _ _ x.is in
        record {
          own = c ++ x.fixed;
          values = x.values;
          is = rw (append_assoc c s r) (grab-eats _ 4 c (s ++ r) _ l ∙ need-true _ _ _ (le-leb _ _ lz) ∙ rw x.is);
          small = omega (arith, length-append c x.fixed, k, x.small);
        };
  }

  list-again : (p : ℕ) (s c s' F D r : List ℕ) → s ≡ c ++ s' → length c ≡ 4 → Again (items_r w R (le c)) (le c * w) (p + 4) (p + (4 + le c * w)) s' F D r
      → BodyAgain w (list_r w R) p s (c ++ F) D r
  unfolding list_r prefixed
  list-again p s c s' F D r e l a = record {
    used = c ++ a.used;
    split = split-front c s s' a.used r e a.split;
    again = λ h y q j n eq H.
        let t : take 4 (c ++ F) ≡ c = take_at c F 4 l in
        let lc = length-append c F in
        let lF = a.long in
        let eq' : q ≡ p + (4 + le c * w) = omega arith in
        let u = a.reads h y j n (record {
          fix = at_right h.bytes p (p + 4) c F (omega arith) H.fix;
          dat = rw eq' at H.dat;
          run = H.run ∙ eq';
          all = omega (arith, H.all);
          zeros = H.zeros;
          before = omega arith;
          area = omega (arith, H.area);
          small = H.small;
        }) in
        record {
          four = omega arith;
          size = rw t (omega arith);
          reads = rw (t, at_part h.bytes p 4 c l (at_left h.bytes p c F H.fix), u);
        };
  }

  pub list-forth : (h : Here) (p : ℕ) (m : List ℕ) → p + (4 + word p h.bytes * w) ≤ length h.bytes → length m ≡ length h.bytes → z ≤ word p h.bytes
      → Sat (λ s m'. BodyTaken (list_b z w W) h.area (4 + word p h.bytes * w) m s m') (list_r w R (word p h.bytes) h p m)
  unfolding list_r
  list-forth h p m f e lz = sat-prefixed (part 4 p h.bytes) (sat-map (λ s m' t. list-taken h.area m (part 4 p h.bytes) s m' (length_part 4 p h.bytes (omega arith)) lz t)
      ((match-items w R W A (word p h.bytes)).forth h (p + 4) m (omega arith) e))

  pub list_back : (p : ℕ) (s : List ℕ) → SatW (λ X Y r. BodyAgain w (list_r w R) p s X Y r × (z ≤ le (take 4 X)) × (4 ≤ length X)) (list_b z w W p s)
  unfolding list_b
  list_back p s = satw-grab _ 4 s _ (λ c s' e l. satw-need _ 44 _ (λ t. satw-headed c (satw-map (λ F D r a. (list-again p s c s' F D r e l a, rw (take_at c F 4 l) (leb-true z (le c) t), omega (arith, length-append c F)))
      ((match-items w R W A (le c)).back (p + 4) (p + (4 + le c * w)) s'))))

pub match-list : (w : ℕ) (R : Reader) (W : Writer) → Match w R W → BodyMatch w (list_r w R) (list_b 0 w W)
match-list w R W A = record {
  forth = λ h p m f e. list-forth 0 w R W A h p m f e (omega arith);
  back = λ p s. satw-map (λ X Y r a. a.0) (list_back 0 w R W A p s);
}

-- A DYNAMIC GROUP
-- It is written as bytes of its own, with no values behind them, and is read back from them wherever they stand.

pub record GroupFit (x : Writing) (r : List ℕ) (n : ℕ) : Type 0 where
  pub own : List ℕ
  pub is : x ≡ wrote own [] r
  pub small : length own ≤ n

pub record GroupReads (gs : List Group) (I : Inner) (g : ℕ) (X used : List ℕ) : Type 0 where
  pub sixteen : 16 ≤ length X
  pub knows : known gs (le (part 8 4 X)) ≡ true
  pub size : 4 + le (take 4 X) ≡ length X
  pub reads : (base : ℕ) → I g base X ≡ done used []

pub record GroupAgain (gs : List Group) (I : Inner) (g : ℕ) (s X Y r : List ℕ) : Type 0 where
  pub used : List ℕ
  pub split : s ≡ used ++ r
  pub none : Y ≡ []
  pub again : length X < 2 ^ 32 → GroupReads gs I g X used

pub record GroupMatch (gs : List Group) (I : Inner) (W : InnerW) : Type 0 where
  pub forth : (g base : ℕ) (b : List ℕ) → Sat (λ s m. (r : List ℕ) → GroupFit (W g (s ++ r)) r (length b)) (I g base b)
  pub back : (g : ℕ) (s : List ℕ) → SatW (λ X Y r. GroupAgain gs I g s X Y r) (W g s)

module _ (gs : List Group) (I : Inner) (W : InnerW) (A : GroupMatch gs I W) (g : ℕ) where
  pub inner-taken : (a n : ℕ) (m s : List ℕ) → ((r : List ℕ) → GroupFit (W g (s ++ r)) r n) → BodyTaken (inner_b W g) a n m (s ++ []) m
  unfolding inner_b
  inner-taken a n m s t = record {
    same = refl;
    puts = λ p r.
        let x = t r in
        record { own = x.own; values = []; is = rw (append-nil s) x.is; small = omega (arith, x.small) };
  }

  pub inner-again : (p : ℕ) (s X Y r : List ℕ) → GroupAgain gs I g s X Y r → BodyAgain 1 (inner_r I g) p s X Y r
  unfolding inner_r next prefixed
  inner-again p s X Y r a = record {
    used = a.used;
    split = a.split;
    again = λ h z q j n eq H.
        let u = a.again (omega (arith, H.all, H.small)) in
        let i : n ≡ j = omega (arith, H.zeros, ap length a.none) in
        record {
          four = omega (arith, u.sixteen);
          size = omega (arith, u.size);
          reads = rw (u.size, at_part h.bytes p (length X) X refl H.fix, u.reads (h.base + p), a.none, i, append-nil z, append-nil a.used);
        };
  }

  pub match-inner : BodyMatch 1 (inner_r I g) (inner_b W g)
  unfolding inner_r inner_b
  match-inner = record {
    forth = λ h p m f e. sat-next (sat-map (λ s _ t. said (inner-taken h.area _ m s (λ r.
        let x = t r in
        record { own = x.own; is = x.is; small = omega (arith, x.small, length_part (4 + word p h.bytes) p h.bytes (omega arith)) }))) (A.forth g (h.base + p) (part (4 + word p h.bytes) p h.bytes)));
    back = λ p s. satw-map (λ X Y r a. inner-again p s X Y r a) (A.back g s);
  }
