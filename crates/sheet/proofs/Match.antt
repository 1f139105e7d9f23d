-- A reader and a writer that belong together: what one gives, the other takes back.
use mathlib.Core.Path.{◌≡◌, refl, sym, ap, ◌∙◌}
use mathlib.Core.Bool.{Bool, true, false, cond}
use mathlib.Core.List.{List, [], ◌++◌, append_assoc, append-nil}
use Prim.Native.Nat.{ℕ, ◌+◌, ◌≤◌, ◌<◌, ◌^◌}
use native.Mathlib.Omega.{arith}
use lib.ListN.{length, replicate, length-append, length-replicate}
use Rattle.wire.specs.Bytes.{bytes_of}
use Rattle.schema.specs.Faults.{need}
use Rattle.message.specs.Walk.{Here, done, Reader, prefixed, next, none_r, then_r}
use Rattle.meaning.proofs.Occupying.{taken}
use Rattle.meaning.proofs.Sat.{Sat, said, sat-next, sat-map}
use Rattle.sheet.specs.Written.{Writing, stopped, wrote, Writer, headed, joined, next_w, placed, none_w, then_w}
use Rattle.sheet.proofs.Laws.{At, at_left, at_right, ones-join}

-- WHAT HOLDS OF A WRITING, IF IT IS ONE

pub data SatW (Q : List ℕ → List ℕ → List ℕ → Type 0) : Writing → Type 0 where
  unsaid_w : {n p : ℕ} → SatW Q (stopped n p)
  said_w : {F D r : List ℕ} → Q F D r → SatW Q (wrote F D r)

pub satw-is : {Q : List ℕ → List ℕ → List ℕ → Type 0} {F D r : List ℕ} → SatW Q (wrote F D r) → Q F D r
satw-is (said_w q) = q

module _ {Q : List ℕ → List ℕ → List ℕ → Type 0} where
  pub satw-need : (c : Bool) (n p : ℕ) {k : Writing} → (c ≡ true → SatW Q k) → SatW Q (need c (stopped n p) k)
  unfolding need
  satw-need true n p f = f refl
  satw-need false n p f = unsaid_w

  pub satw-cond : (c : Bool) {x y : Writing} → (c ≡ true → SatW Q x) → (c ≡ false → SatW Q y) → SatW Q (cond c x y)
  satw-cond true f g = f refl
  satw-cond false f g = g refl

  pub satw-headed : (c : List ℕ) {x : Writing} → SatW (λ F D r. Q (c ++ F) D r) x → SatW Q (headed c x)
  unfolding headed
  satw-headed c unsaid_w = unsaid_w
  satw-headed c (said_w q) = said_w q

  pub satw-joined : (F D : List ℕ) {x : Writing} → SatW (λ F' D' r. Q (F ++ F') (D ++ D') r) x → SatW Q (joined F D x)
  unfolding joined
  satw-joined F D unsaid_w = unsaid_w
  satw-joined F D (said_w q) = said_w q

  pub satw-next : {x : Writing} {k : List ℕ → List ℕ → Writing} → SatW (λ F D r. SatW (λ F' D' r'. Q (F ++ F') (D ++ D') r') (k D r)) x → SatW Q (next_w x k)
  unfolding next_w
  satw-next unsaid_w = unsaid_w
  satw-next (said_w {F = F} {D = D} q) = satw-joined F D q

  pub satw-placed : (o : ℕ) {x : Writing} → SatW (λ X Y r. Q (bytes_of 4 o) (X ++ Y) r) x → SatW Q (placed o x)
  unfolding placed
  satw-placed o unsaid_w = unsaid_w
  satw-placed o (said_w q) = said_w q

  pub satw-all : ((F D r : List ℕ) → Q F D r) → (x : Writing) → SatW Q x
  satw-all f (stopped n p) = unsaid_w
  satw-all f (wrote F D r) = said_w (f F D r)

  pub satw-both : {P : List ℕ → List ℕ → List ℕ → Type 0} {x : Writing} → SatW P x → SatW Q x → SatW (λ F D r. P F D r × Q F D r) x
  satw-both unsaid_w q = unsaid_w
  satw-both (said_w p) q = said_w (p, satw-is q)

  pub satw-map : {P : List ℕ → List ℕ → List ℕ → Type 0} {x : Writing} → ((F D r : List ℕ) → P F D r → Q F D r) → SatW P x → SatW Q x
  satw-map f unsaid_w = unsaid_w
  satw-map f (said_w {F = F} {D = D} {r = r} q) = said_w (f F D r q)

-- MATCHING

-- What is read is written: x writes something and leaves r, and its data is not longer than hi - lo.
pub record Fit (x : Writing) (r : List ℕ) (lo hi : ℕ) : Type 0 where
  pub fixed : List ℕ
  pub values : List ℕ
  pub is : x ≡ wrote fixed values r
  pub small : lo + length values ≤ hi

-- The reader went from the occupancy m to m' and gave the sheet s. Its writer eats s wherever it writes, and its data needs no more bytes than were taken from a on.
pub record Taken (W : Writer) (a : ℕ) (m s m' : List ℕ) : Type 0 where
  pub same : length m' ≡ length m
  pub puts : (at fr : ℕ) (r : List ℕ) → Fit (W at fr (s ++ r)) r (taken a m) (taken a m')

-- What is written is read: a group's bytes hold F at `at` and D at `fr`, the first free place, and j bytes behind it; the occupancy is z up to `fr` and k zeros from there.
pub record Held (h : Here) (at fr : ℕ) (F D z : List ℕ) (j k : ℕ) : Type 0 where
  pub fix : At h.bytes at F
  pub dat : At h.bytes fr D
  pub run : length z ≡ fr
  pub all : length h.bytes ≡ fr + length D + j
  pub zeros : k ≡ length D + j
  pub before : at + length F ≤ fr
  pub area : h.area ≤ fr
  pub small : length h.bytes < 2 ^ 32

-- The writer ate `used` of the sheet s and left r. Wherever a group holds F and D, the reader gives `used` back and takes D's bytes, no others.
pub record Again (R : Reader) (w at fr : ℕ) (s F D r : List ℕ) : Type 0 where
  pub used : List ℕ
  pub split : s ≡ used ++ r
  pub long : length F ≡ w
  pub reads : (h : Here) (z : List ℕ) (j k : ℕ) → Held h at fr F D z j k
      → R h at (z ++ replicate k 0) ≡ done used ((z ++ replicate (length D) 1) ++ replicate j 0)

-- w: how many bytes in place they read and write.
pub record Match (w : ℕ) (R : Reader) (W : Writer) : Type 0 where
  pub forth : (h : Here) (at : ℕ) (m : List ℕ) → at + w ≤ length h.bytes → length m ≡ length h.bytes
      → Sat (λ s m'. Taken W h.area m s m') (R h at m)
  pub back : (at fr : ℕ) (s : List ℕ) → SatW (λ F D r. Again R w at fr s F D r) (W at fr s)

-- TWO PARTS

-- c, and then what a writer ate
pub split-front : (c s s₁ used r : List ℕ) → s ≡ c ++ s₁ → s₁ ≡ used ++ r → s ≡ (c ++ used) ++ r
split-front c s s₁ used r e e₁ = e ∙ ap (λ (l : List ℕ). c ++ l) e₁ ∙ sym (append_assoc c used r)

-- the first part of the data, and the second with the first part taken; each with bytes F in place that stand before it
module _ {h : Here} {at fr : ℕ} {E z : List ℕ} {j k : ℕ} (D D' : List ℕ) (H : Held h at fr E (D ++ D') z j k) (p : ℕ) (F : List ℕ) (a : At h.bytes p F) where
  pub held_first : p + length F ≤ fr → Held h p fr F D z (length D' + j) k
  held_first l =
      let lD = length-append D D' in
      record {
        fix = a;
        dat = at_left h.bytes fr D D' H.dat;
        run = H.run;
        all = omega (arith, H.all);
        zeros = omega (arith, H.zeros);
        before = l;
        area = H.area;
        small = H.small;
      }

  pub held-rest : p + length F ≤ fr + length D → Held h p (fr + length D) F D' (z ++ replicate (length D) 1) j (length D' + j)
  held-rest l =
      let lD = length-append D D' in
      record {
        fix = a;
        dat = at_right h.bytes fr (fr + length D) D D' refl H.dat;
        run = omega (arith, H.run, length-append z (replicate (length D) 1), length-replicate {A = ℕ} (length D) 1);
        all = omega (arith, H.all);
        zeros = refl;
        before = l;
        area = omega (arith, H.area);
        small = H.small;
      }

-- behind the first bytes in place
pub held-behind : {h : Here} {at fr : ℕ} {D z : List ℕ} {j k : ℕ} (c F : List ℕ) → Held h at fr (c ++ F) D z j k → Held h (at + length c) fr F D z j k
held-behind {h} {at} c F H = record {
  fix = at_right h.bytes at (at + length c) c F refl H.fix;
  dat = H.dat;
  run = H.run;
  all = H.all;
  zeros = H.zeros;
  before = omega (arith, H.before, length-append c F);
  area = H.area;
  small = H.small;
}

-- NOTHING

pub match_none : Match 0 none_r none_w
unfolding none_r none_w
match_none = record {
  forth = λ h at m f e. said {s = []} {m = m} (record { same = refl; puts = λ at' fr r. record { fixed = []; values = []; is = refl; small = omega arith } });
  back = λ at fr s. said_w {F = []} {D = []} {r = s} (record {
    used = [];
    split = refl;
    long = refl;
    reads = λ h z j k H. let q : k ≡ j = omega (arith, H.zeros) in rw (q, append-nil z);
  });
}

-- ONE AFTER THE OTHER

module _ (w v : ℕ) (R S : Reader) (U W : Writer) (A : Match w R U) (B : Match v S W) where
  then-taken : (a : ℕ) (m s m' t m'' : List ℕ) → Taken U a m s m' → Taken W a m' t m'' → Taken (then_w w U W) a m (s ++ t) m''
  unfolding then_w next_w joined
  then-taken a m s m' t m'' p q = record {
    same = q.same ∙ p.same;
    puts = λ at fr r.
        let x = p.puts at fr (t ++ r) in
        let y = q.puts (at + w) (fr + length x.values) r in
        record {
          fixed = x.fixed ++ y.fixed;
          values = x.values ++ y.values;
          is = rw (append_assoc s t r, x.is, y.is);
          small = omega (arith, x.small, y.small, length-append x.values y.values);
        };
  }

  then-again : (at fr : ℕ) (s F D r F' D' r' : List ℕ) → Again R w at fr s F D r → Again S v (at + w) (fr + length D) r F' D' r'
      → Again (then_r w R S) (w + v) at fr s (F ++ F') (D ++ D') r'
  unfolding then_r next prefixed
  then-again at fr s F D r F' D' r' p q = record {
    used = p.used ++ q.used;
    split = split-front p.used s r q.used r' p.split q.split;
    long = rw (length-append F F', p.long, q.long);
    reads = λ h z j k H.
        let lF = length-append F F' in
        let e = p.reads h z (length D' + j) k (held_first D D' H at F (at_left h.bytes at F F' H.fix) (omega (arith, H.before))) in
        let e' = q.reads h (z ++ replicate (length D) 1) j (length D' + j)
        (held-rest D D' H (at + w) F' (at_right h.bytes at (at + w) F F' (omega (arith, p.long)) H.fix) (omega (arith, H.before, p.long))) in
        rw (e, e', ones-join z (length D) (length D') (length (D ++ D')) (length-append D D'));
  }

  pub match-then : Match (w + v) (then_r w R S) (then_w w U W)
  unfolding then_r then_w
  match-then = record {
    forth = λ h at m f e. sat-next (sat-map (λ s m' p. sat-map (λ t m'' q. then-taken h.area m s m' t m'' p q)
        (B.forth h (at + w) m' (omega arith) (p.same ∙ e))) (A.forth h at m (omega arith) e));
    back = λ at fr s. satw-next (satw-map (λ F D r p. satw-map (λ F' D' r' q. then-again at fr s F D r F' D' r' p q)
        (B.back (at + w) (fr + length D) r)) (A.back at fr s));
  }
