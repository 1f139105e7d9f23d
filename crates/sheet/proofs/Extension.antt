-- The extension: a sequence of any groups, of which one of unknown type is kept as bytes; and what is walked last and stands first.
use mathlib.Core.Path.{◌≡◌, refl, sym, ap, ◌∙◌}
use mathlib.Core.Bool.{true, false, not}
use mathlib.Core.List.{List, [], ◌++◌, append_assoc, append-nil}
use Prim.Native.Nat.{ℕ, zero, suc, ◌+◌, ◌-◌, ◌*◌, ◌≤◌}
use native.Mathlib.Omega.{arith}
use lib.ListN.{length, take, drop, replicate, length-append, length-take, length-drop}
use lib.Seq.{take_at, drop-drop, take-take, take-add, take-append-le, drop-append-le}
use lib.Dec.{eqb}
use borrow.Author.Tests.{ne_eqb, lt-ltb, le-leb, leb-true, eqb-false, not-true}
use Rattle.wire.specs.Bytes.{part, le, bytes_of, same}
use Rattle.wire.proofs.Laws.{length-bytes}
use Rattle.schema.specs.Faults.{need}
use Rattle.schema.specs.Schema.{Group, known, text_ok}
use Rattle.message.specs.Sheet.{GB, XT, XU, mark_bytes}
use Rattle.message.specs.Walk.{Here, Reader, Inner, word, prefixed, next, marked_r, in_area, indirect_r, text_r, list_r, extending_r, groups_r, extension_r, extension_in, behind_r}
use Rattle.meaning.proofs.Occupying.{taken, taken_more}
use Rattle.meaning.proofs.Sat.{Sat, said, sat-need, sat-cond, sat-prefixed, sat-next, sat-map, sat-indirect}
use Rattle.sheet.specs.Written.{Writing, Writer, InnerW, indirect_w, list_b, inner_b, extending_b, extension_w, swapped, back_w, behind_w}
use Rattle.sheet.proofs.Laws.{At, four, at_left, at_right, at_part, ones-join}
use Rattle.sheet.proofs.Match.{SatW, said_w, unsaid_w, satw-need, satw-cond, satw-placed, satw-map, Fit, Taken, Held, split-front, held_first, held-rest, Again, Match}
use Rattle.sheet.proofs.Layers.{counted-eats, satw-counted, due-eats, satw-due}
use Rattle.sheet.proofs.Bodies.{offset-leads, BodyTaken, BodyAgain, BodyMatch, indirect-taken, indirect-again, match-indirect, text-again, list-forth, list_back, match-inner, inner-again, GroupAgain, GroupMatch}

-- A GROUP OF KNOWN TYPE, AND ONE THAT IS KEPT

-- the type id of what is kept
pub kept-id : (b : List ℕ) (p : ℕ) (c v : List ℕ) → length c ≡ 4 → 8 ≤ length v → At b p (c ++ v) → le (part 8 (p + 4) b) ≡ le (take 8 v)
kept-id b p c v l k a = let hv = at_right b p (p + 4) c v (omega arith) a in ap le (ap (take 8) hv.1 ∙ take-append-le 8 v hv.0 k)

module _ (gs : List Group) (I : Inner) (W : InnerW) (A : GroupMatch gs I W) where
  known-taken : (a n : ℕ) (m s m' : List ℕ) → BodyTaken (inner_b W 0) a n m s m' → BodyTaken (extending_b gs W) a n m (mark_bytes GB ++ s) m'
  unfolding extending_b same mark_bytes inner_b
  known-taken a n m s m' t = record {
    same = t.same;
    puts = λ p r.
        let x = t.puts p r in
        record { own = x.own; values = x.values; small = x.small; is = due-eats (mark_bytes GB) (s ++ r) _ refl ∙ x.is };
  }

  kept-taken : (a : ℕ) (m c v : List ℕ) → length c ≡ 4 → length v ≡ le c → 12 ≤ le c → known gs (le (take 8 v)) ≡ false → BodyTaken (extending_b gs W) a (4 + le c * 1) m (mark_bytes XU ++ (c ++ v)) m
  unfolding extending_b same mark_bytes need not
  kept-taken a m c v l k h u = record {
    same = refl;
    puts = λ p r.
        record {
          own = c ++ v;
          values = [];
          small = omega (arith, length-append c v);
          is = due-eats (mark_bytes XU) ((c ++ v) ++ r) _ refl ∙ counted-eats c v r _ l k ∙ rw (le-leb 12 (le c) h, u);
        };
  }

  kept_again : (p : ℕ) (s s₁ c v r : List ℕ) → s ≡ mark_bytes XU ++ s₁ → s₁ ≡ (c ++ v) ++ r → length c ≡ 4 → length v ≡ le c
      → 12 ≤ le c → known gs (le (take 8 v)) ≡ false → BodyAgain 1 (extending_r gs I) p s (c ++ v) [] r
  unfolding extending_r need marked_r prefixed text_ok
  kept_again p s s₁ c v r e e₁ l k h u =
      let a = text-again false p s₁ c v r e₁ l k refl in
      record {
        used = mark_bytes XU ++ a.used;
        split = split-front (mark_bytes XU) s s₁ a.used r e a.split;
        again = λ hh z q j n eq H.
            let x = a.again hh z q j n eq H in
            let t : le (take 4 (c ++ v)) ≡ le c = ap le (take_at c v 4 l) in
            record { four = x.four; size = x.size; reads = rw (kept-id hh.bytes p c v l (omega arith) H.fix, u, le-leb 12 (le (take 4 (c ++ v))) (omega arith), x.reads) };
      }

  known-again : (p : ℕ) (s s₁ X Y r : List ℕ) → s ≡ mark_bytes GB ++ s₁ → GroupAgain gs I 0 s₁ X Y r → BodyAgain 1 (extending_r gs I) p s X Y r
  unfolding extending_r need marked_r prefixed
  known-again p s s₁ X Y r e g =
      let a = inner-again gs I W A 0 p s₁ X Y r g in
      record {
        used = mark_bytes GB ++ a.used;
        split = split-front (mark_bytes GB) s s₁ a.used r e a.split;
        again = λ h z q j n eq H.
            let x = a.again h z q j n eq H in
            let u = g.again (omega (arith, H.all, H.small)) in
            let d : drop (p + 4) h.bytes ≡ drop 4 X ++ H.fix.0 = rw (← drop-drop 4 p h.bytes, H.fix.1) (drop-append-le 4 X H.fix.0 (omega (arith, u.sixteen))) in
            let w : le (part 8 (p + 4) h.bytes) ≡ le (part 8 4 X) = ap le (ap (take 8) d ∙ take-append-le 8 (drop 4 X) H.fix.0 (omega (arith, u.sixteen, length-drop 4 X))) in
            record { four = x.four; size = x.size; reads = rw (w, u.knows, le-leb 12 (le (take 4 X)) (omega (arith, u.size, u.sixteen)), x.reads) };
      }

  kept-forth : (h : Here) (p : ℕ) (m : List ℕ) → p + (4 + word p h.bytes * 1) ≤ length h.bytes → 12 ≤ word p h.bytes → known gs (le (part 8 (p + 4) h.bytes)) ≡ false
      → Sat (λ s m'. BodyTaken (extending_b gs W) h.area (4 + word p h.bytes * 1) m (mark_bytes XU ++ s) m') (text_r false (word p h.bytes) h p m)
  unfolding text_r
  kept-forth h p m f t₁ u =
      let b = h.bytes in
      let n = word p b in
      sat-need _ 9 _ (λ _. said {s = part (4 + n) p b} {m = m} (rw (take-add 4 n (drop p b)) (kept-taken h.area m (part 4 p b) (take n (drop 4 (drop p b)))
      (simp (length-take, length-drop) (omega arith)) (simp (length-take, length-drop) (omega arith)) t₁
      (rw (take-take 8 n (drop 4 (drop p b)) (omega arith), drop-drop 4 p b) u))))

  match-extending : BodyMatch 1 (extending_r gs I) (extending_b gs W)
  unfolding extending_r extending_b marked_r
  match-extending = record {
    forth = λ h p m f e.
        let b = h.bytes in
        let n = word p b in
        sat-need _ 1 _ (λ t₁. sat-cond (known gs (le (part 8 (p + 4) b)))
        (λ _. sat-prefixed (mark_bytes GB) (sat-map (λ s m' t. known-taken h.area _ m s m' t) ((match-inner gs I W A 0).forth h p m f e)))
        (λ u. sat-prefixed (mark_bytes XU) (kept-forth h p m f (leb-true 12 n t₁) u)));
    back = λ p s. satw-cond (same (take 2 s) (mark_bytes XU))
        (λ _. satw-due (mark_bytes XU) s _ (λ s₁ e. satw-counted s₁ _ (λ c v r e₁ l k.
        satw-need _ 1 _ (λ t. satw-need _ 45 _ (λ u. said_w (kept_again p s s₁ c v r e e₁ l k (leb-true 12 (le c) t) (not-true _ u)))))))
        (λ _. satw-due (mark_bytes GB) s _ (λ s₁ e. satw-map (λ X Y r g. known-again p s s₁ X Y r e g) (A.back 0 s₁)));
  }

-- WHAT STANDS LAST
-- The extension's writer looks at what comes next: where the rest began with XT, that would be eaten too.

abbrev pub Ends : List ℕ → Type 0
Ends r = same (take 2 r) (mark_bytes XT) ≡ false

pub record LastTaken (W : Writer) (a : ℕ) (m s m' : List ℕ) : Type 0 where
  pub same : length m' ≡ length m
  pub puts : (at fr : ℕ) (r : List ℕ) → Ends r → Fit (W at fr (s ++ r)) r (taken a m) (taken a m')

pub record LastMatch (w : ℕ) (R : Reader) (W : Writer) : Type 0 where
  pub forth : (h : Here) (at : ℕ) (m : List ℕ) → at + w ≤ length h.bytes → length m ≡ length h.bytes
      → Sat (λ s m'. LastTaken W h.area m s m') (R h at m)
  pub back : (at fr : ℕ) (s : List ℕ) → SatW (λ F D r. Again R w at fr s F D r) (W at fr s)

-- besides, where the extension is held its location passes 3, which is tested before the fields
pub record ExtensionMatch (R : Reader) (W : Writer) : Type 0 where
  pub forth : (h : Here) (at : ℕ) (m : List ℕ) → at + 4 ≤ length h.bytes → length m ≡ length h.bytes
      → Sat (λ s m'. LastTaken W h.area m s m') (R h at m)
  pub back : (at fr : ℕ) (s : List ℕ)
      → SatW (λ F D r. Again R 4 at fr s F D r × ((h : Here) (z : List ℕ) (j k : ℕ) → Held h at fr F D z j k → extension_in h at ≡ true)) (W at fr s)

-- its offset, where there is none and where there is one
pub none-offset : {h : Here} {at fr : ℕ} {D z : List ℕ} {j k : ℕ} → Held h at fr (bytes_of 4 0) D z j k → word at h.bytes ≡ 0
none-offset {h} {at} H = ap le (at_part h.bytes at 4 (bytes_of 4 0) (length-bytes 4 0) H.fix) ∙ four 0 (omega arith)

pub some-offset : {h : Here} {at fr : ℕ} {D z : List ℕ} {j k : ℕ} → Held h at fr (bytes_of 4 (fr - at)) D z j k → eqb (word at h.bytes) 0 ≡ false
some-offset {h} {at} {fr} H = ne_eqb (word at h.bytes) 0 (omega (arith, offset-leads H, H.before, length-bytes 4 (fr - at)))

module _ (gs : List Group) (I : Inner) (J : InnerW) (A : GroupMatch gs I J) where
  abbrev match-item : Match 4 (indirect_r 26 1 (extending_r gs I)) (indirect_w (extending_b gs J))
  match-item = match-indirect 26 _ _ _ (match-extending gs I J A)

  abbrev W : Writer
  W = indirect_w (list_b 1 4 (indirect_w (extending_b gs J)))

  none-taken : (a : ℕ) (m m' : List ℕ) → length m' ≡ length m → taken a m ≤ taken a m' → LastTaken (extension_w gs J) a m [] m'
  unfolding extension_w
  none-taken a m m' l c = record { same = l; puts = λ at fr r ok. record { fixed = bytes_of 4 0; values = []; is = rw ok; small = omega arith } }

  some-taken : (a : ℕ) (m s m' : List ℕ) → Taken W a m s m' → LastTaken (extension_w gs J) a m (mark_bytes XT ++ s) m'
  unfolding extension_w same mark_bytes
  some-taken a m s m' t = record {
    same = t.same;
    puts = λ at fr r ok.
        let x = t.puts at fr r in
        record { fixed = x.fixed; values = x.values; is = due-eats (mark_bytes XT) (s ++ r) _ refl ∙ x.is; small = x.small };
  }

  none-again : (at fr : ℕ) (s : List ℕ) → Again (extension_r gs I) 4 at fr s (bytes_of 4 0) [] s
  unfolding extension_r
  none-again at fr s = record {
    used = [];
    split = refl;
    long = length-bytes 4 0;
    reads = λ h z j n H.
        let i : n ≡ j = omega (arith, H.zeros) in
        rw (none-offset H, i, append-nil z);
  }

  none_in : (h : Here) (at fr : ℕ) (D z : List ℕ) (j k : ℕ) → Held h at fr (bytes_of 4 0) D z j k → extension_in h at ≡ true
  unfolding extension_in
  none_in h at fr D z j k H = rw (none-offset H)

  some_in : (h : Here) (at fr : ℕ) (D z : List ℕ) (j k : ℕ) → 4 ≤ length D → Held h at fr (bytes_of 4 (fr - at)) D z j k → extension_in h at ≡ true
  unfolding extension_in in_area
  some_in h at fr D z j k l H =
      rw (some-offset H, offset-leads H, le-leb h.area fr H.area, lt-ltb fr (length h.bytes) (omega (arith, H.all)))

  list-again : (fr : ℕ) (s s₁ X Y r : List ℕ) → s ≡ mark_bytes XT ++ s₁ → BodyAgain 4 (list_r 4 (indirect_r 26 1 (extending_r gs I))) fr s₁ X Y r → 1 ≤ le (take 4 X)
      → BodyAgain 4 (groups_r gs I) fr s X Y r
  unfolding groups_r marked_r prefixed
  list-again fr s s₁ X Y r e a l = record {
    used = mark_bytes XT ++ a.used;
    split = split-front (mark_bytes XT) s s₁ a.used r e a.split;
    again = λ h z q j n eq H.
        let x = a.again h z q j n eq H in
        record { four = x.four; size = x.size; reads = rw (ne_eqb (le (take 4 X)) 0 (omega arith), x.reads) };
  }

  some-again : (at fr : ℕ) (s X Y r : List ℕ) → BodyAgain 4 (groups_r gs I) fr s X Y r → Again (extension_r gs I) 4 at fr s (bytes_of 4 (fr - at)) (X ++ Y) r
  unfolding extension_r
  some-again at fr s X Y r a =
      let u = indirect-again 13 4 (groups_r gs I) at fr s X Y r a in
      record {
        used = u.used;
        split = u.split;
        long = u.long;
        reads = λ h z j n H. rw (some-offset H) (u.reads h z j n H);
      }

  pub match-extension : ExtensionMatch (extension_r gs I) (extension_w gs J)
  unfolding extension_r extension_w groups_r marked_r indirect_w
  match-extension = record {
    forth = λ h at m f e. sat-cond (eqb (word at h.bytes) 0)
        (λ _. said (none-taken h.area m m refl (omega arith)))
        (λ _. sat-indirect 13 4 (groups_r gs I) h at m e (λ p L. sat-cond (eqb (word p h.bytes) 0)
        (λ _. said (none-taken h.area m _ (L.same ∙ sym e) (omega (arith, taken_more h.area p _ m L.clear L.behind (omega (arith, L.whole, e))))))
        (λ k. sat-prefixed (mark_bytes XT) (sat-map (λ s m' t. some-taken h.area m s m' (indirect-taken (list_b 1 4 (indirect_w (extending_b gs J))) h.area p _ m s m' L.clear L.behind (omega (arith, L.whole, e)) t))
        (list-forth 1 4 _ _ match-item h p _ L.whole L.same (nonzero _ (eqb-false _ _ k)))))));
    back = λ at fr s. satw-cond (same (take 2 s) (mark_bytes XT))
        (λ _. satw-due (mark_bytes XT) s _ (λ s₁ e. satw-placed (fr - at) (satw-map (λ X Y r a. (some-again at fr s X Y r (list-again fr s s₁ X Y r e a.0 a.1), λ h z j k H. some_in h at fr (X ++ Y) z j k (omega (arith, a.2, length-append X Y)) H)) (list_back 1 4 _ _ match-item fr s₁))))
        (λ _. said_w (none-again at fr s, λ h z j k H. none_in h at fr [] z j k H));
  }
    where
      nonzero : (n : ℕ) → (n ≡ 0 → ⊥) → 1 ≤ n
      nonzero zero h = absurd (h refl)
      nonzero (suc n) h = omega arith

-- WHAT IS WALKED LAST STANDS FIRST

module _ {Q : List ℕ → List ℕ → List ℕ → Type 0} where
  satw-swapped : (F D : List ℕ) {x : Writing} → SatW (λ F' D' r. Q (F' ++ F) (D ++ D') r) x → SatW Q (swapped F D x)
  unfolding swapped
  satw-swapped F D unsaid_w = unsaid_w
  satw-swapped F D (said_w q) = said_w q

  pub satw-back : {x : Writing} {k : List ℕ → List ℕ → Writing} → SatW (λ F D r. SatW (λ F' D' r'. Q (F' ++ F) (D ++ D') r') (k D r)) x → SatW Q (back_w x k)
  unfolding back_w
  satw-back unsaid_w = unsaid_w
  satw-back (said_w {F = F} {D = D} q) = satw-swapped F D q

module _ (w : ℕ) (R S : Reader) (U W : Writer) (A : Match w R U) (B : ExtensionMatch S W) where
  behind-taken : (a : ℕ) (m s m' t m'' : List ℕ) → Taken U a m s m' → LastTaken W a m' t m'' → LastTaken (behind_w U W) a m (s ++ t) m''
  unfolding behind_w back_w swapped
  behind-taken a m s m' t m'' p q = record {
    same = q.same ∙ p.same;
    puts = λ at fr r ok.
        let x = p.puts (at + 4) fr (t ++ r) in
        let y = q.puts at (fr + length x.values) r ok in
        record {
          fixed = y.fixed ++ x.fixed;
          values = x.values ++ y.values;
          is = rw (append_assoc s t r, x.is, y.is);
          small = omega (arith, x.small, y.small, length-append x.values y.values);
        };
  }

  behind-again : (at fr : ℕ) (s F D r E D' r' : List ℕ) → Again R w (at + 4) fr s F D r → Again S 4 at (fr + length D) r E D' r'
      → ((h : Here) (z : List ℕ) (j k : ℕ) → Held h at (fr + length D) E D' z j k → extension_in h at ≡ true)
      → Again (behind_r R S) (4 + w) at fr s (E ++ F) (D ++ D') r'
  unfolding behind_r next prefixed need
  behind-again at fr s F D r E D' r' p q x = record {
    used = p.used ++ q.used;
    split = split-front p.used s r q.used r' p.split q.split;
    long = rw (length-append E F, p.long, q.long);
    reads = λ h z j k H.
        let lF = length-append E F in
        let lE = q.long in
        let first = held_first D D' H (at + 4) F (at_right h.bytes at (at + 4) E F (omega arith) H.fix) (omega (arith, H.before)) in
        let rest = held-rest D D' H at E (at_left h.bytes at E F H.fix) (omega (arith, H.before)) in
        rw (x h _ _ _ rest, p.reads h z (length D' + j) k first, q.reads h (z ++ replicate (length D) 1) j (length D' + j) rest, ones-join z (length D) (length D') (length (D ++ D')) (length-append D D'));
  }

  pub match-behind : LastMatch (4 + w) (behind_r R S) (behind_w U W)
  unfolding behind_r behind_w
  match-behind = record {
    forth = λ h at m f e. sat-need _ 3 _ (λ _. sat-next (sat-map (λ s m' p. sat-map (λ t m'' q. behind-taken h.area m s m' t m'' p q)
        (B.forth h at m' (omega arith) (p.same ∙ e))) (A.forth h (at + 4) m (omega arith) e)));
    back = λ at fr s. satw-back (satw-map (λ F D r p. satw-map (λ E D' r' q. behind-again at fr s F D r E D' r' p q.0 q.1)
        (B.back at (fr + length D) r)) (A.back (at + 4) fr s));
  }
