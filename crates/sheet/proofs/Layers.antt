-- The layers above a value, and the values in place: each way to make a reader and a writer out of others keeps them matched.
use mathlib.Core.Path.{◌≡◌, refl, sym, ap, ◌∙◌}
use mathlib.Core.Bool.{Bool, true, false, or-true}
use mathlib.Core.List.{List, [], ◌∷◌, ◌++◌, append_assoc, append-nil}
use Prim.Native.Nat.{ℕ, ◌+◌, ◌-◌, ◌≤◌, ◌<◌}
use native.Mathlib.Omega.{arith}
use lib.ListN.{length, take, drop, replicate, length-append, length-take, length-drop, length-replicate, take-append-drop}
use lib.Seq.{take_at, drop_at, length-take-le}
use lib.Dec.{leb, eqb}
use borrow.Author.Tests.{le-leb, leb-true}
use Rattle.wire.specs.Bytes.{part, le, bytes_of, same}
use Rattle.wire.proofs.Laws.{length-bytes, same-eq, same_refl}
use Rattle.schema.specs.Faults.{need}
use Rattle.schema.specs.Schema.{Test, passes, text_ok}
use Rattle.message.specs.Sheet.{Mark, VA, ST, SG, SQ, GB, XT, XU, mark_bytes, NO}
use Rattle.message.specs.Walk.{Reader, byte, prefixed, marked_r, optional_r, plain_r, inline_r}
use Rattle.message.proofs.Count.{length-mark}
use Rattle.meaning.proofs.Sat.{said, sat-need, sat-cond, sat-prefixed, sat-map}
use Rattle.sheet.specs.Written.{Writing, Writer, headed, grab, due, marked_w, optional_w, plain_w, counted, inline_w}
use Rattle.sheet.proofs.Laws.{need-true, four, bytes_small, at_left, at_right, at_part, at_byte, zeros-zero}
use Rattle.sheet.proofs.Match.{SatW, said_w, satw-need, satw-cond, satw-headed, satw-map, Taken, split-front, held-behind, Again, Match}

-- EATING THE SHEET

pub grab-eats : (o n : ℕ) (x s : List ℕ) (k : List ℕ → List ℕ → Writing) → length x ≡ n → grab o n (x ++ s) k ≡ k x s
unfolding grab
grab-eats o n x s k h =
    let l : n ≤ length (x ++ s) = omega (arith, length-append x s) in
    need-true _ _ _ (le-leb _ _ l) ∙ rw (take_at x s n h, drop_at x s n h)

pub due-eats : (x s : List ℕ) (f : List ℕ → Writing) → length x ≡ 2 → due x (x ++ s) f ≡ f s
unfolding due
due-eats x s f h = grab-eats _ 2 x s _ h ∙ need-true _ _ _ (same_refl x)

module _ {Q : List ℕ → List ℕ → List ℕ → Type 0} where
  pub satw-grab : (o n : ℕ) (s : List ℕ) (k : List ℕ → List ℕ → Writing) → ((x r : List ℕ) → s ≡ x ++ r → length x ≡ n → SatW Q (k x r)) → SatW Q (grab o n s k)
  unfolding grab
  satw-grab o n s k f = satw-need (leb n (length s)) 40 o
      (λ e. f (take n s) (drop n s) (sym (take-append-drop n s)) (length-take-le n s (leb-true n (length s) e)))

  pub satw-due : (x s : List ℕ) (f : List ℕ → Writing) → ((r : List ℕ) → s ≡ x ++ r → SatW Q (f r)) → SatW Q (due x s f)
  unfolding due
  satw-due x s f g = satw-grab _ 2 s _ (λ y r e l. satw-need (same y x) 41 (length s) (λ t. g r (rw (same-eq y x t) at e)))

pub counted-eats : (c v r : List ℕ) (k : List ℕ → List ℕ → List ℕ → Writing) → length c ≡ 4 → length v ≡ le c → counted ((c ++ v) ++ r) k ≡ k c v r
unfolding counted
counted-eats c v r k l n = rw (append_assoc c v r) (grab-eats _ 4 c (v ++ r) _ l ∙ grab-eats _ (le c) v r _ n)

pub satw-counted : {Q : List ℕ → List ℕ → List ℕ → Type 0} (s : List ℕ) (k : List ℕ → List ℕ → List ℕ → Writing)
    → ((c v r : List ℕ) → s ≡ (c ++ v) ++ r → length c ≡ 4 → length v ≡ le c → SatW Q (k c v r)) → SatW Q (counted s k)
unfolding counted
satw-counted s k f = satw-grab _ 4 s _ (λ c s' e l. satw-grab _ (le c) s' _ (λ v r e' n.
    f c v r (e ∙ ap (λ (x : List ℕ). c ++ x) e' ∙ sym (append_assoc c v r)) l n))

-- A MARK BEFORE

pub mark-no : (k : Mark) → same (mark_bytes k) NO ≡ false
unfolding mark_bytes same
mark-no VA = refl
mark-no ST = refl
mark-no SG = refl
mark-no SQ = refl
mark-no GB = refl
mark-no XT = refl
mark-no XU = refl

module _ (k : Mark) (w : ℕ) (R : Reader) (W : Writer) (A : Match w R W) where
  marked-eats : (at fr : ℕ) (s r : List ℕ) → marked_w k W at fr ((mark_bytes k ++ s) ++ r) ≡ W at fr (s ++ r)
  unfolding marked_w
  marked-eats at fr s r = rw (append_assoc (mark_bytes k) s r) (due-eats (mark_bytes k) (s ++ r) _ (length-mark k))

  marked-taken : (a : ℕ) (m s m' : List ℕ) → Taken W a m s m' → Taken (marked_w k W) a m (mark_bytes k ++ s) m'
  marked-taken a m s m' p = record {
    same = p.same;
    puts = λ at fr r.
        let x = p.puts at fr r in
        record { fixed = x.fixed; values = x.values; is = marked-eats at fr s r ∙ x.is; small = x.small };
  }

  marked-again : (at fr : ℕ) (s s' F D r : List ℕ) → s ≡ mark_bytes k ++ s' → Again R w at fr s' F D r → Again (marked_r k R) w at fr s F D r
  unfolding marked_r prefixed
  marked-again at fr s s' F D r e p = record {
    used = mark_bytes k ++ p.used;
    split = split-front (mark_bytes k) s s' p.used r e p.split;
    long = p.long;
    reads = λ h z j n H. rw (p.reads h z j n H);
  }

  pub match-marked : Match w (marked_r k R) (marked_w k W)
  unfolding marked_r marked_w
  match-marked = record {
    forth = λ h at m f e. sat-prefixed (mark_bytes k) (sat-map (λ s m' p. marked-taken h.area m s m' p) (A.forth h at m f e));
    back = λ at fr s. satw-due (mark_bytes k) s _ (λ s' e. satw-map (λ F D r p. marked-again at fr s s' F D r e p) (A.back at fr s'));
  }

  -- OPTIONAL

  absent-taken : (a : ℕ) (m : List ℕ) → Taken (optional_w k w W) a m NO m
  unfolding optional_w same
  absent-taken a m = record { same = refl; puts = λ at fr r. record { fixed = 0 ∷ replicate w 0; values = []; is = refl; small = omega arith } }

  present-taken : (a : ℕ) (m s m' : List ℕ) → Taken W a m s m' → Taken (optional_w k w W) a m (mark_bytes k ++ s) m'
  unfolding optional_w headed
  present-taken a m s m' p = record {
    same = p.same;
    puts = λ at fr r.
        let x = p.puts (at + 1) fr r in
        let t : take 2 ((mark_bytes k ++ s) ++ r) ≡ mark_bytes k = rw (append_assoc (mark_bytes k) s r) (take_at (mark_bytes k) (s ++ r) 2 (length-mark k)) in
        record { fixed = 1 ∷ x.fixed; values = x.values; is = rw (t, mark-no k, marked-eats (at + 1) fr s r, x.is); small = x.small };
  }

  absent-again : (at fr : ℕ) (s : List ℕ) → same (take 2 s) NO ≡ true → Again (optional_r k w R) (w + 1) at fr s (0 ∷ replicate w 0) [] (drop 2 s)
  unfolding optional_r need
  absent-again at fr s e = record {
    used = NO;
    split = sym (take-append-drop 2 s) ∙ ap (λ (l : List ℕ). l ++ drop 2 s) (same-eq _ _ e);
    long = omega (arith, length-replicate {A = ℕ} w 0);
    reads = λ h z j n H.
        let v : byte at h.bytes ≡ 0 = at_byte h.bytes at 0 (replicate w 0) H.fix in
        let q : part w (at + 1) h.bytes ≡ replicate w 0 = at_part h.bytes (at + 1) w (replicate w 0) (length-replicate {A = ℕ} w 0) (at_right h.bytes at (at + 1) (0 ∷ []) (replicate w 0) (omega arith) H.fix) in
        let i : n ≡ j = omega (arith, H.zeros) in
        simp (v, q, zeros-zero w, or-true, i, append-nil z, optional_r);
  }

  present-again : (at fr : ℕ) (s F D r : List ℕ) → Again (marked_r k R) w (at + 1) fr s F D r → Again (optional_r k w R) (w + 1) at fr s (1 ∷ F) D r
  unfolding optional_r
  present-again at fr s F D r p = record {
    used = p.used;
    split = p.split;
    long = omega (arith, p.long);
    reads = λ h z j n H.
        let v : byte at h.bytes ≡ 1 = at_byte h.bytes at 1 F H.fix in
        simp (v, optional_r) (p.reads h z j n (held-behind (1 ∷ []) F H));
  }

  pub match-optional : Match (w + 1) (optional_r k w R) (optional_w k w W)
  unfolding optional_r optional_w marked_r
  match-optional = record {
    forth = λ h at m f e. sat-cond (eqb (byte at h.bytes) 1)
        (λ _. sat-prefixed (mark_bytes k) (sat-map (λ s m' p. present-taken h.area m s m' p) (A.forth h (at + 1) m (omega arith) e)))
        (λ _. sat-need _ 11 _ (λ _. sat-need _ 4 _ (λ _. said (absent-taken h.area m))));
    back = λ at fr s. satw-cond (same (take 2 s) NO)
        (λ e. said_w (absent-again at fr s e))
        (λ _. satw-headed (1 ∷ []) (satw-map (λ F D r p. present-again at fr s F D r p) (match-marked.back (at + 1) fr s)));
  }

-- A NUMBER

module _ (w : ℕ) (t : Test) where
  plain-taken : (a : ℕ) (m s : List ℕ) → length s ≡ w → passes t s ≡ true → Taken (plain_w w t) a m s m
  unfolding plain_w
  plain-taken a m s l e = record {
    same = refl;
    puts = λ at fr r.
        record { fixed = s; values = []; is = grab-eats _ w s r _ l ∙ need-true _ _ _ e; small = omega arith };
  }

  plain-again : (at fr : ℕ) (s v r : List ℕ) → s ≡ v ++ r → length v ≡ w → passes t v ≡ true → Again (plain_r w t) w at fr s v [] r
  unfolding plain_r need
  plain-again at fr s v r e l o = record {
    used = v;
    split = e;
    long = l;
    reads = λ h z j n H.
        let q : part w at h.bytes ≡ v = at_part h.bytes at w v l H.fix in
        let i : n ≡ j = omega (arith, H.zeros) in
        simp (q, o, i, append-nil z, plain_r);
  }

  pub match-plain : Match w (plain_r w t) (plain_w w t)
  unfolding plain_r plain_w
  match-plain = record {
    forth = λ h at m f e. sat-need _ _ _ (λ o. said (plain-taken h.area m _ (simp (length-take, length-drop) (omega arith)) o));
    back = λ at fr s. satw-grab _ w s _ (λ v r e l. satw-need _ _ _ (λ o. said_w (plain-again at fr s v r e l o)));
  }

-- INLINE TEXT

module _ (t : Bool) (c : ℕ) (hc : c < 256) where
  inline-taken : (a n : ℕ) (m v : List ℕ) → n ≤ c → length v ≡ n → text_ok t v ≡ true → Taken (inline_w t c) a m (bytes_of 4 n ++ v) m
  unfolding inline_w need
  inline-taken a n m v l k o =
      let e : le (bytes_of 4 n) ≡ n = four n (omega arith) in
      record {
        same = refl;
        puts = λ at fr r.
            record {
              fixed = n ∷ (v ++ replicate (c - n) 0);
              values = [];
              small = omega arith;
              is = counted-eats (bytes_of 4 n) v r _ (length-bytes 4 n) (k ∙ sym e) ∙ rw (e, le-leb n c l, o);
            };
      }

  inline-again : (at fr : ℕ) (s x v r : List ℕ) → s ≡ (x ++ v) ++ r → length x ≡ 4 → length v ≡ le x → le x ≤ c → text_ok t v ≡ true
      → Again (inline_r t c) (c + 1) at fr s (le x ∷ (v ++ replicate (c - le x) 0)) [] r
  unfolding inline_r need
  inline-again at fr s x v r e lx lv l o = record {
    used = x ++ v;
    split = e;
    long = simp (length-append, length-replicate) (omega arith);
    reads = λ h z j n H.
        let b = h.bytes in
        let i : n ≡ j = omega (arith, H.zeros) in
        let f : byte at b ≡ le x = at_byte b at (le x) (v ++ replicate (c - le x) 0) H.fix in
        let hv = at_right b at (at + 1) (le x ∷ []) (v ++ replicate (c - le x) 0) (omega arith) H.fix in
        let q : part (le x) (at + 1) b ≡ v = at_part b (at + 1) (le x) v lv (at_left b (at + 1) v (replicate (c - le x) 0) hv) in
        let u : part (c - le x) (at + 1 + le x) b ≡ replicate (c - le x) 0 = at_part b (at + 1 + le x) (c - le x) (replicate (c - le x) 0) (length-replicate {A = ℕ} (c - le x) 0)
        (at_right b (at + 1) (at + 1 + le x) v (replicate (c - le x) 0) (omega arith) hv) in
        simp (f, q, u, o, zeros-zero (c - le x), or-true, le-leb (le x) c l, bytes_small 3 x lx (omega arith), i, append-nil z, inline_r);
  }

  pub match-inline : Match (c + 1) (inline_r t c) (inline_w t c)
  unfolding inline_r inline_w
  match-inline = record {
    forth = λ h at m f e. sat-need _ 7 _ (λ y. sat-need _ 8 _ (λ _. sat-need _ 9 _ (λ o.
        let l = leb-true _ _ y in said (inline-taken h.area _ m _ l (simp (length-take, length-drop) (omega arith)) o))));
    back = λ at fr s. satw-counted s _ (λ x v r e lx lv. satw-need _ 7 _ (λ y. satw-need _ 9 _ (λ o. said_w (inline-again at fr s x v r e lx lv (leb-true _ _ y) o))));
  }
