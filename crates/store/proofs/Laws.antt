-- The store's definitions, each way through them.
use Rattle.std.proofs.Common.{Ok, Err, Result}
use Prim.Native.Nat.{ℕ, zero, suc, ◌+◌, ◌-◌, ◌*◌, ◌%◌, ◌<◌, ◌≤◌}
use mathlib.Core.Path.{◌≡◌, refl, sym, ap, ◌∙◌}
use mathlib.Core.Bool.{Bool, true, false, cond, ◌&&◌, and_assoc}
use mathlib.Core.List.{List, [], ◌∷◌, ◌++◌}
use native.Mathlib.Omega.{arith}
use native.Mathlib.Nat.{mod-lt}
use lib.ListN.{length, get_or, set, drop, length-set}
use lib.Seq.{get_or-set_same, get_or-set_other}
use lib.Dec.{leb, ltb, eqb}
use borrow.Author.Tests.{le-leb, lt-leb, ltb-true, ltb-false, ne_eqb, eqb-true, eqb-false}
use Rattle.wire.specs.Bytes.{part, splice, bytes_of, same, all_zero}
use Rattle.wire.proofs.Laws.{splice-cons, splice-nil, splice-append}
use Rattle.schema.specs.declared.Fault.{Fault}
use Rattle.schema.specs.Faults.{fault_at, need}
use Rattle.settings.specs.Store.{CS, customer_of, version_of, flag_of, flags_ok, last_of, newest, versioned, above, follows, stands, good, run, records, sound, store_verdict, ignored_by, governing, setting_of, version_by, setting_at, record_of, add_verdict, store_after}
use Rattle.store.specs.Check.{standing, rising_from, rising}

-- FLAGS

pub flags-absent : (a p u : ℕ) → 1 < a → false ≡ flags_ok a p u
unfolding flags_ok
flags-absent a p u h = rw (lt-leb a 1 h)

pub flags-pads : (a p u : ℕ) → a ≤ 1 → 1 < p → false ≡ flags_ok a p u
unfolding flags_ok
flags-pads a p u l h = rw (le-leb a 1 l, lt-leb p 1 h)

pub flags-unused : (a p u : ℕ) → a ≤ 1 → p ≤ 1 → leb u 1 ≡ flags_ok a p u
unfolding flags_ok
flags-unused a p u l h = rw (le-leb a 1 l, le-leb p 1 h)

-- RUNS

pub run-stop : (p : ℕ → Bool) (k n : ℕ) → p n ≡ false → run p k n ≡ n
unfolding run
run-stop p zero n e = refl
run-stop p (suc k) n e = rw e

pub run_on : (p : ℕ → Bool) (k n : ℕ) → 0 < k → p n ≡ true → run p k n ≡ run p (k - 1) (n + 1)
unfolding run
run_on p zero n h e = absurd (omega arith)
run_on p (suc k) n h e = let q : suc k - 1 ≡ k = omega arith in rw (q, e)

-- The same where the run is one up to m: a loop's start, its turn, and its end.
pub run-first : (p : ℕ → Bool) (m : ℕ) → run p m 0 ≡ run p (m - 0) 0
run-first p m = let z : m - 0 ≡ m = omega arith in rw z

pub run-turn : (p : ℕ → Bool) (m n : ℕ) → n < m → p n ≡ true → run p (m - n) n ≡ run p (m - (n + 1)) (n + 1)
run-turn p m n h e = let q : m - n - 1 ≡ m - (n + 1) = omega arith in run_on p (m - n) n (omega arith) e ∙ rw q

pub run_end : (p : ℕ → Bool) (m n : ℕ) → m ≤ n → n ≤ m → run p (m - n) n ≡ m
unfolding run
run_end p m n h l = let z : m - n ≡ 0 = omega arith in rw z (omega arith)

pub run-least : (p : ℕ → Bool) (k n : ℕ) → n ≤ run p k n
unfolding run
run-least p zero n = omega arith
run-least p (suc k) n = go (p n) (run-least p k (n + 1))
  where
    go : (b : Bool) → n + 1 ≤ run p k (n + 1) → n ≤ cond b (run p k (n + 1)) n
    go true h = omega arith
    go false h = omega arith

-- A run that ends before its fuel does ends there with more fuel too.
pub run_short : (p : ℕ → Bool) (m k n : ℕ) → run p m n < n + m → m ≤ k → run p k n ≡ run p m n
unfolding run
run_short p zero k n h l = absurd (omega arith)
run_short p (suc m) zero n h l = absurd (omega arith)
run_short p (suc m) (suc k) n h l = go (p n) h (λ g. run_short p m k (n + 1) g (omega arith))
  where
    go : (b : Bool) → cond b (run p m (n + 1)) n < n + suc m → (run p m (n + 1) < n + 1 + m → run p k (n + 1) ≡ run p m (n + 1))
        → cond b (run p k (n + 1)) n ≡ cond b (run p m (n + 1)) n
    go true h r = r (omega arith)
    go false h r = refl

-- A run of two tests at once is one of the second within one of the first.
pub run-both : (g p q : ℕ → Bool) → ((i : ℕ) → g i ≡ p i && q i) → (k n : ℕ) → run g k n ≡ run q (run p k n - n) n
unfolding run
run-both g p q e zero n = let z : n - n ≡ 0 = omega arith in rw z
run-both g p q e (suc k) n = rw (e n) (go (p n) (q n) refl (run-both g p q e k (n + 1)))
  where
    go : (b d : Bool) → q n ≡ d → run g k (n + 1) ≡ run q (run p k (n + 1) - (n + 1)) (n + 1)
        → cond (b && d) (run g k (n + 1)) n ≡ run q (cond b (run p k (n + 1)) n - n) n
    go true true f h =
        let l = run-least p k (n + 1) in
        let i : run p k (n + 1) - n - 1 ≡ run p k (n + 1) - (n + 1) = omega arith in
        h ∙ sym (run_on q (run p k (n + 1) - n) n (omega arith) f ∙ rw i)
    go true false f h = sym (run-stop q (run p k (n + 1) - n) n f)
    go false d f h = let z : n - n ≡ 0 = omega arith in rw z

good-both : (st : List ℕ) (n : ℕ) → good st n ≡ standing st n && rising st n
unfolding good follows standing rising rising_from
good-both st n = sym (and_assoc (stands st n) (flags_ok (flag_of st n 0) (flag_of st n 1) (flag_of st n 2)) (above st (version_of st n) (newest st (customer_of st n) n)))

pub counted : (st : List ℕ) (m r : ℕ) → m ≡ run (standing st) (length st) 0 → r ≡ run (rising st) m 0 → r ≡ records st
unfolding records
counted st m r e f =
    let z : m - 0 ≡ m = omega arith in
    f ∙ sym (run-both (good st) (standing st) (rising st) (good-both st) (length st) 0 ∙ rw (← e, z))

-- A RECORD THAT STANDS

module _ (st : List ℕ) (n : ℕ) where
  pub stands-short : length st < 9 * n + 9 → false ≡ standing st n
  unfolding standing stands
  stands-short h = rw (lt-leb (9 * n + 9) (length st) h)

  module _ (h : 9 * n + 9 ≤ length st) where
    pub stands-not : same (part 2 (9 * n) st) CS ≡ false → false ≡ standing st n
    unfolding standing stands
    stands-not e = rw (le-leb (9 * n + 9) (length st) h, e)

    pub stands-flags : same (part 2 (9 * n) st) CS ≡ true → flags_ok (flag_of st n 0) (flag_of st n 1) (flag_of st n 2) ≡ standing st n
    unfolding standing stands
    stands-flags e = rw (le-leb (9 * n + 9) (length st) h, e)

-- THE LAST RECORD

module _ (p : ℕ → Bool) where
  pub last-few : (k : ℕ) → last_of p k ≤ k
  unfolding last_of
  last-few zero = omega arith
  last-few (suc k) = go (p k) (last-few k)
    where
      go : (b : Bool) → last_of p k ≤ k → cond b (suc k) (last_of p k) ≤ suc k
      go true h = omega arith
      go false h = omega arith

  -- the last of which p holds, and none at all
  pub last-is : (i m : ℕ) → i < m → p i ≡ true → ((j : ℕ) → i < j → j < m → p j ≡ false) → last_of p m ≡ suc i
  unfolding last_of
  last-is i zero h e f = absurd (omega arith)
  last-is i (suc m) h e f = go (ltb i m) refl (λ g. last-is i m g e (λ j a b. f j a (omega arith)))
    where
      go : (b : Bool) → ltb i m ≡ b → (i < m → last_of p m ≡ suc i) → cond (p m) (suc m) (last_of p m) ≡ suc i
      go true q r = let g = ltb-true i m q in rw (f m g (omega arith)) (r g)
      go false q r = let z : i ≡ m = omega (arith, ltb-false i m q) in rw (← z, e)

  pub last-gone : (m : ℕ) → ((i : ℕ) → i < m → p i ≡ false) → last_of p m ≡ 0
  unfolding last_of
  last-gone zero f = refl
  last-gone (suc m) f = rw (f m (omega arith)) (last-gone m (λ i h. f i (omega arith)))

pub last-same : (p q : ℕ → Bool) (k : ℕ) → ((i : ℕ) → i < k → p i ≡ q i) → last_of p k ≡ last_of q k
unfolding last_of
last-same p q zero e = refl
last-same p q (suc k) e = rw (e k (omega arith), last-same p q k (λ i h. e i (omega arith)))

-- SLOTS

-- Of the first k records, a slot leads to the newest of each customer that shares it.
pub record Seen (st slots : List ℕ) (k : ℕ) : Type 0 where
  pub low : (i : ℕ) → get_or slots i 0 ≤ k
  pub leads : (c : ℕ) → newest st c k ≡ newest st c (get_or slots (c % length slots) 0)

pub slot-in : (x : ℕ) (slots : List ℕ) (m : ℕ) → length slots ≡ m → 0 < m → x % length slots < length slots
slot-in x slots m e h = mod-lt x {m = length slots} (omega arith)

pub newest-miss : (st : List ℕ) (c k : ℕ) → (customer_of st k ≡ c → ⊥) → newest st c (k + 1) ≡ newest st c k
unfolding last_of
newest-miss st c k h = let q : k + 1 ≡ suc k = omega arith in rw (q, ne_eqb _ _ h)

pub rising-all : (st : List ℕ) (k : ℕ) → rising st k ≡ rising_from st k k
unfolding rising
rising-all st k = refl

pub rising-is : (st : List ℕ) (k from v c l : ℕ) → v ≡ version_of st k → c ≡ customer_of st k → l ≡ newest st c from → above st v l ≡ rising_from st k from
unfolding rising_from
rising-is st k from v c l e f g = rw (g, e, f)

module _ (st slots : List ℕ) (k c : ℕ) (e : c ≡ customer_of st k) (s : Seen st slots k) where
  pub rises : rising_from st k (get_or slots (c % length slots) 0) ≡ rising st k
  unfolding rising rising_from
  rises = ap (λ (x : ℕ). above st (version_of st k) x) (rw e (sym (s.leads (customer_of st k))))

  -- The record is noted: the customers of its slot are looked for from it on, and no other's newest is changed.
  module _ (h : 0 < length slots) where
    abbrev noted : List ℕ
    noted = set slots (c % length slots) (k + 1)

    inside : c % length slots < length slots
    inside = slot-in c slots (length slots) refl h

    low-next : (i : ℕ) (b : Bool) → eqb i (c % length slots) ≡ b → get_or noted i 0 ≤ k + 1
    low-next i true f = rw (eqb-true i _ f, get_or-set_same slots (c % length slots) (k + 1) 0 inside) (omega arith)
    low-next i false f = rw (get_or-set_other slots (c % length slots) i (k + 1) 0 (eqb-false i _ f)) (omega (arith, s.low i))

    leads-next : (d : ℕ) (b : Bool) → eqb (d % length slots) (c % length slots) ≡ b → newest st d (k + 1) ≡ newest st d (get_or noted (d % length slots) 0)
    leads-next d true f = rw (eqb-true (d % length slots) _ f, get_or-set_same slots (c % length slots) (k + 1) 0 inside)
    leads-next d false f =
        let ne = eqb-false (d % length slots) (c % length slots) f in
        rw (get_or-set_other slots (c % length slots) (d % length slots) (k + 1) 0 ne)
        (newest-miss st d k (λ g. ne (ap (λ (x : ℕ). x % length slots) (sym g ∙ sym e))) ∙ s.leads d)

    pub seen_next : Seen st noted (k + 1)
    seen_next = record {
      low = λ i. low-next i (eqb i (c % length slots)) refl;
      leads = λ d. leads-next d (eqb (d % length slots) (c % length slots)) refl ∙ ap (λ (m : ℕ). newest st d (get_or noted (d % m) 0)) (sym (length-set slots (c % length slots) (k + 1)));
    }

-- WHAT IS WRITTEN

pub store-three : (at a b c : ℕ) (s : List ℕ) → at + 3 ≤ length s → set (set (set s at a) (at + 1) b) (at + 2) c ≡ splice 3 at (a ∷ (b ∷ (c ∷ []))) s
store-three at a b c s h =
    let e : at + 1 + 1 ≡ at + 2 = omega arith in
    let l : at + 1 < length (set s at a) = rw length-set (omega arith) in
    let k : at + 2 < length (set (set s at a) (at + 1) b) = rw (length-set, length-set) (omega arith) in
    sym (splice-cons 2 at a (b ∷ (c ∷ [])) s (omega arith)
    ∙ splice-cons 1 (at + 1) b (c ∷ []) (set s at a) l
    ∙ rw e (splice-cons 0 (at + 2) c [] (set (set s at a) (at + 1) b) k ∙ splice-nil (at + 2 + 1) _))

pub record-written : (at c v a p u : ℕ) (s s₁ s₂ s₃ s₄ : List ℕ) → at + 9 ≤ length s
    → s₁ ≡ splice 2 at CS s → s₂ ≡ splice 2 (at + 2) (bytes_of 2 c) s₁ → s₃ ≡ splice 2 (at + 4) (bytes_of 2 v) s₂ → s₄ ≡ splice 3 (at + 6) (a ∷ (p ∷ (u ∷ []))) s₃
    → s₄ ≡ splice 9 at (record_of c v a p u) s
unfolding bytes_of
record-written at c v a p u s s₁ s₂ s₃ s₄ h e₁ e₂ e₃ e₄ =
    let C : List ℕ = bytes_of 2 c in
    let W : List ℕ = bytes_of 2 v in
    let F : List ℕ = a ∷ (p ∷ (u ∷ [])) in
    e₄ ∙ ap (λ (x : List ℕ). splice 3 (at + 6) F x) (e₃ ∙ ap (λ (x : List ℕ). splice 2 (at + 4) W x) (e₂ ∙ ap (λ (x : List ℕ). splice 2 (at + 2) C x) e₁
    ∙ splice-append 2 2 at CS C s refl (omega arith)) ∙ splice-append 4 2 at (CS ++ C) W s refl (omega arith)) ∙ splice-append 6 3 at ((CS ++ C) ++ W) F s refl (omega arith)

-- THE ANSWERS

module _ (st : List ℕ) (n : ℕ) (e : n ≡ records st) where
  pub is-sound : all_zero (drop (9 * n) st) ≡ sound st
  unfolding sound
  is-sound = rw e

  module _ (s : all_zero (drop (9 * n) st) ≡ true) where
    pub passes : Ok tt ≡ store_verdict st
    unfolding store_verdict need
    passes = rw (sym is-sound ∙ s)

    pub governs : (c : ℕ) → Ok (ignored_by st (newest st c n)) ≡ setting_of st c
    unfolding setting_of governing need
    governs c = rw (sym is-sound ∙ s, e)

    pub has-version : (c v : ℕ) → version_by st (versioned st c v n) ≡ setting_at st c v
    unfolding setting_at need
    has-version c v = rw (sym is-sound ∙ s, e)

  module _ (s : all_zero (drop (9 * n) st) ≡ false) where
    pub refused : Err (fault_at 50 (9 * n)) ≡ store_verdict st
    unfolding store_verdict need
    refused = rw (sym is-sound ∙ s, e)

    pub refused-setting : (c : ℕ) → Err (fault_at 50 (9 * n)) ≡ setting_of st c
    unfolding setting_of need
    refused-setting c = rw (sym is-sound ∙ s, e)

    pub refused-version : (c v : ℕ) → Err (fault_at 50 (9 * n)) ≡ setting_at st c v
    unfolding setting_at need
    refused-version c v = rw (sym is-sound ∙ s, e)

-- what the count of a sound store's records says, and the refusal of any other store
module _ (st : List ℕ) (r : Result ℕ Fault) (e : r ≡ need (sound st) (Err (fault_at 50 (9 * records st))) (Ok (records st))) where
  abbrev answer : Bool → Result ℕ Fault
  answer b = need b (Err (fault_at 50 (9 * records st))) (Ok (records st))

  pub sound-records : (n : ℕ) → r ≡ Ok n → (n ≡ records st) × (all_zero (drop (9 * n) st) ≡ true)
  unfolding need
  sound-records n h = go (sound st) refl (sym h ∙ e)
    where
      go : (b : Bool) → sound st ≡ b → Ok n ≡ answer b → (n ≡ records st) × (all_zero (drop (9 * n) st) ≡ true)
      go true z q = let k : n ≡ records st = cc in (k, is-sound st n k ∙ z)
      go false z q = let k : ⊥ = cc in absurd k

  pub unsound : (f : Fault) → r ≡ Err f → (f ≡ fault_at 50 (9 * records st)) × (all_zero (drop (9 * records st) st) ≡ false)
  unfolding need
  unsound f h = go (sound st) refl (sym h ∙ e)
    where
      go : (b : Bool) → sound st ≡ b → Err f ≡ answer b → (f ≡ fault_at 50 (9 * records st)) × (all_zero (drop (9 * records st) st) ≡ false)
      go true z q = let k : ⊥ = cc in absurd k
      go false z q = let k : f ≡ fault_at 50 (9 * records st) = cc in (k, is-sound st (records st) refl ∙ z)

-- AN ADDITION

module _ (st : List ℕ) (c v a p u : ℕ) where
  pub stays : (x q : ℕ) → add_verdict st c v a p u ≡ Err (fault_at x q) → st ≡ store_after st c v a p u
  unfolding store_after
  stays x q r = rw r

  pub joins : add_verdict st c v a p u ≡ Ok tt → splice 9 (9 * records st) (record_of c v a p u) st ≡ store_after st c v a p u
  unfolding store_after
  joins r = rw r

  module _ (n : ℕ) (e : n ≡ records st) where
    add_is : add_verdict st c v a p u ≡ need (all_zero (drop (9 * n) st) && follows st n c v a p u) (Err (fault_at 50 (9 * n))) (need (leb (9 * n + 9) (length st)) (Err (fault_at 51 0)) (Ok tt))
    unfolding add_verdict sound
    add_is = rw e

    pub add-bad : all_zero (drop (9 * n) st) && follows st n c v a p u ≡ false → (Err (fault_at 50 (9 * n)) ≡ add_verdict st c v a p u) × (st ≡ store_after st c v a p u)
    unfolding need
    add-bad f = let r : add_verdict st c v a p u ≡ Err (fault_at 50 (9 * n)) = add_is ∙ rw f in (sym r, stays _ _ r)

    module _ (f : all_zero (drop (9 * n) st) && follows st n c v a p u ≡ true) where
      pub add-full : length st < 9 * n + 9 → (Err (fault_at 51 0) ≡ add_verdict st c v a p u) × (st ≡ store_after st c v a p u)
      unfolding need
      add-full h = let r : add_verdict st c v a p u ≡ Err (fault_at 51 0) = add_is ∙ rw (f, lt-leb (9 * n + 9) (length st) h) in (sym r, stays _ _ r)

      pub add_done : 9 * n + 9 ≤ length st → (Ok tt ≡ add_verdict st c v a p u) × (splice 9 (9 * n) (record_of c v a p u) st ≡ store_after st c v a p u)
      unfolding need
      add_done h =
          let r : add_verdict st c v a p u ≡ Ok _ = add_is ∙ rw (f, le-leb (9 * n + 9) (length st) h) in
          (sym r, ap (λ (m : ℕ). splice 9 (9 * m) (record_of c v a p u) st) e ∙ joins r)
