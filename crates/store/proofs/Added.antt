-- What an addition makes of a store: the check's own verdict.
use Rattle.std.proofs.Common.{Ok, Err}
use Prim.Native.Nat.{ℕ, zero, suc, ◌+◌, ◌-◌, ◌*◌, ◌<◌, ◌≤◌}
use mathlib.Core.Path.{◌≡◌, refl, sym, ap, ◌∙◌}
use mathlib.Core.Bool.{Bool, true, false, cond, ◌&&◌, and-eq-true_iff}
use mathlib.Core.List.{List, [], ◌∷◌, ◌++◌}
use native.Mathlib.Omega.{arith}
use native.Mathlib.Nat.{zero-add}
use lib.ListN.{length, get_or, take, drop, length-append, length-take}
use lib.Seq.{take_at, drop_at, drop-drop, get_or-take, get_or-drop}
use lib.Dec.{leb, ltb, eqb}
use borrow.Author.Tests.{le-leb, lt-leb, leb-true, ltb-true, ltb-false, eq-eqb, ne_eqb, eqb-true, eqb-false}
use Rattle.wire.specs.Bytes.{part, splice, le, bytes_of, same, all_zero}
use Rattle.wire.proofs.Laws.{part-part, le_bytes}
use Rattle.schema.specs.Faults.{fault_at, need}
use Rattle.settings.specs.Store.{CS, customer_of, version_of, flag_of, ignoring, ignored_of, last_of, newest, versioned, above, flags_ok, follows, stands, good, run, records, sound, store_verdict, ignored_by, setting_of, version_by, setting_at, record_of}
use Rattle.store.proofs.Laws.{run-first, run-stop, run_on, run-turn, last-is, last-gone, last-same, last-few, newest-miss, passes, governs, has-version}

-- ZEROS

zero-head : (d : List ℕ) → all_zero d ≡ true → same (take 2 d) CS ≡ false
unfolding all_zero same
zero-head [] e = refl
zero-head (x ∷ []) e = let z : x ≡ 0 = eqb-true x 0 ((and-eq-true_iff (eqb x 0) true).0 e).0 in rw z refl
zero-head (x ∷ (y ∷ d)) e = let z : x ≡ 0 = eqb-true x 0 ((and-eq-true_iff (eqb x 0) (all_zero (y ∷ d))).0 e).0 in rw z refl

zero-later : (k : ℕ) (d : List ℕ) → all_zero d ≡ true → all_zero (drop k d) ≡ true
unfolding all_zero
zero-later zero d e = e
zero-later (suc k) [] e = e
zero-later (suc k) (x ∷ d) e = zero-later k d ((and-eq-true_iff (eqb x 0) (all_zero d)).0 e).1

-- Where nothing but zeros is left no record stands.
pub zero-none : (st : List ℕ) (n : ℕ) → all_zero (drop (9 * n) st) ≡ true → good st n ≡ false
unfolding good stands
zero-none st n e = go (leb (9 * n + 9) (length st)) (zero-head (drop (9 * n) st) e)
  where
    go : (b : Bool) → same (part 2 (9 * n) st) CS ≡ false
        → (b && same (part 2 (9 * n) st) CS) && follows st n (customer_of st n) (version_of st n) (flag_of st n 0) (flag_of st n 1) (flag_of st n 2) ≡ false
    go true h = rw h
    go false h = refl

-- RUNS

-- What a run went past holds.
run-held : (p : ℕ → Bool) (k n i : ℕ) → n ≤ i → i < run p k n → p i ≡ true
unfolding run
run-held p zero n i l h = absurd (omega arith)
run-held p (suc k) n i l h = go (p n) refl h (λ g r. run-held p k (n + 1) i g r)
  where
    first : p n ≡ true → (n + 1 ≤ i → p i ≡ true) → (b : Bool) → ltb n i ≡ b → p i ≡ true
    first e r true q = r (omega (arith, ltb-true n i q))
    first e r false q = let z : n ≡ i = omega (arith, ltb-false n i q) in rw (← z) e

    go : (b : Bool) → p n ≡ b → i < cond b (run p k (n + 1)) n → (n + 1 ≤ i → i < run p k (n + 1) → p i ≡ true) → p i ≡ true
    go true e h r = first e (λ g. r g h) (ltb n i) refl
    go false e h r = absurd (omega arith)

-- And what holds is gone past.
run_past : (p : ℕ → Bool) (f m : ℕ) → ((i : ℕ) → i < m → p i ≡ true) → m ≤ f → run p f 0 ≡ run p (f - m) m
run_past p f zero e l = run-first p f
run_past p f (suc m) e l =
    let q : m + 1 ≡ suc m = omega arith in
    run_past p f m (λ i h. e i (omega arith)) (omega arith) ∙ run-turn p f m (omega arith) (e m (omega arith)) ∙ rw q

-- Where it ends the test fails, if it fails where the fuel is out.
run_ends : (p : ℕ → Bool) (k n : ℕ) → p (n + k) ≡ false → p (run p k n) ≡ false
unfolding run
run_ends p zero n e = let q : n + 0 ≡ n = omega arith in rw q at e
run_ends p (suc k) n e = let q : n + suc k ≡ n + 1 + k = omega arith in go (p n) refl (run_ends p k (n + 1) (rw q at e))
  where
    go : (b : Bool) → p n ≡ b → p (run p k (n + 1)) ≡ false → p (cond b (run p k (n + 1)) n) ≡ false
    go true f h = h
    go false f h = f

pub good-held : (st : List ℕ) (i : ℕ) → i < records st → good st i ≡ true
unfolding records
good-held st i h = run-held (good st) (length st) 0 i (omega arith) h

pub good-ends : (st : List ℕ) → good st (records st) ≡ false
unfolding records
good-ends st = run_ends (good st) (length st) 0 (past (0 + length st) (omega arith))
  where
    past : (n : ℕ) → length st < 9 * n + 9 → good st n ≡ false
    past n h = unfold good stands in rw (lt-leb (9 * n + 9) (length st) h)

good-fits : (st : List ℕ) (n : ℕ) → good st n ≡ true → 9 * n + 9 ≤ length st
unfolding good stands
good-fits st n g =
    let f = follows st n (customer_of st n) (version_of st n) (flag_of st n 0) (flag_of st n 1) (flag_of st n 2) in
    let m = same (part 2 (9 * n) st) CS in
    leb-true _ _ ((and-eq-true_iff (leb (9 * n + 9) (length st)) m).0 ((and-eq-true_iff (leb (9 * n + 9) (length st) && m) f).0 g).0).0

records-fit : (st : List ℕ) → 9 * records st ≤ length st
records-fit st = go (records st) (λ i h. good-held st i h)
  where
    go : (n : ℕ) → ((i : ℕ) → i < n → good st i ≡ true) → 9 * n ≤ length st
    go zero h = omega arith
    go (suc k) h = omega (arith, good-fits st k (h k (omega arith)))

-- VERSIONS RISE

good-above : (st : List ℕ) (n : ℕ) → good st n ≡ true → above st (version_of st n) (newest st (customer_of st n) n) ≡ true
unfolding good follows
good-above st n g =
    let f = flags_ok (flag_of st n 0) (flag_of st n 1) (flag_of st n 2) in
    let r = above st (version_of st n) (newest st (customer_of st n) n) in
    ((and-eq-true_iff f r).0 ((and-eq-true_iff (stands st n) (f && r)).0 g).1).1

-- A record whose version is at least v, by its number plus 1.
pub record Reaches (st : List ℕ) (v k : ℕ) : Type 0 where
  pub one : ℕ
  pub is : k ≡ suc one
  pub most : v ≤ version_of st one

above-reaches : (st : List ℕ) (v w k : ℕ) → Reaches st v k → above st w k ≡ true → v < w
unfolding above
above-reaches st v w k r h =
    let e : ltb (version_of st r.one) w ≡ true = rw r.is at h in
    omega (arith, r.most, ltb-true (version_of st r.one) w e)

-- The newest of a customer is no older than any of its records.
newest-reaches : (st : List ℕ) (i m : ℕ) → i < m → m ≤ records st → Reaches st (version_of st i) (newest st (customer_of st i) m)
unfolding last_of
newest-reaches st i zero h l = absurd (omega arith)
newest-reaches st i (suc m) h l = go (eqb (customer_of st m) (customer_of st i)) refl (λ g. newest-reaches st i m g (omega arith)) (ltb i m) refl
  where
    go : (b : Bool) → eqb (customer_of st m) (customer_of st i) ≡ b → (i < m → Reaches st (version_of st i) (newest st (customer_of st i) m))
        → (d : Bool) → ltb i m ≡ d → Reaches st (version_of st i) (cond b (suc m) (newest st (customer_of st i) m))
    go true e r true q =
        let g = ltb-true i m q in
        let a = good-above st m (good-held st m (omega arith)) in
        let f = eqb-true (customer_of st m) (customer_of st i) e in
        record { one = m; is = refl; most = omega (arith, above-reaches st (version_of st i) (version_of st m) (newest st (customer_of st i) m) (r g) (rw f at a)) }
    go true e r false q = let z : i ≡ m = omega (arith, ltb-false i m q) in record { one = m; is = refl; most = rw z (omega arith) }
    go false e r true q = r (ltb-true i m q)
    go false e r false q = let z : i ≡ m = omega (arith, ltb-false i m q) in absurd (eqb-false (customer_of st m) (customer_of st i) e (rw z))

pub versions-rise : (st : List ℕ) (i j : ℕ) → i < j → j < records st → customer_of st i ≡ customer_of st j → version_of st i < version_of st j
versions-rise st i j h l e =
    above-reaches st (version_of st i) (version_of st j) (newest st (customer_of st i) j) (newest-reaches st i j h (omega arith))
    (ap (λ (c : ℕ). above st (version_of st j) (newest st c j)) e ∙ good-above st j (good-held st j l))

-- So a version is found at its only record.

both_false : (c v d w : ℕ) → (c ≡ d → v ≡ w → ⊥) → eqb c d && eqb v w ≡ false
both_false c v d w h = go (eqb c d) refl
  where
    go : (b : Bool) → eqb c d ≡ b → eqb c d && eqb v w ≡ false
    go true k = rw k (ne_eqb v w (h (eqb-true _ _ k)))
    go false k = rw k refl

pub version-there : (st : List ℕ) (i m : ℕ) → i < m → m ≤ records st → versioned st (customer_of st i) (version_of st i) m ≡ suc i
version-there st i m h l =
    last-is _ i m h (rw (eq-eqb (customer_of st i) (customer_of st i) refl, eq-eqb (version_of st i) (version_of st i) refl))
    (λ j a b. both_false (customer_of st j) (version_of st j) (customer_of st i) (version_of st i) (λ e f. omega (arith, f, versions-rise st i j a (omega arith) (sym e))))

pub version-not-there : (st : List ℕ) (c v m : ℕ) → ((i : ℕ) → i < m → customer_of st i ≡ c → version_of st i ≡ v → ⊥) → versioned st c v m ≡ 0
version-not-there st c v m h = last-gone _ m (λ i l. both_false (customer_of st i) (version_of st i) c v (h i l))

-- TWO STORES THAT AGREE UP TO A PLACE

module _ (s t : List ℕ) (n : ℕ) (agree : take (9 * n) s ≡ take (9 * n) t) where
  part_same : (j at : ℕ) → at + j ≤ 9 * n → part j at s ≡ part j at t
  part_same j at h =
      let z : 0 + at ≡ at = zero-add at in
      let p = part-part j at (9 * n) 0 s h in
      let q = part-part j at (9 * n) 0 t h in
      rw z at (sym p) ∙ ap (λ (x : List ℕ). part j at x) agree ∙ rw z at q

  get-same : (i : ℕ) → i < 9 * n → get_or s i 0 ≡ get_or t i 0
  get-same i h = sym (get_or-take (9 * n) s i 0 h) ∙ ap (λ (x : List ℕ). get_or x i 0) agree ∙ get_or-take (9 * n) t i 0 h

  customer-same : (k : ℕ) → k < n → customer_of s k ≡ customer_of t k
  customer-same k h = ap le (part_same 2 (9 * k + 2) (omega arith))

  version-same : (k : ℕ) → k < n → version_of s k ≡ version_of t k
  version-same k h = ap le (part_same 2 (9 * k + 4) (omega arith))

  flag_same : (k i : ℕ) → k < n → i < 3 → flag_of s k i ≡ flag_of t k i
  flag_same k i h l = get-same (9 * k + 6 + i) (omega arith)

  ignored-same : (k : ℕ) → k < n → ignored_of s k ≡ ignored_of t k
  ignored-same k h = rw (flag_same k 0 h (omega arith), flag_same k 1 h (omega arith), flag_same k 2 h (omega arith))

  -- of a record's number plus 1
  above_same : (v k : ℕ) → k ≤ n → above s v k ≡ above t v k
  unfolding above
  above_same v zero h = refl
  above_same v (suc k) h = rw (version-same k (omega arith))

  by-same : (k : ℕ) → k ≤ n → ignored_by s k ≡ ignored_by t k
  unfolding ignored_by
  by-same zero h = refl
  by-same (suc k) h = ignored-same k (omega arith)

  version-by-same : (k : ℕ) → k ≤ n → version_by s k ≡ version_by t k
  unfolding version_by
  version-by-same zero h = refl
  version-by-same (suc k) h = ap Ok (ignored-same k (omega arith))

  newest-same : (c k : ℕ) → k ≤ n → newest s c k ≡ newest t c k
  newest-same c k h = last-same (λ i. eqb (customer_of s i) c) (λ i. eqb (customer_of t i) c) k
      (λ i l. rw (customer-same i (omega arith)))

  versioned-same : (c v k : ℕ) → k ≤ n → versioned s c v k ≡ versioned t c v k
  versioned-same c v k h = last-same (λ i. eqb (customer_of s i) c && eqb (version_of s i) v) (λ i. eqb (customer_of t i) c && eqb (version_of t i) v) k
      (λ i l. rw (customer-same i (omega arith), version-same i (omega arith)))

  follows_same : (c v a p u k : ℕ) → k ≤ n → follows s k c v a p u ≡ follows t k c v a p u
  unfolding follows
  follows_same c v a p u k h = rw (← (newest-same c k h), above_same v (newest s c k) (omega (arith, last-few (λ i. eqb (customer_of s i) c) k)))

  good-same : (k : ℕ) → k < n → 9 * n ≤ length s → 9 * n ≤ length t → good s k ≡ good t k
  unfolding good stands
  good-same k h l m =
      rw (le-leb (9 * k + 9) (length s) (omega arith), le-leb (9 * k + 9) (length t) (omega arith), part_same 2 (9 * k) (omega arith), customer-same k h, version-same k h, flag_same k 0 h (omega arith), flag_same k 1 h (omega arith), flag_same k 2 h (omega arith))
      (ap (λ (b : Bool). same (part 2 (9 * k) t) CS && b) (follows_same (customer_of t k) (version_of t k) (flag_of t k 0) (flag_of t k 1) (flag_of t k 2) k (omega arith)))

-- THE STORE WITH A RECORD MORE

module _ (st : List ℕ) (c v a p u : ℕ) (few : c < 65536) (low : v < 65536) where
  abbrev n : ℕ
  n = records st

  abbrev rest : List ℕ
  rest = drop 9 (drop (9 * n) st)

  abbrev new : List ℕ
  new = splice 9 (9 * n) (record_of c v a p u) st

  first : length (take (9 * n) st) ≡ 9 * n
  first = simp length-take (omega (arith, records-fit st))

  new-agrees : take (9 * n) st ≡ take (9 * n) new
  new-agrees = sym (take_at (take (9 * n) st) (record_of c v a p u ++ rest) (9 * n) first)

  new-at : drop (9 * n) new ≡ record_of c v a p u ++ rest
  new-at = drop_at (take (9 * n) st) (record_of c v a p u ++ rest) (9 * n) first

  new-long : 9 * n + 9 ≤ length new
  unfolding bytes_of
  new-long =
      let l : length (record_of c v a p u ++ rest) ≡ 9 + length rest = length-append (record_of c v a p u) rest in
      omega (arith, first, length-append (take (9 * n) st) (record_of c v a p u ++ rest), l)

  new-part : (j i : ℕ) → part j (9 * n + i) new ≡ part j i (record_of c v a p u ++ rest)
  new-part j i = ap (take j) (sym (drop-drop i (9 * n) new)) ∙ ap (λ (x : List ℕ). part j i x) new-at

  new-flag : (i : ℕ) → flag_of new n i ≡ get_or (record_of c v a p u ++ rest) (6 + i) 0
  new-flag i =
      let q : 9 * n + 6 + i ≡ 9 * n + (6 + i) = omega arith in
      ap (λ (j : ℕ). get_or new j 0) q ∙ sym (get_or-drop (9 * n) new (6 + i) 0) ∙ ap (λ (x : List ℕ). get_or x (6 + i) 0) new-at

  new-rest : drop (9 * (n + 1)) new ≡ rest
  unfolding bytes_of
  new-rest =
      let q : 9 * (n + 1) ≡ 9 * n + 9 = omega arith in
      ap (λ (k : ℕ). drop k new) q ∙ sym (drop-drop 9 (9 * n) new) ∙ ap (drop 9) new-at

  new-mark : same (part 2 (9 * n) new) CS ≡ true
  unfolding same
  new-mark = ap (λ (x : List ℕ). same (take 2 x) CS) new-at

  new-customer : customer_of new n ≡ c
  unfolding bytes_of
  new-customer = ap le (new-part 2 2) ∙ le_bytes 2 c (omega arith)

  new-version : version_of new n ≡ v
  unfolding bytes_of
  new-version = ap le (new-part 2 4) ∙ le_bytes 2 v (omega arith)

  new-absent : flag_of new n 0 ≡ a
  unfolding bytes_of
  new-absent = new-flag 0

  new-pads : flag_of new n 1 ≡ p
  unfolding bytes_of
  new-pads = new-flag 1

  new-unused : flag_of new n 2 ≡ u
  unfolding bytes_of
  new-unused = new-flag 2

  new-good : good new n ≡ follows st n c v a p u
  unfolding good stands
  new-good =
      rw (le-leb (9 * n + 9) (length new) new-long, new-mark, new-customer, new-version, new-absent, new-pads, new-unused)
      (sym (follows_same st new n new-agrees c v a p u n (omega arith)))

  new-run : records new ≡ run (good new) (length new - n) n
  unfolding records
  new-run = run_past (good new) (length new) n
      (λ i h. sym (good-same st new n new-agrees i h (records-fit st) (omega (arith, new-long))) ∙ good-held st i h) (omega (arith, new-long))

  pub bad-stays : follows st n c v a p u ≡ false → store_verdict new ≡ Err (fault_at 50 (9 * n))
  unfolding store_verdict sound need all_zero
  bad-stays f =
      let r = new-run ∙ run-stop (good new) (length new - n) n (new-good ∙ f) in
      rw (r, new-at)

  module _ (z : sound st ≡ true) (f : follows st n c v a p u ≡ true) where
    new-zero : all_zero (drop (9 * (n + 1)) new) ≡ true
    unfolding sound
    new-zero = ap all_zero new-rest ∙ zero-later 9 (drop (9 * n) st) z

    pub new-more : records new ≡ n + 1
    new-more =
        new-run ∙ run_on (good new) (length new - n) n (omega (arith, new-long)) (new-good ∙ f)
        ∙ run-stop (good new) (length new - n - 1) (n + 1) (zero-none new (n + 1) new-zero)

    pub new-passes : store_verdict new ≡ Ok tt
    new-passes = sym (passes new (n + 1) (sym new-more) new-zero)

    next : n + 1 ≡ suc n
    next = omega arith

    pub new-governs : setting_of new c ≡ Ok (ignoring a p u)
    unfolding last_of ignored_by
    new-governs = sym (governs new (n + 1) (sym new-more) new-zero c)
        ∙ rw (next, eq-eqb _ _ new-customer, new-absent, new-pads, new-unused)

    -- "the newest governs"
    pub new_others : (d : ℕ) → (d ≡ c → ⊥) → setting_of new d ≡ setting_of st d
    unfolding sound
    new_others d h =
        let q : newest new d (n + 1) ≡ newest st d n = newest-miss new d n (λ e. h (sym e ∙ new-customer)) ∙ sym (newest-same st new n new-agrees d n (omega arith)) in
        sym (governs new (n + 1) (sym new-more) new-zero d)
        ∙ ap Ok (ap (ignored_by new) q ∙ sym (by-same st new n new-agrees (newest st d n) (last-few (λ i. eqb (customer_of st i) d) n)))
        ∙ governs st n refl z d

    pub new-readable : setting_at new c v ≡ Ok (ignoring a p u)
    unfolding last_of version_by
    new-readable = sym (has-version new (n + 1) (sym new-more) new-zero c v)
        ∙ rw (next, eq-eqb _ _ new-customer, eq-eqb _ _ new-version, new-absent, new-pads, new-unused)

    -- "older ones stay readable"
    pub new-older : (d w : ℕ) → (d ≡ c → w ≡ v → ⊥) → setting_at new d w ≡ setting_at st d w
    unfolding sound last_of
    new-older d w h =
        let q : versioned new d w (n + 1) ≡ versioned st d w n = rw (next, new-customer, new-version, both_false c v d w (λ e f. h (sym e) (sym f))) (sym (versioned-same st new n new-agrees d w n (omega arith))) in
        sym (has-version new (n + 1) (sym new-more) new-zero d w)
        ∙ ap (version_by new) q ∙ sym (version-by-same st new n new-agrees (versioned st d w n) (last-few (λ i. eqb (customer_of st i) d && eqb (version_of st i) w) n))
        ∙ has-version st n refl z d w
