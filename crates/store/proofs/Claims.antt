-- Request 7's statements, shown.
use Rattle.std.proofs.Common.{Ok, Err, Result}
use Prim.Native.Nat.{ℕ, zero, suc, ◌+◌, ◌*◌, ◌<◌}
use mathlib.Core.Path.{◌≡◌, refl, sym, ap, ◌∙◌}
use mathlib.Core.Bool.{Bool, true, false, ◌&&◌}
use mathlib.Core.List.{List}
use native.Mathlib.Omega.{arith}
use lib.ListN.{length, replicate}
use lib.Dec.{leb, eqb}
use borrow.Author.Tests.{eq-eqb, ne_eqb}
use Rattle.wire.specs.Bytes.{all_zero}
use Rattle.schema.specs.Faults.{Verdict, fault_at, need}
use Rattle.schema.specs.declared.Fault.{Fault}
use Rattle.settings.specs.declared.Ignored.{Ignored}
use Rattle.settings.specs.Store.{strict, customer_of, version_of, ignored_of, last_of, follows, good, records, sound, store_verdict, ignored_by, governing, setting_of, version_by, setting_at, add_verdict, store_after}
use Rattle.store.specs.Claims.{store_with, Damaged, MadeSo, Added, Claims}
use Rattle.store.proofs.Laws.{run-stop, last-is, last-gone, stays, joins, passes, governs}
use Rattle.store.proofs.Added.{good-held, good-ends, versions-rise, version-there, version-not-there, zero-none, bad-stays, new-more, new-passes, new-governs, new_others, new-readable, new-older}

unlike : {A : Type 0} (n p : ℕ) → ◌≡◌ {A = Verdict} (Err (fault_at n p)) (Ok tt) → A
unlike n p e = let z : ⊥ = cc in absurd z

-- WHERE A STORE IS REFUSED

is-damaged : (st : List ℕ) (n place : ℕ) → store_verdict st ≡ Err (fault_at n place) → Damaged st n place
unfolding store_verdict setting_of setting_at add_verdict
is-damaged st n place e = go (sound st) refl e
  where
    other : (m q : ℕ) → ◌≡◌ {A = Verdict} (Err (fault_at m q)) (Err (fault_at n place)) → ◌≡◌ {A = Result Ignored Fault} (Err (fault_at m q)) (Err (fault_at n place))
    other m q e = let f : ◌≡◌ {A = Fault} (fault_at m q) (fault_at n place) = cc in ap (λ (x : Fault). Err x) f

    go : (b : Bool) → sound st ≡ b → need {X = Verdict} b (Err (fault_at 50 (9 * records st))) (Ok tt) ≡ Err (fault_at n place) → Damaged st n place
    go true z e = unfold need in unlike _ _ (sym e)
    go false z e = unfold need in record {
      find = λ c. rw z (other 50 (9 * records st) e);
      read = λ c v. rw z (other 50 (9 * records st) e);
      add = λ c v a p u. rw z e;
    }

-- WHERE IT PASSES

pub sound-of : (st : List ℕ) → store_verdict st ≡ Ok tt → sound st ≡ true
unfolding store_verdict
sound-of st e = go (sound st) e
  where
    go : (b : Bool) → need {X = Verdict} b (Err (fault_at 50 (9 * records st))) (Ok tt) ≡ Ok tt → b ≡ true
    go true e = refl
    go false e = unfold need in unlike _ _ e

is_found : (st : List ℕ) (c : ℕ) → store_verdict st ≡ Ok tt → setting_of st c ≡ Ok (governing st c)
unfolding setting_of need
is_found st c e = rw (sound-of st e)

is-newest : (st : List ℕ) (i : ℕ) → store_verdict st ≡ Ok tt → i < records st → ((j : ℕ) → i < j → j < records st → customer_of st j ≡ customer_of st i → ⊥)
    → setting_of st (customer_of st i) ≡ Ok (ignored_of st i)
unfolding governing ignored_by
is-newest st i e h f =
    is_found st (customer_of st i) e ∙ rw (last-is (λ k. eqb (customer_of st k) (customer_of st i)) i (records st) h (eq-eqb (customer_of st i) (customer_of st i) refl) (λ j a b. ne_eqb _ _ (f j a b)))

is-unknown : (st : List ℕ) (c : ℕ) → store_verdict st ≡ Ok tt → ((i : ℕ) → i < records st → customer_of st i ≡ c → ⊥) → setting_of st c ≡ Ok strict
unfolding governing ignored_by
is-unknown st c e f = is_found st c e ∙ rw (last-gone (λ k. eqb (customer_of st k) c) (records st) (λ i h. ne_eqb _ _ (f i h)))

is-there : (st : List ℕ) (i : ℕ) → store_verdict st ≡ Ok tt → i < records st → setting_at st (customer_of st i) (version_of st i) ≡ Ok (ignored_of st i)
unfolding setting_at need version_by
is-there st i e h = rw (sound-of st e, version-there st i (records st) h (omega arith))

is-not-there : (st : List ℕ) (c v : ℕ) → store_verdict st ≡ Ok tt → ((i : ℕ) → i < records st → customer_of st i ≡ c → version_of st i ≡ v → ⊥) → setting_at st c v ≡ Err (fault_at 59 0)
unfolding setting_at need version_by
is-not-there st c v e h = rw (sound-of st e, version-not-there st c v (records st) h)

-- AN ADDITION

module _ (st : List ℕ) (c v a p u : ℕ) where
  abbrev may : Bool
  may = follows st (records st) c v a p u

  abbrev room : Bool
  room = leb (9 * records st + 9) (length st)

  abbrev rests : Bool → Bool → Verdict
  rests b d = need b (Err (fault_at 50 (9 * records st))) (need d (Err (fault_at 51 0)) (Ok tt))

  add-sound : sound st ≡ true → add_verdict st c v a p u ≡ rests may room
  unfolding add_verdict
  add-sound z = rw z

  so-made : (place : ℕ) → store_verdict st ≡ Ok tt → c < 65536 → v < 65536 → MadeSo st c v a p u place
  so-made place e few low = go may room refl (add-sound z)
    where
      z : sound st ≡ true
      z = sound-of st e

      alike : (n m q r : ℕ) → (n ≡ m → ⊥) → ◌≡◌ {A = Verdict} (Err (fault_at n q)) (Err (fault_at m r)) → ⊥
      alike n m q r h e = let f : ◌≡◌ {A = Fault} (fault_at n q) (fault_at m r) = cc in h (ap (λ (x : Fault). x.number) f)

      go : (b d : Bool) → may ≡ b → add_verdict st c v a p u ≡ rests b d → MadeSo st c v a p u place
      go false d f h = unfold need in
          let k = bad-stays st c v a p u few low f in
          record { refused = λ x. h ∙ sym k ∙ x; only = λ x. k ∙ sym h ∙ x }
      go true true f h = unfold need in
          let k = new-passes st c v a p u few low z f in
          record { refused = λ x. unlike 50 place (sym x ∙ k); only = λ x. unlike 50 place (sym x ∙ h) }
      go true false f h = unfold need in
          let k = new-passes st c v a p u few low z f in
          record { refused = λ x. unlike 50 place (sym x ∙ k); only = λ x. absurd (alike 51 50 0 place (λ q. omega arith) (sym h ∙ x)) }

  is-added : add_verdict st c v a p u ≡ Ok tt → c < 65536 → v < 65536 → Added st c v a p u (store_after st c v a p u)
  unfolding add_verdict
  is-added e few low = rw (← (joins st c v a p u e)) (go (sound st) may refl refl e)
    where
      go : (s b : Bool) → sound st ≡ s → may ≡ b → rests (s && b) room ≡ Ok tt
          → Added st c v a p u (store_with st c v a p u)
      go true true z f e = record {
        passes = new-passes st c v a p u few low z f;
        more = new-more st c v a p u few low z f;
        governs = new-governs st c v a p u few low z f;
        others = new_others st c v a p u few low z f;
        readable = new-readable st c v a p u few low z f;
        older = new-older st c v a p u few low z f;
      }
      go true false z f e = unfold need in unlike _ _ e
      go false b z f e = unfold need in unlike _ _ e

-- A STORE OF ZEROS

zeros : (n : ℕ) → all_zero (replicate n 0) ≡ true
unfolding all_zero
zeros zero = refl
zeros (suc n) = zeros n

no-records : (n : ℕ) → 0 ≡ records (replicate n 0)
unfolding records
no-records n = sym (run-stop (good (replicate n 0)) (length (replicate n 0)) 0 (zero-none (replicate n 0) 0 (zeros n)))

nothing-set : (n c : ℕ) → setting_of (replicate n 0) c ≡ Ok strict
unfolding last_of ignored_by
nothing-set n c = sym (governs (replicate n 0) 0 (no-records n) (zeros n) c)

pub claims : Claims
claims = record {
  first = λ st. (good-held st, good-ends st);
  rise = versions-rise;
  damaged = is-damaged;
  newest = is-newest;
  unknown = is-unknown;
  found = is_found;
  there = is-there;
  not_there = is-not-there;
  made_so = λ st c v a p u place e few low. so-made st c v a p u place e few low;
  added = is-added;
  stays = λ st c v a p u n place e. sym (stays st c v a p u n place e);
  none = λ n. sym (passes (replicate n 0) 0 (no-records n) (zeros n));
  nothing = nothing-set;
}
