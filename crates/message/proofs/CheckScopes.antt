-- Both scopes of a group: how it is opened, and how it is closed.
use Rattle.std.proofs.Common.{Ok, Err, Result, ◌≡◌, ℕ, ◌+◌, ◌*◌, ◌^◌, ◌<◌, ◌≤◌, List, [], sym, refl, ap, subst, arith}
use Rattle.schema.specs.declared.Scope.{Scope}
use Rattle.schema.specs.declared.Scope.TheVariants.{Whole, Fields}
use Rattle.message.specs.Walk.{Here}
use Rattle.message.specs.Count.{Count, failed, count}
use Rattle.message.specs.Check.{levels_in, ignored_in, occupancy_of, count_by, after, within, inner_of, Ready}
use Rattle.message.specs.Scopes.{group_of, behind_of, left_of, Lies, Inside, Begins, Opens}
use Rattle.message.specs.declared.failure.Failure.{Failure}
use Rattle.message.specs.declared.Frame.{Frame}
use Rattle.message.specs.declared.Step.{Step}
use Rattle.message.specs.declared.Begun.{Begun}
use Rattle.message.proofs.Count.{then-nothing}
use Rattle.message.proofs.CheckAnswers.{stays}

-- THE FRAME

-- the measure's part that the scope decides: a dynamic group's fields have one level less
abbrev pub weight : Scope → ℕ → ℕ
weight (Whole a) d = 1
weight (Fields g) d = 10 * d + 12

module _ (o f : Frame) where
  pub inside-falls : (t b : List ℕ) (z : Scope) (d at : ℕ) → Lies t d z b at → Inside z o f → 64 * (levels_in f.rules) + (10 * d + 11) < 64 * (levels_in o.rules) + weight z d
  inside-falls t b (Whole a) d at F i = omega (arith, F.0, i.0)
  inside-falls t b (Fields g) d at F i = omega (arith, ap (λ (x : Frame). (levels_in x.rules)) i)

  pub inside-long : (z : Scope) → Inside z o f → (n : ℕ) → f.area ≤ n → (a : ℕ) → z ≡ Whole a → 16 ≤ n
  inside-long (Whole x) i n l a e = omega (arith, i.1, l)
  inside-long (Fields g) i n l a e = absurd (let c : ◌≡◌ {A = ℕ} 0 1 = cc in omega arith)

  -- the occupancy that goes out is that of the frame around it
  pub inside-left : (z : Scope) → Inside z o f → (m : List ℕ) (r : Result Step Failure) → count_by (λ s. left_of z o.area s m) r ≡ count_by (λ s. left_of z f.area s m) r
  inside-left (Whole a) i m r = refl
  inside-left (Fields g) i m r = rw i refl

-- OPENED

module _ (t i b m : List ℕ) (o : Frame) (d at k : ℕ) (z : Scope) where
  module _ (c : Count) where
    pub opens-begun : (g : Begun) → Opens t i b m o d z at k c (Ok g) → Begins t i b m o d z at k c g
    unfolding Opens
    opens-begun g h = h

    pub opens-refused : (f : Failure) → Opens t i b m o d z at k c (Err f) → c ≡ failed f.number f.place
    unfolding Opens
    opens-refused f h = h

  pub opens-dynamic : (a : ℕ) → z ≡ Whole a → Lies t d z b at → (s : List ℕ) (r : Result Begun Failure) → Opens t i b m o 5 (Whole a) 16 k (count (inner_of (ignored_in o.rules) t (levels_in o.rules) a o.base b)) r
      → Opens t i b m o d z at k (count (group_of t (levels_in o.rules) d z (within b o) at s)) r
  opens-dynamic a e F s r h =
      subst (λ z. Lies t d z b at → Opens t i b m o d z at k (count (group_of t (levels_in o.rules) d z (within b o) at s)) r) (sym e) (λ F. rw (F.0, F.1) h) F

  pub opens-static : (g : ℕ) → z ≡ Fields g → Ready t i b m o → Lies t d z b at → (s : ℕ)
      → Opens t i b m o d z at k (count (group_of t (levels_in o.rules) d z (within b o) at (occupancy_of o.area s m))) (Ok (record { group = g; frame = o; taken = s; length = k }))
  unfolding Opens
  opens-static g e R F s =
      subst
      (λ z. Lies t d z b at → Begins t i b m o d z at k (count (group_of t (levels_in o.rules) d z (within b o) at (occupancy_of o.area s m))) (record { group = g; frame = o; taken = s; length = k }))
      (sym e)
      (λ F. record { ready = R; fits = F; inside = refl; counts = ap (after k) (sym (then-nothing _)) })
      F

-- CLOSED

module _ (t : List ℕ) (n : ℕ) (h : Here) (m : List ℕ) (area : ℕ) (x : List ℕ) (k : ℕ) (z : Scope) where
  pub closes-dynamic : (a : ℕ) → z ≡ Whole a → (r : Result Step Failure) → count_by (λ _. []) r ≡ after k (behind_of t n (Whole a) h m) → count_by (λ s. left_of z area s x) r ≡ after k (behind_of t n z h m)
  closes-dynamic a e r q = subst (λ z. count_by (λ s. left_of z area s x) r ≡ after k (behind_of t n z h m)) (sym e) q

  pub closes-static : (g : ℕ) → z ≡ Fields g → (s : ℕ) → m ≡ occupancy_of area s x → k < 2 ^ 64 → count_by (λ s. left_of z area s x) (Ok (record { length = k; taken = s })) ≡ after k (behind_of t n z h m)
  closes-static g e s q l =
      subst (λ z. count_by (λ s. left_of z area s x) (Ok (record { length = k; taken = s })) ≡ after k (behind_of t n z h m)) (sym e) (stays (λ s. occupancy_of area s x) k _ _ (rw q refl) refl l)
