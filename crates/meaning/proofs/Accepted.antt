-- A message is accepted exactly when it conforms.
use mathlib.Core.Path.{◌≡◌, refl, sym, ◌∙◌}
use mathlib.Core.Logic.{◌↔◌}
use mathlib.Core.Bool.{true, false, and-eq-true_iff}
use mathlib.Core.List.{List, [], ◌∷◌, ◌++◌}
use Prim.Native.Nat.{ℕ, zero, suc, ◌+◌, ◌-◌, ◌≤◌, ◌<◌}
use native.Mathlib.Omega.{arith}
use lib.ListN.{length, drop, get_or, replicate, length-drop, length-replicate}
use lib.Seq.{get_or-drop}
use lib.Dec.{leb}
use borrow.Author.Tests.{eq-eqb, le-leb, leb-true, eqb-true}
use Rattle.schema.specs.Schema.{Group, width, find}
use Rattle.message.specs.Occupancy.{pads_zero}
use Rattle.settings.specs.declared.Ignored.{Ignored}
use Rattle.message.specs.Walk.{Here, here, Reading, refused, done, word, padded, body_r, head_r, group_r, walk, message_r}
use Rattle.meaning.specs.Conforms.{Value, number, presence, inline_text, text, list, group, extension, extending, subgroup, values_of, area_of, size, type_id, Extent, extent_of, extents, Apart, Pad, Good, Each, Allowed, GroupConforms, ConformsAt, Conforms}
use Rattle.meaning.specs.Proper.{Proper}
use Rattle.message.proofs.Tests.{or-unless, unless-or}
use Rattle.meaning.proofs.Lookups.{known-names, names-known, allows-allowed, allowed-allows, names-once}
use Rattle.meaning.proofs.Judged.{Judged, wrong, right, judge-need, judge-prefixed, judge-next, judge-iff}
use Rattle.meaning.proofs.Extents.{occupied, Clear}
use Rattle.meaning.proofs.Holders.{holders, pad-none, none-pad, once-apart, apart-once, Fits, occupied-get, occupied-length, clear_apart, apart-clear, pads-get, get-pads, zeros-get}
use Rattle.meaning.proofs.Agree.{agree-behind, agree-static}

-- NO BYTE IS TAKEN AT FIRST: WHAT IS FREE IN TURN IS APART, AND WHAT IS LEFT ARE THE PADS

module _ (b : List ℕ) (a : ℕ) (es : List Extent) (f : Fits es (length b)) where
  abbrev zs : List ℕ
  zs = replicate (length b) 0

  fit : Fits es (length zs)
  fit = rw (length-replicate {A = ℕ} (length b) 0) f

  free-apart : Clear es zs → Apart es
  free-apart c = once-apart es (λ i. omega (arith, zeros-get (length b) i, clear_apart es zs fit (λ j. omega (arith, zeros-get (length b) j)) c i))

  apart-free : Apart es → Clear es zs
  apart-free g = apart-clear es zs fit (λ i. omega (arith, zeros-get (length b) i, apart-once es g i))

  marked : Clear es zs → (j : ℕ) → get_or (drop a (occupied es zs)) j 0 ≡ holders (a + j) es
  marked c j = get_or-drop a (occupied es zs) j 0 ∙ omega (arith, occupied-get es zs fit c (a + j), zeros-get (length b) (a + j))

  long : length (drop a (occupied es zs)) ≡ length b - a
  long = rw (length-drop a (occupied es zs), occupied-length es zs fit, length-replicate {A = ℕ} (length b) 0)

  pads-w6 : Clear es zs → pads_zero (drop a (occupied es zs)) (drop a b) ≡ true → (i : ℕ) → a ≤ i → i < length b → Pad i es → get_or b i 0 ≡ 0
  pads-w6 c e i l h z =
      let j : ℕ = i - a in
      let q : a + j ≡ i = omega arith in
      rw (← q, ← get_or-drop a b j 0) (pads-get (drop a (occupied es zs)) (drop a b) e j (omega (arith, long)) (marked c j ∙ rw q (pad-none i es z)))

  w6-pads : Clear es zs → ((i : ℕ) → a ≤ i → i < length b → Pad i es → get_or b i 0 ≡ 0) → pads_zero (drop a (occupied es zs)) (drop a b) ≡ true
  w6-pads c g = get-pads (drop a (occupied es zs)) (drop a b) (λ j l z.
      get_or-drop a b j 0 ∙ g (a + j) (omega arith) (omega (arith, long, l)) (none-pad (a + j) es (sym (marked c j) ∙ z)))

-- GOOD VALUES LIE IN THE GROUP

fits-append : (es fs : List Extent) (n : ℕ) → Fits es n → Fits fs n → Fits (es ++ fs) n
fits-append [] fs n x y = y
fits-append (e ∷ es) fs n x y = (x.0, fits-append es fs n x.1 y)

module _ (I : Ignored) (gs : List Group) (C : ℕ → List ℕ → Type 0) (a : ℕ) (b : List ℕ) where
  fits_one : (v : Value) → Good I gs C a b v → Fits (extent_of b v) (length b)
  unfolding extent_of
  fits_one (number w t at) x = tt
  fits_one (presence w at) x = tt
  fits_one (inline_text u c at) x = tt
  fits_one (text u at) x = (x.whole, tt)
  fits_one (list w at) x = (x.w13, tt)
  fits_one (group g at) x = (x.whole, tt)
  fits_one (extension at) x = (x.w13, tt)
  fits_one (extending at) x = (x.whole, tt)
  fits_one subgroup x = tt

  fits_each : (vs : List Value) → Each (Good I gs C a b) vs → Fits (extents b vs) (length b)
  unfolding extents
  fits_each [] x = tt
  fits_each (v ∷ vs) x = fits-append (extent_of b v) (extents b vs) (length b) (fits_one v x.0) (fits_each vs x.1)

-- A GROUP

judge-padded : {P Q : Type 0} {M : List ℕ} (h : Here) {r : Reading} → Judged Q M r → (P → Q)
    → (P → h.ignored.pads ≡ false → pads_zero (drop h.area M) (drop h.area h.bytes) ≡ true)
    → (Q → (h.ignored.pads ≡ false → pads_zero (drop h.area M) (drop h.area h.bytes) ≡ true) → P) → Judged P [] (padded h r)
unfolding padded
judge-padded h (wrong x) f g k = wrong (λ p. x (f p))
judge-padded h (right x) f g k = judge-need _ 6 _ (λ p. or-unless _ _ (g p)) (λ e. right (k x (unless-or _ _ e)))

-- a group that conforms, at the number that `find` gives
record Formed (I : Ignored) (gs : List Group) (C : ℕ → List ℕ → Type 0) (n g : ℕ) (b : List ℕ) : Type 0 where
  allowed : Allowed gs n g
  s1 : width gs 5 g ≤ size b - 12
  each : Each (Good I gs C (area_of gs g) b) (values_of gs g b)
  apart : Apart (extents b (values_of gs g b))
  w6 : I.pads ≡ false → (i : ℕ) → area_of gs g ≤ i → i < length b → Pad i (extents b (values_of gs g b)) → get_or b i 0 ≡ 0

module _ (I : Ignored) (gs : List Group) (proper : Proper gs) where
  formed : (C : ℕ → List ℕ → Type 0) (n : ℕ) (b : List ℕ) → GroupConforms I gs C n b → Formed I gs C n (find gs (type_id b)) b
  formed C n b x =
      let q : x.type ≡ find gs (type_id b) = names-once gs proper _ _ (type_id b) x.w2 (known-names gs (type_id b) (names-known x.w2)) in
      let f : Formed I gs C n x.type b = record { allowed = x.allowed; s1 = x.s1; each = x.each; apart = x.apart; w6 = x.w6 } in
      rw q at f

  pub judge-group : (l n base : ℕ) (b : List ℕ) → length b ≡ 4 + word 0 b → Judged (ConformsAt I gs l n b) [] (group_r I gs l n base b)
  unfolding group_r head_r body_r
  judge-group zero n base b e = judge-need _ 1 _ (λ x. absurd x) (λ _. judge-need _ 2 _ (λ x. absurd x) (λ _. judge-need _ 25 _ (λ x. absurd x) (λ _. wrong (λ x. x))))
  judge-group (suc l) n base b e =
      let g : ℕ = find gs (type_id b) in
      let a : ℕ = area_of gs g in
      let vs : List Value = values_of gs g b in
      let C : ℕ → List ℕ → Type 0 = ConformsAt I gs l in
      let h : Here = here I b base a in
      let F : GroupConforms I gs C n b → Formed I gs C n g b = formed C n b in
      judge-need _ 1 _ (λ x. le-leb 16 (length b) (omega (arith, x.w1))) (λ t₁.
      judge-need _ 2 _ (λ x. names-known x.w2) (λ t₂.
      judge-need _ 25 _ (λ x. allowed-allows gs proper n g (F x).allowed) (λ t₃.
      judge-need _ 14 _ (λ x. le-leb a (length b) (omega (arith, x.w1, (F x).s1))) (λ t₄.
      judge-padded h
      (judge-prefixed _ (judge-next _
      ((agree-behind gs (group_r I gs l) C (judge-group l) _ _ (agree-static gs (group_r I gs l) C (judge-group l) 5 g)).says h 12 (replicate (length b) 0)) (λ p. p) (λ p. right p)))
      (λ x. record { each = (F x).each; clear = apart-free b a (extents b vs) (fits_each I gs C a b vs (F x).each) (F x).apart })
      (λ x z. let f = fits_each I gs C a b vs (F x).each in
      w6-pads b a (extents b vs) f (apart-free b a (extents b vs) f (F x).apart) ((F x).w6 z))
      (λ p q. let f = fits_each I gs C a b vs p.each in
      let t : 16 ≤ length b = leb-true _ _ t₁ in
      let s : a ≤ length b = leb-true _ _ t₄ in
      record {
        w1 = omega arith;
        type = g;
        w2 = known-names gs (type_id b) t₂;
        allowed = allows-allowed gs n g t₃;
        s1 = omega arith;
        each = p.each;
        apart = free-apart b a (extents b vs) f p.clear;
        w6 = λ z. pads-w6 b a (extents b vs) f p.clear (q z);
      })))))

  -- THE MESSAGE

  pub judge-walk : (b : List ℕ) → length b ≤ 65536 → Judged (Conforms I gs b) [] (walk I gs b)
  unfolding walk
  judge-walk b l =
      judge-need _ 22 _ (λ x. (and-eq-true_iff (leb 4 (length b)) _).1 (le-leb 4 (length b) (omega (arith, x.exact)), eq-eqb (length b) (4 + word 0 b) x.exact)) (λ t.
      let e : length b ≡ 4 + word 0 b = eqb-true _ _ ((and-eq-true_iff (leb 4 (length b)) _).0 t).1 in
      judge-prefixed _ (judge-iff (λ c. record { limit = l; exact = e; level1 = c }) (λ x. x.level1) (judge-group 8 0 0 b e)))

  pub judge-message : (scratch : ℕ) (b : List ℕ) → length b ≤ scratch → Judged (Conforms I gs b) [] (message_r I gs scratch b)
  unfolding message_r
  judge-message scratch b s =
      judge-need _ 23 _ (λ x. le-leb (length b) 65536 x.limit) (λ t.
      judge-need _ 21 _ (λ x. le-leb (length b) scratch s) (λ _. judge-walk b (leb-true _ _ t)))

done-iff : {P : Type 0} {M : List ℕ} {r : Reading} → Judged P M r → ((s : List ℕ) × (m : List ℕ) × (r ≡ done s m)) ↔ P
done-iff (wrong x) = (λ y. let q = y.2 in let z : ◌≡◌ {A = ℕ} 0 1 = cc in absurd (omega arith), λ p. absurd (x p))
done-iff (right x) = (λ y. x, λ p. (_, _, refl))

refused-iff : {P : Type 0} {M : List ℕ} {r : Reading} → Judged P M r → ((n : ℕ) × (p : ℕ) × (r ≡ refused n p)) ↔ (P → ⊥)
refused-iff (wrong x) = (λ y. x, λ p. (_, _, refl))
refused-iff (right x) = (λ y. let q = y.2 in let z : ◌≡◌ {A = ℕ} 0 1 = cc in absurd (omega arith), λ f. absurd (f x))

-- "A table is accepted when its check gives no number; a message, when its check under an accepted table and with scratch at least as long as the message gives none."
module _ (I : Ignored) (gs : List Group) (proper : Proper gs) (scratch : ℕ) (b : List ℕ) (enough : length b ≤ scratch) where
  pub accepted-conforms : ((s : List ℕ) × (m : List ℕ) × (message_r I gs scratch b ≡ done s m)) ↔ Conforms I gs b
  accepted-conforms = done-iff (judge-message I gs proper scratch b enough)

  pub refused-breaks : ((n : ℕ) × (p : ℕ) × (message_r I gs scratch b ≡ refused n p)) ↔ (Conforms I gs b → ⊥)
  refused-breaks = refused-iff (judge-message I gs proper scratch b enough)
