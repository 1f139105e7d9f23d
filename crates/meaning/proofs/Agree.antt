-- The walk agrees with the constraints: every reader is judged by the values that it reads.
use mathlib.Core.Path.{◌≡◌, refl}
use mathlib.Core.Logic.{◌≢◌}
use mathlib.Core.Bool.{Bool, true, false, cond, ◌||◌}
use mathlib.Core.List.{List, [], ◌∷◌, ◌++◌}
use Prim.Native.Nat.{ℕ, zero, suc, ◌+◌, ◌*◌}
use native.Mathlib.Omega.{arith}
use native.Mathlib.Nat.{mul-one}
use lib.ListN.{length}
use lib.Dec.{eqb}
use borrow.Author.Tests.{eq-eqb, le-leb, leb-true, eqb-true, eqb-false}
use Rattle.wire.specs.Bytes.{part, all_zero, zeros}
use Rattle.schema.specs.Faults.{need}
use Rattle.schema.specs.Schema.{Test, Kind, plain, inline, indirect, static, dynamic, Field, Group, value_width, field_width, fields_of, width}
use Rattle.message.specs.Sheet.{Mark, NO, field_mark}
use Rattle.message.specs.Walk.{Here, Reading, refused, done, Reader, Inner, word, byte, next, none_r, then_r, marked_r, optional_r, plain_r, inline_r, in_area, indirect_r, text_r, inner_r, items_r, list_r, kind_r, value_r, field_r, fields_r, static_r, extending_r, groups_r, extension_r, extension_in, behind_r}
use Rattle.meaning.specs.Conforms.{Value, number, presence, inline_text, text, list, group, extending, Values, target, count_at, items_v, kind_v, value_v, field_v, fields_v, static_v, groups_v, extension_v, extents, extent_of, Good, Each}
use Rattle.message.proofs.Tests.{true-false, or-unless, unless-or}
use Rattle.meaning.proofs.Lookups.{known-names, names-known}
use Rattle.meaning.proofs.Values.{test-pass, pass-test, text-w9, w9-text, sized}
use Rattle.meaning.proofs.Judged.{Judged, right, judge-need, judge-cond, judge-prefixed, judge-next, judge-iff, judge-indirect, in-area}
use Rattle.meaning.proofs.Extents.{zero-part, part-zero, occupied, occupied-both, Pass, pass-left, pass-right, pass-both}

-- I reads a dynamic group that is named by n, and C says what such a group must be.
module _ (gs : List Group) (I : Inner) (C : ℕ → List ℕ → Type 0) (inner : (n base : ℕ) (b : List ℕ) → length b ≡ 4 + word 0 b → Judged (C n b) [] (I n base b)) where
  abbrev pub Passes : Here → List Value → List ℕ → Type 0
  Passes h vs m = Pass (Good h.ignored gs C h.area h.bytes) h.bytes vs m

  abbrev pub after : Here → List Value → List ℕ → List ℕ
  after h vs m = occupied (extents h.bytes vs) m

  pub record Agree (R : Reader) (v : Values) : Type 0 where
    pub says : (h : Here) (at : ℕ) (m : List ℕ) → Judged (Passes h (v h.bytes at) m) (after h (v h.bytes at) m) (R h at m)

  -- nothing, and one after the other
  nothing : (h : Here) (m s : List ℕ) → Judged (Passes h [] m) (after h [] m) (done s m)
  unfolding extents occupied
  nothing h m s = right (record { each = tt; clear = tt })

  after_next : (h : Here) (vs ws : List Value) (m : List ℕ) {r : Reading} (f : List ℕ → Reading) → Judged (Passes h vs m) (after h vs m) r
      → Judged (Passes h ws (after h vs m)) (after h ws (after h vs m)) (f (after h vs m)) → Judged (Passes h (vs ++ ws) m) (after h (vs ++ ws) m) (next r f)
  after_next h vs ws m f x y =
      rw (occupied-both h.bytes vs ws m) (judge-next f x (λ p. pass-left _ h.bytes vs ws m p) (λ p.
      judge-iff (λ q. pass-both _ h.bytes vs ws m p q) (λ q. pass-right _ h.bytes vs ws m q) y))

  agree-items : (w : ℕ) (R : Reader) (v : Values) → Agree R v → (n : ℕ) → Agree (items_r w R n) (items_v w v n)
  unfolding items_r items_v none_r
  agree-items w R v A zero = record { says = λ h at m. nothing h m [] }
  agree-items w R v A (suc n) = record { says = λ h at m. after_next h _ _ m _ (A.says h at m) ((agree-items w R v A n).says h (at + w) _) }

  agree-marked : (k : Mark) (R : Reader) (v : Values) → Agree R v → Agree (marked_r k R) v
  unfolding marked_r
  agree-marked k R v A = record { says = λ h at m. judge-prefixed _ (A.says h at m) }

  -- VALUES IN PLACE

  agree-plain : (w : ℕ) (t : Test) → Agree (plain_r w t) (λ b at. number w t at ∷ [])
  unfolding plain_r extents extent_of occupied
  agree-plain w t = record {
    says = λ h at m.
        judge-need _ _ _ (λ x. pass-test t _ x.each.0) (λ e. right (record { each = (test-pass t _ e, tt); clear = tt }));
  }

  agree-inline : (u : Bool) (c : ℕ) → Agree (inline_r u c) (λ b at. inline_text u c at ∷ [])
  unfolding inline_r extents extent_of occupied
  agree-inline u c = record {
    says = λ h at m.
        judge-need _ 7 _ (λ x. le-leb _ _ x.each.0.w7) (λ e₁.
        judge-need _ 8 _ (λ x. or-unless _ _ (λ z. part-zero _ _ _ (x.each.0.w8 z))) (λ e₂.
        judge-need _ 9 _ (λ x. w9-text u _ x.each.0.w9) (λ e₃.
        right (record { each = (record { w7 = leb-true _ _ e₁; w8 = λ z. zero-part _ _ _ (unless-or _ _ e₂ z); w9 = text-w9 u _ e₃ }, tt); clear = tt }))));
  }

  -- c: whether the flag is 1
  judge-optional : (k : Mark) (w : ℕ) (R : Reader) (v : Values) → Agree R v → (h : Here) (at : ℕ) (m : List ℕ) (c : Bool) → eqb (byte at h.bytes) 1 ≡ c
      → Judged (Passes h (presence w at ∷ cond c (v h.bytes (at + 1)) []) m) (after h (presence w at ∷ cond c (v h.bytes (at + 1)) []) m)
      (cond c (marked_r k R h (at + 1) m) (need (eqb (byte at h.bytes) 0) (refused 11 (h.base + at))
      (need (h.ignored.absent || all_zero (part w (at + 1) h.bytes)) (refused 4 (h.base + (at + 1) + zeros (part w (at + 1) h.bytes))) (done NO m))))
  unfolding extents extent_of occupied
  judge-optional k w R v A h at m true e =
      let q : byte at h.bytes ≡ 1 = eqb-true _ _ e in
      judge-iff (λ x. record { each = (record { w11 = omega arith; w4 = λ y z. absurd (omega arith) }, x.each); clear = x.clear })
      (λ x. record { each = x.each.1; clear = x.clear }) ((agree-marked k R v A).says h (at + 1) m)
  judge-optional k w R v A h at m false e =
      let q : byte at h.bytes ≢ 1 = eqb-false _ _ e in
      judge-need _ 11 _ (λ x. eq-eqb (byte at h.bytes) 0 (omega (arith, x.each.0.w11))) (λ e₀.
      let z : byte at h.bytes ≡ 0 = eqb-true _ _ e₀ in
      judge-need _ 4 _ (λ x. or-unless _ _ (λ y. part-zero h.bytes (at + 1) w (x.each.0.w4 y z))) (λ e₁.
      right (record { each = (record { w11 = omega arith; w4 = λ y _. zero-part h.bytes (at + 1) w (unless-or _ _ e₁ y) }, tt); clear = tt })))

  agree-optional : (k : Mark) (w : ℕ) (R : Reader) (v : Values) → Agree R v
      → Agree (optional_r k w R) (λ b at. presence w at ∷ cond (eqb (byte at b) 1) (v b (at + 1)) [])
  unfolding optional_r
  agree-optional k w R v A = record { says = λ h at m. judge-optional k w R v A h at m _ refl }

  -- VALUES IN THE DATA AREA

  agree-text : (u : Bool) → Agree (indirect_r 26 1 (text_r u)) (λ b at. text u at ∷ [])
  unfolding text_r extents extent_of occupied
  agree-text u = record {
    says = λ h at m.
        judge-indirect 26 1 (text_r u) h at m (target h.bytes at) (count_at h.bytes at) (count_at h.bytes at) refl refl (mul-one _)
        (λ x. x.each.0.w5.starts) (λ x. x.each.0.w5.ends) (λ x. x.each.0.whole) (λ x. x.clear.0) (λ a e w f.
        judge-need _ 9 _ (λ x. w9-text u _ x.each.0.w9) (λ t.
        right (record { each = (record { w5 = record { starts = a; ends = e }; whole = w; w9 = text-w9 u _ t }, tt); clear = (f, tt) })));
  }

  agree-inner : (g : ℕ) → Agree (indirect_r 26 1 (inner_r I g)) (λ b at. group g at ∷ [])
  unfolding inner_r extents extent_of occupied
  agree-inner g = record {
    says = λ h at m.
        judge-indirect 26 1 (inner_r I g) h at m (target h.bytes at) (count_at h.bytes at) (count_at h.bytes at) refl refl (mul-one _)
        (λ x. x.each.0.w5.starts) (λ x. x.each.0.w5.ends) (λ x. x.each.0.whole) (λ x. x.clear.0) (λ a e w f.
        judge-next _ (inner g _ _ (sized h.bytes (target h.bytes at) w)) (λ x. x.each.0.conforms) (λ c.
        right (record { each = (record { w5 = record { starts = a; ends = e }; whole = w; conforms = c }, tt); clear = (f, tt) })));
  }

  agree-list : (w : ℕ) (R : Reader) (v : Values) → Agree R v
      → Agree (indirect_r 13 w (list_r w R)) (λ b at. list w at ∷ items_v w v (count_at b at) b (target b at + 4))
  unfolding list_r extents extent_of occupied
  agree-list w R v A = record {
    says = λ h at m.
        judge-indirect 13 w (list_r w R) h at m (target h.bytes at) (count_at h.bytes at) (count_at h.bytes at * w) refl refl refl
        (λ x. x.each.0.w5.starts) (λ x. x.each.0.w5.ends) (λ x. x.each.0.w13) (λ x. x.clear.0) (λ a e l f.
        judge-prefixed _ (judge-iff
        (λ q. record { each = (record { w5 = record { starts = a; ends = e }; w13 = l }, q.each); clear = (f, q.clear) })
        (λ x. record { each = x.each.1; clear = x.clear.1 })
        ((agree-items w R v A (count_at h.bytes at)).says h (target h.bytes at + 4) _)));
  }

  -- FIELDS

  agree-cond : (c : Bool) (R S : Reader) (v u : Values) → Agree R v → Agree S u → Agree (cond c R S) (λ b at. cond c (v b at) (u b at))
  agree-cond true R S v u A B = A
  agree-cond false R S v u A B = B

  module _ (sw : ℕ → ℕ) (S : ℕ → Reader) (T : ℕ → Values) (st : (g : ℕ) → Agree (S g) (T g)) where
    agree-kind : (k : Kind) → Agree (kind_r I S k) (kind_v T k)
    unfolding kind_r kind_v extents extent_of
    agree-kind (plain w t) = record { says = λ h at m. (agree-plain w t).says h at m }
    agree-kind (inline u c) = record { says = λ h at m. (agree-inline u c).says h at m }
    agree-kind (indirect u) = record { says = λ h at m. (agree-text u).says h at m }
    agree-kind (static g) = record {
      says = λ h at m. judge-iff (λ x. record { each = (tt, x.each); clear = x.clear }) (λ x. record { each = x.each.1; clear = x.clear }) ((st g).says h at m);
    }
    agree-kind (dynamic g) = record { says = λ h at m. (agree-inner g).says h at m }

    agree-value : (f : Field) → Agree (value_r I sw S f) (value_v sw T f)
    unfolding value_r value_v
    agree-value f =
        let k = agree-kind f.kind in
        record { says = λ h at m. (agree-cond f.sequence _ _ _ _ (agree-list _ _ _ (agree-marked _ _ _ k)) k).says h at m }

    agree-field : (f : Field) → Agree (field_r I sw S f) (field_v sw T f)
    unfolding field_r field_v
    agree-field f =
        let r = agree-value f in
        record { says = λ h at m. (agree-cond f.optional _ _ _ _ (agree-optional (field_mark f) (value_width sw f) _ _ r) (agree-marked (field_mark f) _ _ r)).says h at m }

    agree-fields : (fs : List Field) → Agree (fields_r I sw S fs) (fields_v sw T fs)
    unfolding fields_r fields_v none_r then_r
    agree-fields [] = record { says = λ h at m. nothing h m [] }
    agree-fields (f ∷ fs) = record { says = λ h at m. after_next h _ _ m _ ((agree-field f).says h at m) ((agree-fields fs).says h (at + field_width sw f) _) }

  pub agree-static : (d g : ℕ) → Agree (static_r gs I d g) (static_v gs d g)
  unfolding static_r static_v none_r
  agree-static zero g = record { says = λ h at m. nothing h m [] }
  agree-static (suc d) g =
      record { says = λ h at m. (agree-fields (width gs d) (static_r gs I d) (static_v gs d) (agree-static d) (fields_of gs g)).says h at m }

  -- THE EXTENSION

  agree-extending : Agree (indirect_r 26 1 (extending_r gs I)) (λ b at. extending at ∷ [])
  unfolding extending_r marked_r inner_r text_r extents extent_of occupied
  agree-extending = record {
    says = λ h at m.
        judge-indirect 26 1 (extending_r gs I) h at m (target h.bytes at) (count_at h.bytes at) (count_at h.bytes at) refl refl (mul-one _)
        (λ x. x.each.0.w5.starts) (λ x. x.each.0.w5.ends) (λ x. x.each.0.whole) (λ x. x.clear.0) (λ a e w f.
        judge-need _ 1 _ (λ x. le-leb _ _ x.each.0.w1) (λ t. judge-cond _
        (λ k. judge-prefixed _ (judge-next _ (inner 0 _ _ (sized h.bytes (target h.bytes at) w)) (λ x. x.each.0.conforms _ (known-names gs _ k)) (λ c.
        right (record { each = (record { w5 = record { starts = a; ends = e }; whole = w; w1 = leb-true _ _ t; conforms = λ _ _. c }, tt); clear = (f, tt) }))))
        (λ k. judge-prefixed _ (judge-need _ 9 _ (λ x. w9-text false _ tt) (λ _.
        right (record { each = (record { w5 = record { starts = a; ends = e }; whole = w; w1 = leb-true _ _ t; conforms = λ g n. absurd (true-false _ (names-known n) k) }, tt); clear = (f, tt) }))))));
  }

  judge-groups : (n : ℕ) (h : Here) (p : ℕ) (m : List ℕ)
      → Judged (Passes h (items_v 4 (λ b q. extending q ∷ []) n h.bytes (p + 4)) m) (after h (items_v 4 (λ b q. extending q ∷ []) n h.bytes (p + 4)) m) (groups_r gs I n h p m)
  unfolding groups_r items_v marked_r list_r
  judge-groups zero h p m = nothing h m []
  judge-groups (suc n) h p m = judge-cond (eqb (suc n) 0) (λ e. absurd (omega (arith, eqb-true (suc n) 0 e)))
      (λ _. judge-prefixed _ (judge-prefixed _ ((agree-items 4 (indirect_r 26 1 (extending_r gs I)) (λ b q. extending q ∷ []) agree-extending (suc n)).says h (p + 4) m)))

  -- c: whether there is none
  judge-extension : (h : Here) (at : ℕ) (m : List ℕ) (c : Bool)
      → Judged (Passes h (cond c [] (groups_v h.bytes at)) m) (after h (cond c [] (groups_v h.bytes at)) m) (cond c (done [] m) (indirect_r 13 4 (groups_r gs I) h at m))
  unfolding extents extent_of occupied
  judge-extension h at m true = nothing h m []
  judge-extension h at m false =
      judge-indirect 13 4 (groups_r gs I) h at m (target h.bytes at) (count_at h.bytes at) (count_at h.bytes at * 4) refl refl refl
      (λ x. x.each.0.w3.starts) (λ x. x.each.0.w3.ends) (λ x. x.each.0.w13) (λ x. x.clear.0) (λ a e l f.
      judge-iff
      (λ q. record { each = (record { w3 = record { starts = a; ends = e }; w13 = l }, q.each); clear = (f, q.clear) })
      (λ x. record { each = x.each.1; clear = x.clear.1 })
      (judge-groups (count_at h.bytes at) h (target h.bytes at) _))

  agree-extension : Agree (extension_r gs I) extension_v
  unfolding extension_r extension_v
  agree-extension = record { says = λ h at m. judge-extension h at m (eqb (word at h.bytes) 0) }

  extension-in : (h : Here) (at : ℕ) (c : Bool) → Each (Good h.ignored gs C h.area h.bytes) (cond c [] (groups_v h.bytes at))
      → c || in_area h (at + word at h.bytes) ≡ true
  extension-in h at true x = refl
  extension-in h at false x = in-area h _ x.0.w3.starts x.0.w3.ends

  pub agree-behind : (R : Reader) (v : Values) → Agree R v → Agree (behind_r R (extension_r gs I)) (λ b at. v b (at + 4) ++ extension_v b at)
  unfolding behind_r
  agree-behind R v A = record {
    says = λ h at m.
        judge-need _ 3 _ (λ x. unfold extension_in extension_v in extension-in h at (eqb (word at h.bytes) 0) (pass-right (Good h.ignored gs C h.area h.bytes) h.bytes (v h.bytes (at + 4)) (extension_v h.bytes at) m x).each) (λ _.
        after_next h _ _ m _ (A.says h (at + 4) m) (agree-extension.says h at _));
  }
