-- "An ignored byte doesn't reach the sheet": where all three faults are ignored, two messages that differ only in ignorable bytes are read alike.
use mathlib.Core.Path.{◌≡◌, refl, sym, ap, ◌∙◌}
use mathlib.Core.Bool.{Bool, true, false, cond}
use mathlib.Core.List.{List, [], ◌∷◌, ◌++◌}
use Prim.Native.Nat.{ℕ, zero, suc, ◌+◌}
use native.Mathlib.Omega.{arith}
use lib.ListN.{length, replicate}
use lib.Dec.{eqb}
use Rattle.wire.specs.Bytes.{part, le}
use Rattle.wire.proofs.Laws.{part-part}
use Rattle.schema.specs.Faults.{need}
use Rattle.schema.specs.Schema.{Test, Kind, plain, inline, indirect, static, dynamic, Field, Group, value_width, field_width, fields_of, width, find, known}
use Rattle.settings.specs.Store.{lax}
use Rattle.message.specs.Sheet.{Mark, NO, GB, XU, field_mark, mark_bytes}
use Rattle.message.specs.Walk.{Here, here, Reading, refused, done, prefixed, next, Reader, Inner, lost, found, word, byte, none_r, then_r, marked_r, optional_r, plain_r, inline_r, in_area, locate, onward, indirect_r, text_r, inner_r, items_r, list_r, kind_r, value_r, field_r, fields_r, static_r, extending_r, groups_r, extension_r, extension_in, behind_r, padded, body_r, head_r, group_r, walk}
use Rattle.meaning.specs.Conforms.{Value, number, presence, inline_text, text, list, group, extending, Values, target, count_at, items_v, kind_v, value_v, field_v, fields_v, static_v, groups_v, extension_v, Each}
use Rattle.meaning.specs.Ignorable.{Same, SamePlace, SameExtending, SameValue, SameAt, SameValues}
use Rattle.meaning.proofs.Extents.{each_append}

next-same : (r : Reading) (f g : List ℕ → Reading) → ((m : List ℕ) → f m ≡ g m) → next r f ≡ next r g
unfolding next
next-same (refused n p) f g k = refl
next-same (done s m) f g k = ap (prefixed s) (k m)

-- C: what two dynamic groups must have the same for I to read them alike.
module _ (gs : List Group) (I : Inner) (C : List ℕ → List ℕ → Type 0) (inner : (n base : ℕ) (x y : List ℕ) → C x y → I n base x ≡ I n base y)
    (b d : List ℕ) (long : length b ≡ length d) where
  abbrev Sames : List Value → Type 0
  Sames vs = Each (SameValue gs C b d) vs

  pub record Keeps (R : Reader) (v : Values) : Type 0 where
    pub says : (base area at : ℕ) (m : List ℕ) → Sames (v b at) → R (here lax b base area) at m ≡ R (here lax d base area) at m

  -- one after the other
  both : (base area at to : ℕ) (m : List ℕ) (R S : Reader) (vs ws : List Value) → (Sames vs → R (here lax b base area) at m ≡ R (here lax d base area) at m)
      → (Sames ws → (m : List ℕ) → S (here lax b base area) to m ≡ S (here lax d base area) to m) → Sames (vs ++ ws)
      → next (R (here lax b base area) at m) (λ m'. S (here lax b base area) to m') ≡ next (R (here lax d base area) at m) (λ m'. S (here lax d base area) to m')
  both base area at to m R S vs ws f g x =
      let (y, z) = (each_append (SameValue gs C b d) vs ws).0 x in
      rw (f y) (next-same _ _ _ (g z))

  keeps-items : (w : ℕ) (R : Reader) (v : Values) → Keeps R v → (n : ℕ) → Keeps (items_r w R n) (items_v w v n)
  unfolding items_r items_v none_r
  keeps-items w R v K zero = record { says = λ base area at m x. refl }
  keeps-items w R v K (suc n) = record {
    says = λ base area at m x. both base area at (at + w) m R (items_r w R n) (v b at) (items_v w v n b (at + w)) (K.says base area at m) (λ y m'. (keeps-items w R v K n).says base area (at + w) m' y) x;
  }

  keeps-marked : (k : Mark) (R : Reader) (v : Values) → Keeps R v → Keeps (marked_r k R) v
  unfolding marked_r
  keeps-marked k R v K = record { says = λ base area at m x. ap (prefixed (mark_bytes k)) (K.says base area at m x) }

  -- VALUES IN PLACE

  keeps-plain : (w : ℕ) (t : Test) → Keeps (plain_r w t) (λ b at. number w t at ∷ [])
  unfolding plain_r
  keeps-plain w t = record { says = λ base area at m x. rw x.0 }

  keeps-inline : (u : Bool) (c : ℕ) → Keeps (inline_r u c) (λ b at. inline_text u c at ∷ [])
  unfolding inline_r need
  keeps-inline u c = record { says = λ base area at m x. rw (x.0.text, x.0.count) }

  keeps-optional : (k : Mark) (w : ℕ) (R : Reader) (v : Values) → Keeps R v → Keeps (optional_r k w R) (λ b at. presence w at ∷ cond (eqb (byte at b) 1) (v b (at + 1)) [])
  unfolding optional_r need
  keeps-optional k w R v K = record { says = λ base area at m x. rw (← x.0) (go base area at m (eqb (byte at b) 1) x.1) }
    where
      go : (base area at : ℕ) (m : List ℕ) (c : Bool) → Sames (cond c (v b (at + 1)) [])
          → cond c (marked_r k R (here lax b base area) (at + 1) m) (need (eqb (byte at b) 0) (refused 11 (base + at)) (done NO m))
          ≡ cond c (marked_r k R (here lax d base area) (at + 1) m) (need (eqb (byte at b) 0) (refused 11 (base + at)) (done NO m))
      go base area at m true x = (keeps-marked k R v K).says base area (at + 1) m x
      go base area at m false x = refl

  -- VALUES IN THE DATA AREA

  lookup : (h k : Here) (inside : ℕ → Reader) (q e past p n : ℕ) (m : List ℕ) → inside n h p m ≡ inside n k p m → (c₁ c₂ c₃ c₄ : Bool)
      → onward (need c₁ (lost 5 q) (need c₂ (lost 26 e) (need c₃ (lost past e) (need c₄ (lost 27 e) (found p n m))))) h inside
      ≡ onward (need c₁ (lost 5 q) (need c₂ (lost 26 e) (need c₃ (lost past e) (need c₄ (lost 27 e) (found p n m))))) k inside
  unfolding onward need
  lookup h k inside q e past p n m s false c₂ c₃ c₄ = refl
  lookup h k inside q e past p n m s true false c₃ c₄ = refl
  lookup h k inside q e past p n m s true true false c₄ = refl
  lookup h k inside q e past p n m s true true true false = refl
  lookup h k inside q e past p n m s true true true true = s

  place_same : (past w base area at : ℕ) (m : List ℕ) → SamePlace b d at → locate past w (here lax b base area) at m ≡ locate past w (here lax d base area) at m
  unfolding locate in_area
  place_same past w base area at m s = rw (s.count, s.offset, long)

  indirect-same : (past w : ℕ) (inside : ℕ → Reader) (base area at : ℕ) (m : List ℕ) → SamePlace b d at
      → ((m : List ℕ) → inside (count_at b at) (here lax b base area) (target b at) m ≡ inside (count_at b at) (here lax d base area) (target b at) m)
      → indirect_r past w inside (here lax b base area) at m ≡ indirect_r past w inside (here lax d base area) at m
  unfolding indirect_r locate
  indirect-same past w inside base area at m s f =
      rw (← place_same past w base area at m s) (lookup (here lax b base area) (here lax d base area) inside _ _ past _ _ _ (f _) _ _ _ _)

  text_same : (u : Bool) (n base area p : ℕ) (m : List ℕ) → Same (4 + n) p b d → text_r u n (here lax b base area) p m ≡ text_r u n (here lax d base area) p m
  unfolding text_r
  text_same u n base area p m s =
      let e : part n (p + 4) b ≡ part n (p + 4) d = sym (part-part n 4 (4 + n) p b (omega arith)) ∙ ap (part n 4) s ∙ part-part n 4 (4 + n) p d (omega arith) in
      rw (s, e)

  keeps-text : (u : Bool) → Keeps (indirect_r 26 1 (text_r u)) (λ b at. text u at ∷ [])
  keeps-text u = record { says = λ base area at m x. indirect-same 26 1 (text_r u) base area at m x.0.place (λ m'. text_same u (count_at b at) base area (target b at) m' x.0.whole) }

  keeps-inner : (g : ℕ) → Keeps (indirect_r 26 1 (inner_r I g)) (λ b at. group g at ∷ [])
  unfolding inner_r
  keeps-inner g = record { says = λ base area at m x. indirect-same 26 1 (inner_r I g) base area at m x.0.place (λ m'. rw (inner g _ _ _ x.0.inner)) }

  keeps-list : (w : ℕ) (R : Reader) (v : Values) → Keeps R v → Keeps (indirect_r 13 w (list_r w R)) (λ b at. list w at ∷ items_v w v (count_at b at) b (target b at + 4))
  unfolding list_r
  keeps-list w R v K = record {
    says = λ base area at m x. indirect-same 13 w (list_r w R) base area at m x.0 (λ m'. rw (← x.0.count) (ap (prefixed _) ((keeps-items w R v K (count_at b at)).says base area (target b at + 4) m' x.1)));
  }

  -- FIELDS

  keeps-cond : (c : Bool) (R S : Reader) (v u : Values) → Keeps R v → Keeps S u → Keeps (cond c R S) (λ b at. cond c (v b at) (u b at))
  keeps-cond true R S v u A B = A
  keeps-cond false R S v u A B = B

  module _ (sw : ℕ → ℕ) (S : ℕ → Reader) (T : ℕ → Values) (st : (g : ℕ) → Keeps (S g) (T g)) where
    keeps-kind : (k : Kind) → Keeps (kind_r I S k) (kind_v T k)
    unfolding kind_r kind_v
    keeps-kind (plain w t) = record { says = (keeps-plain w t).says }
    keeps-kind (inline u c) = record { says = (keeps-inline u c).says }
    keeps-kind (indirect u) = record { says = (keeps-text u).says }
    keeps-kind (static g) = record { says = λ base area at m x. (st g).says base area at m x.1 }
    keeps-kind (dynamic g) = record { says = (keeps-inner g).says }

    keeps-value : (f : Field) → Keeps (value_r I sw S f) (value_v sw T f)
    unfolding value_r value_v
    keeps-value f =
        let k = keeps-kind f.kind in
        record { says = (keeps-cond f.sequence _ _ _ _ (keeps-list _ _ _ (keeps-marked _ _ _ k)) k).says }

    keeps-field : (f : Field) → Keeps (field_r I sw S f) (field_v sw T f)
    unfolding field_r field_v
    keeps-field f =
        let r = keeps-value f in
        record { says = (keeps-cond f.optional _ _ _ _ (keeps-optional (field_mark f) (value_width sw f) _ _ r) (keeps-marked (field_mark f) _ _ r)).says }

    keeps-fields : (fs : List Field) → Keeps (fields_r I sw S fs) (fields_v sw T fs)
    unfolding fields_r fields_v none_r then_r
    keeps-fields [] = record { says = λ base area at m x. refl }
    keeps-fields (f ∷ fs) = record {
      says = λ base area at m x. both base area at (at + field_width sw f) m (field_r I sw S f) (fields_r I sw S fs) (field_v sw T f b at) (fields_v sw T fs b (at + field_width sw f)) ((keeps-field f).says base area at m)
          (λ y m'. (keeps-fields fs).says base area (at + field_width sw f) m' y) x;
    }

  keeps-static : (k g : ℕ) → Keeps (static_r gs I k g) (static_v gs k g)
  unfolding static_r static_v none_r
  keeps-static zero g = record { says = λ base area at m x. refl }
  keeps-static (suc k) g = record { says = (keeps-fields (width gs k) (static_r gs I k) (static_v gs k) (keeps-static k) (fields_of gs g)).says }

  -- THE EXTENSION

  keeps-extending : Keeps (indirect_r 26 1 (extending_r gs I)) (λ b at. extending at ∷ [])
  unfolding extending_r
  keeps-extending = record {
    says = λ base area at m x. indirect-same 26 1 (extending_r gs I) base area at m x.0.place (λ m'.
        rw (← x.0.id) (ap (need _ _) (go base area at m' x.0 (known gs (le (part 8 (target b at + 4) b))) refl)));
  }
    where
      go : (base area at : ℕ) (m : List ℕ) → SameExtending gs C b d at → (c : Bool) → known gs (le (part 8 (target b at + 4) b)) ≡ c
          → cond c (marked_r GB (inner_r I 0 (count_at b at)) (here lax b base area) (target b at) m) (marked_r XU (text_r false (count_at b at)) (here lax b base area) (target b at) m)
          ≡ cond c (marked_r GB (inner_r I 0 (count_at b at)) (here lax d base area) (target b at) m) (marked_r XU (text_r false (count_at b at)) (here lax d base area) (target b at) m)
      go base area at m x true e = unfold marked_r inner_r in rw (inner 0 _ _ _ (x.inner e))
      go base area at m x false e = unfold marked_r in ap (prefixed _) (text_same false (count_at b at) base area (target b at) m (x.whole e))

  groups-same : (n base area p : ℕ) (m : List ℕ) → Same 4 p b d → Sames (items_v 4 (λ b q. extending q ∷ []) n b (p + 4))
      → groups_r gs I n (here lax b base area) p m ≡ groups_r gs I n (here lax d base area) p m
  unfolding groups_r marked_r list_r
  groups-same n base area p m s x =
      rw (s, (keeps-items 4 (indirect_r 26 1 (extending_r gs I)) (λ b q. extending q ∷ []) keeps-extending n).says base area (p + 4) m x)

  keeps-extension : (base area at : ℕ) (m : List ℕ) → Same 4 at b d → Sames (extension_v b at) → extension_r gs I (here lax b base area) at m ≡ extension_r gs I (here lax d base area) at m
  unfolding extension_r extension_v
  keeps-extension base area at m s x = rw (← s) (go (eqb (word at b) 0) x)
    where
      go : (c : Bool) → Sames (cond c [] (groups_v b at)) → cond c (done [] m) (indirect_r 13 4 (groups_r gs I) (here lax b base area) at m) ≡ cond c (done [] m) (indirect_r 13 4 (groups_r gs I) (here lax d base area) at m)
      go true x = refl
      go false x = indirect-same 13 4 (groups_r gs I) base area at m x.0 (λ m'. groups-same (count_at b at) base area (target b at) m' x.0.count x.1)

  keeps-behind : (g base area at : ℕ) (m : List ℕ) → Same 4 at b d → Sames (static_v gs 5 g b (at + 4) ++ extension_v b at)
      → behind_r (static_r gs I 5 g) (extension_r gs I) (here lax b base area) at m ≡ behind_r (static_r gs I 5 g) (extension_r gs I) (here lax d base area) at m
  unfolding behind_r extension_in in_area
  keeps-behind g base area at m s x =
      rw (s, long) (ap (need _ _) (both base area (at + 4) at m (static_r gs I 5 g) (extension_r gs I) (static_v gs 5 g b (at + 4)) (extension_v b at) ((keeps-static 5 g).says base area (at + 4) m) (λ y m'. keeps-extension base area at m' s y) x))

  -- A GROUP

  padded-same : (base area : ℕ) (r : Reading) → padded (here lax b base area) r ≡ padded (here lax d base area) r
  unfolding padded need
  padded-same base area (refused n p) = refl
  padded-same base area (done s m) = refl

  pub body_same : (g base : ℕ) → Same 8 4 b d → Same 4 12 b d → Sames (static_v gs 5 g b 16 ++ extension_v b 12) → body_r lax gs I g base b ≡ body_r lax gs I g base d
  unfolding body_r
  body_same g base i s x =
      rw (← long, ← i, ← padded-same base (16 + width gs 5 g) _, keeps-behind g base (16 + width gs 5 g) 12 (replicate (length b) 0) s x)

head-same : (gs : List Group) (P Q : ℕ → ℕ → List ℕ → Reading) (a base : ℕ) (b d : List ℕ) → length b ≡ length d → part 8 4 b ≡ part 8 4 d
    → P (find gs (le (part 8 4 b))) base b ≡ Q (find gs (le (part 8 4 b))) base d → head_r gs P a base b ≡ head_r gs Q a base d
unfolding head_r
head-same gs P Q a base b d l i e = rw (← l, ← i, e)

group-same : (gs : List Group) (l n base : ℕ) (b d : List ℕ) → SameAt gs l b d → group_r lax gs l n base b ≡ group_r lax gs l n base d
unfolding group_r
group-same gs zero n base b d s = head-same gs _ _ n base b d s.long s.id refl
group-same gs (suc l) n base b d s =
    head-same gs _ _ n base b d s.long s.id
    (body_same gs (group_r lax gs l) (SameAt gs l) (λ n base x y. group-same gs l n base x y) b d s.long (find gs (le (part 8 4 b))) base s.id s.extension s.values)

pub walk_same : (gs : List Group) (b d : List ℕ) → SameValues gs b d → walk lax gs b ≡ walk lax gs d
unfolding walk
walk_same gs b d s = rw (← s.long, ← s.size, group-same gs 8 0 0 b d s)
