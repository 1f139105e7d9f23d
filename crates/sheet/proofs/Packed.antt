-- What is written stands in document 01's writing order: each writer's data are its values' extents, one straight behind the other.
use mathlib.Core.Path.{◌≡◌, refl, ap}
use mathlib.Core.Bool.{Bool, true, false, cond}
use mathlib.Core.List.{List, [], ◌∷◌, ◌++◌}
use Prim.Native.Nat.{ℕ, zero, suc, ◌+◌, ◌-◌, ◌*◌, ◌≤◌, ◌<◌, ◌^◌}
use native.Mathlib.Omega.{arith}
use lib.ListN.{length, take, replicate, length-append}
use lib.Seq.{take_at}
use lib.Dec.{eqb}
use borrow.Author.Tests.{leb-true, not-true}
use Rattle.wire.specs.Bytes.{part, le, bytes_of, same}
use Rattle.schema.specs.Schema.{Test, Kind, plain, inline, indirect, static, dynamic, Field, Group, kind_width, value_width, field_width, fields_of, width, find, known}
use Rattle.message.specs.Sheet.{Mark, XT, XU, GB, mark_bytes, NO, kind_mark, field_mark}
use Rattle.settings.specs.Store.{strict}
use Rattle.message.specs.Walk.{Here, here, Inner, byte, group_r}
use Rattle.meaning.specs.Proper.{Sized}
use Rattle.meaning.specs.Conforms.{Value, number, presence, inline_text, text, list, group, extension, extending, subgroup, Values, target, count_at, items_v, kind_v, value_v, field_v, fields_v, static_v, extension_v, area_of, Extent, extent_at, extent_of, extents, Each}
use Rattle.meaning.specs.Packed.{Contiguous, Inside, PackedAt}
use Rattle.meaning.proofs.Extents.{extents-append, each_append}
use Rattle.sheet.specs.Written.{Writer, InnerW, none_w, then_w, marked_w, optional_w, plain_w, inline_w, indirect_w, text_b, inner_b, items_w, list_b, kind_w, value_w, field_w, fields_w, static_w, extending_b, extension_w, behind_w, framed, body_w, head_w, group_w}
use Rattle.sheet.proofs.Laws.{At, at_left, at_right, at_part, at_byte}
use Rattle.sheet.proofs.Match.{SatW, said_w, unsaid_w, satw-need, satw-cond, satw-headed, satw-next, satw-placed, satw-both, satw-map, Held, held_first, held-rest, held-behind}
use Rattle.sheet.proofs.Layers.{satw-grab, satw-due, satw-counted}
use Rattle.sheet.proofs.Widths.{Wides, wides-marked, wides-indirect, wides-items, wides-kind, wides-field, wides-static, wides-extension}
use Rattle.sheet.proofs.Bodies.{offset-leads, count-there, GroupAgain}
use Rattle.sheet.proofs.Extension.{kept-id, none-offset, some-offset, satw-back}
use Rattle.sheet.proofs.Groups.{framed-length, framed-id, framed-held, satw-closed, match-body, match-group}

contiguous-join : (p q e : ℕ) (xs ys : List Extent) → Contiguous p xs q → Contiguous q ys e → Contiguous p (xs ++ ys) e
contiguous-join p q e [] ys x y = rw x y
contiguous-join p q e (x ∷ xs) ys (f, c) y = (f, contiguous-join (p + x.long) q e xs ys c y)

module _ (gs : List Group) (C : List ℕ → Type 0) (I : Inner) (J : InnerW) (inner : (g : ℕ) (s : List ℕ) → SatW (λ X Y r. GroupAgain gs I g s X Y r × (length X < 2 ^ 32 → C X)) (J g s)) where
  -- Values of b whose extents fill it from p to e, and each dynamic group of them is C.
  record Fill (b : List ℕ) (p : ℕ) (vs : List Value) (e : ℕ) : Type 0 where
    area : Contiguous p (extents b vs) e
    inside : Each (Inside gs C b) vs

  fill_none : {b : List ℕ} {p e : ℕ} → p ≡ e → Fill b p [] e
  unfolding extents
  fill_none x = record { area = x; inside = tt }

  fill-cons : {b : List ℕ} {p q e : ℕ} {vs : List Value} (v : Value) → Contiguous p (extent_of b v) q → Inside gs C b v → Fill b q vs e → Fill b p (v ∷ vs) e
  unfolding extents
  fill-cons {b} {p} {q} {e} {vs} v x i f = record { area = contiguous-join p q e (extent_of b v) (extents b vs) x f.area; inside = (i, f.inside) }

  fill-join : {b : List ℕ} {p q e : ℕ} {vs ws : List Value} → Fill b p vs q → Fill b q ws e → Fill b p (vs ++ ws) e
  fill-join {b} {p} {q} {e} {vs} {ws} x y = record {
    area = rw (extents-append b vs ws) (contiguous-join p q e (extents b vs) (extents b ws) x.area y.area);
    inside = (each_append (Inside gs C b) vs ws).1 (x.inside, y.inside);
  }

  -- Wherever a group holds F and D, the values that stand from `at` on fill D.
  abbrev Fills : Values → ℕ → ℕ → List ℕ → List ℕ → Type 0
  Fills v at fr F D = (h : Here) (z : List ℕ) (j k : ℕ) → Held h at fr F D z j k → Fill h.bytes fr (v h.bytes at) (fr + length D)

  abbrev Packs : Values → Writer → Type 0
  Packs v W = (at fr : ℕ) (s : List ℕ) → SatW (λ F D r. Fills v at fr F D) (W at fr s)

  -- ONE AFTER THE OTHER

  packs-none : Packs (λ b at. []) none_w
  unfolding none_w
  packs-none at fr s = said_w {F = []} {D = []} {r = s} (λ h z j k H. fill_none (omega arith))

  -- two parts, with bytes F and F' in place that stand at p and at q
  fill-both : {h : Here} {at fr : ℕ} {E z : List ℕ} {j k : ℕ} (v u : Values) (p q : ℕ) (F D F' D' : List ℕ) → Held h at fr E (D ++ D') z j k → At h.bytes p F → p + length F ≤ fr → At h.bytes q F' → q + length F' ≤ fr
      → Fills v p fr F D → Fills u q (fr + length D) F' D' → Fill h.bytes fr (v h.bytes p ++ u h.bytes q) (fr + length (D ++ D'))
  fill-both {h} {at} {fr} v u p q F D F' D' H a l a' l' A B =
      let e : fr + length (D ++ D') ≡ fr + length D + length D' = omega (arith, length-append D D') in
      rw e (fill-join (A h _ _ _ (held_first D D' H p F a l)) (B h _ _ _ (held-rest D D' H q F' a' (omega arith))))

  fills-then : (v u : Values) (w at fr : ℕ) (F D F' D' : List ℕ) → length F ≡ w → Fills v at fr F D → Fills u (at + w) (fr + length D) F' D'
      → Fills (λ b p. v b p ++ u b (p + w)) at fr (F ++ F') (D ++ D')
  fills-then v u w at fr F D F' D' l A B h z j k H =
      let n = length-append F F' in
      fill-both v u at (at + w) F D F' D' H (at_left h.bytes at F F' H.fix) (omega (arith, H.before)) (at_right h.bytes at (at + w) F F' (omega arith) H.fix) (omega (arith, H.before)) A B

  packs-then : (w : ℕ) (v u : Values) (U W : Writer) → Wides w U → Packs v U → Packs u W → Packs (λ b at. v b at ++ u b (at + w)) (then_w w U W)
  unfolding then_w
  packs-then w v u U W l A B at fr s = satw-next (satw-map (λ F D r p. satw-map (λ F' D' r' q. fills-then v u w at fr F D F' D' p.0 p.1 q) (B (at + w) (fr + length D) r)) (satw-both (l at fr s) (A at fr s)))

  packs-items : (w : ℕ) (v : Values) (W : Writer) → Wides w W → Packs v W → (n : ℕ) → Packs (items_v w v n) (items_w w W n)
  unfolding items_v items_w then_w
  packs-items w v W l A zero = packs-none
  packs-items w v W l A (suc n) = packs-then w v (items_v w v n) W (items_w w W n) l A (packs-items w v W l A n)

  packs-marked : (k : Mark) (v : Values) (W : Writer) → Packs v W → Packs v (marked_w k W)
  unfolding marked_w
  packs-marked k v W A at fr s = satw-due (mark_bytes k) s _ (λ r e. A at fr r)

  -- IN PLACE

  packs-plain : (w : ℕ) (t : Test) → Packs (λ b at. number w t at ∷ []) (plain_w w t)
  unfolding plain_w extent_of
  packs-plain w t at fr s = satw-grab _ w s _ (λ x r e l. satw-need _ _ _ (λ _. said_w (λ h z j k H. fill-cons (number w t at) refl tt (fill_none (omega arith)))))

  packs-inline : (u : Bool) (c : ℕ) → Packs (λ b at. inline_text u c at ∷ []) (inline_w u c)
  unfolding inline_w extent_of
  packs-inline u c at fr s = satw-counted s _ (λ x v r e lx lv. satw-need _ 7 _ (λ _. satw-need _ 9 _ (λ _. said_w (λ h z j k H. fill-cons (inline_text u c at) refl tt (fill_none (omega arith))))))

  -- an optional field's flag, and its value where it is 1
  abbrev optional_v : ℕ → Values → Values
  optional_v w v b at = presence w at ∷ cond (eqb (byte at b) 1) (v b (at + 1)) []

  packs-optional : (k : Mark) (w : ℕ) (v : Values) (W : Writer) → Packs v W → Packs (optional_v w v) (optional_w k w W)
  unfolding optional_w extent_of
  packs-optional k w v W A at fr s = satw-cond (same (take 2 s) NO)
      (λ _. said_w {F = 0 ∷ replicate w 0} {D = []} (λ h z j n H. fill-cons (presence w at) refl tt (rw (at_byte h.bytes at 0 (replicate w 0) H.fix) (fill_none (omega arith)))))
      (λ _. satw-headed (1 ∷ []) (satw-map {P = λ F D r. Fills v (at + 1) fr F D} (λ F D r p h z j n H. fill-cons (presence w at) refl tt (rw (at_byte h.bytes at 1 F H.fix) (p h z j n (held-behind (1 ∷ []) F H)))) (packs-marked k v W A (at + 1) fr s)))

  -- BEHIND AN OFFSET

  -- X begins with a count of units of w bytes, and has them
  abbrev Counts : ℕ → List ℕ → Type 0
  Counts w X = (4 ≤ length X) × (4 + le (take 4 X) * w ≡ length X)

  counts : (w : ℕ) (c x : List ℕ) → length c ≡ 4 → length x ≡ le c * w → Counts w (c ++ x)
  counts w c x l n = let e = length-append c x in (omega arith, rw (take_at c x 4 l) (omega arith))

  module _ {h : Here} {at fr : ℕ} {z : List ℕ} {j k : ℕ} (X Y : List ℕ) (H : Held h at fr (bytes_of 4 (fr - at)) (X ++ Y) z j k) where
    abbrev b : List ℕ
    b = h.bytes

    count-is : 4 ≤ length X → count_at b at ≡ le (take 4 X)
    count-is l = rw (offset-leads H) (count-there b fr X l (at_left b fr X Y H.dat))

    leads : (w : ℕ) → Counts w X → Contiguous fr (extent_at (count_at b at * w) b at) (fr + length X)
    leads w (l, e) = (offset-leads H, rw (count-is l) (omega arith))

    -- a value with nothing behind it
    fill-whole : Counts 1 X → Y ≡ [] → (v : Value) → extent_of b v ≡ extent_at (count_at b at) b at → (part (4 + count_at b at) (target b at) b ≡ X → Inside gs C b v) → Fill b fr (v ∷ []) (fr + length (X ++ Y))
    fill-whole (l, e) n v x i =
        let q : count_at b at * 1 ≡ count_at b at = omega arith in
        fill-cons {q = fr + length X} v (rw x (rw q at (leads 1 (l, e)))) (i (rw (count-is l, offset-leads H) (at_part b fr (4 + le (take 4 X)) X (omega arith) (at_left b fr X Y H.dat))))
        (fill_none (omega (arith, length-append X Y, ap length n)))

    fill-inner : (g : ℕ) {s r : List ℕ} → GroupAgain gs I g s X Y r × (length X < 2 ^ 32 → C X) → (v : Value) → extent_of b v ≡ extent_at (count_at b at) b at
        → (C (part (4 + count_at b at) (target b at) b) → Inside gs C b v) → Fill b fr (v ∷ []) (fr + length (X ++ Y))
    fill-inner g (a, c) v x i =
        let small : length X < 2 ^ 32 = omega (arith, H.all, H.small, length-append X Y) in
        let u = a.again small in
        fill-whole (omega (arith, u.sixteen), omega (arith, u.size)) a.none v x (λ q. i (rw q (c small)))

  packs-text : (u : Bool) → Packs (λ b at. text u at ∷ []) (indirect_w (text_b u))
  unfolding indirect_w text_b extent_of
  packs-text u at fr s = satw-placed (fr - at) (satw-counted s _ (λ c x r e l n. satw-need _ 9 _ (λ _. said_w (λ h z j k H. fill-whole (c ++ x) [] H (counts 1 c x l (omega arith)) refl (text u at) refl (λ _. tt)))))

  packs-inner : (g : ℕ) → Packs (λ b at. group g at ∷ []) (indirect_w (inner_b J g))
  unfolding indirect_w inner_b extent_of
  packs-inner g at fr s = satw-placed (fr - at) (satw-map (λ X Y r a h z j k H. fill-inner X Y H g a (group g at) refl (λ y. y)) (inner g s))

  -- what is kept is not opened
  packs-extending : Packs (λ b at. extending at ∷ []) (indirect_w (extending_b gs J))
  unfolding indirect_w extending_b extent_of
  packs-extending at fr s = satw-placed (fr - at) (satw-cond (same (take 2 s) (mark_bytes XU))
      (λ _. satw-due (mark_bytes XU) s _ (λ s₁ e. satw-counted s₁ _ (λ c x r e₁ l n. satw-need _ 1 _ (λ t. satw-need _ 45 _ (λ u. said_w (λ h z j k H. fill-whole (c ++ x) [] H (counts 1 c x l (omega arith)) refl (extending at) refl (λ _ y.
      let f : known gs (le (part 8 (target h.bytes at + 4) h.bytes)) ≡ false = rw (offset-leads H, kept-id h.bytes fr c x l (omega (arith, leb-true 12 (le c) t)) (at_left h.bytes fr (c ++ x) [] H.dat)) (not-true _ u) in
      absurd (let q : ◌≡◌ {A = ℕ} 0 1 = cc in omega arith))))))))
      (λ _. satw-due (mark_bytes GB) s _ (λ s₁ e. satw-map (λ X Y r a h z j k H. fill-inner X Y H 0 a (extending at) refl (λ y _. y)) (inner 0 s₁))))

  -- A LIST

  -- its value x, a sequence or the extension, and its items' values
  abbrev list_v : ℕ → (ℕ → Value) → Values → Values
  list_v w x v b at = x at ∷ items_v w v (count_at b at) b (target b at + 4)

  module _ (least w : ℕ) (x : ℕ → Value) (v : Values) (W : Writer)
      (own : (b : List ℕ) (at : ℕ) → (extent_of b (x at) ≡ extent_at (count_at b at * w) b at) × Inside gs C b (x at)) (L : Wides w W) (A : Packs v W) where
    fills-list : (at fr : ℕ) (c F D : List ℕ) → length c ≡ 4 → length F ≡ le c * w → Fills (items_v w v (le c)) (fr + 4) (fr + (4 + le c * w)) F D
        → Fills (list_v w x v) at fr (bytes_of 4 (fr - at)) ((c ++ F) ++ D)
    fills-list at fr c F D l n p h z j k H =
        let b = h.bytes in
        let lX = length-append c F in
        let e : fr + length (c ++ F) ≡ fr + (4 + le c * w) = omega arith in
        let e' : fr + length ((c ++ F) ++ D) ≡ fr + (4 + le c * w) + length D = omega (arith, length-append (c ++ F) D) in
        let m : count_at b at ≡ le c = rw (take_at c F 4 l) at (count-is (c ++ F) D H (omega arith)) in
        let i = at_right b fr (fr + 4) c F (omega arith) (at_left b fr (c ++ F) D H.dat) in
        let u = p h _ j _ (rw e at (held-rest (c ++ F) D H (fr + 4) F i (omega arith))) in
        fill-cons {q = fr + length (c ++ F)} (x at) (rw (own b at).0 (leads (c ++ F) D H w (counts w c F l n))) (own b at).1 (rw (m, offset-leads H, e, e') u)

    packs-listed : (at fr : ℕ) (s : List ℕ) → SatW (λ X Y r. Fills (list_v w x v) at fr (bytes_of 4 (fr - at)) (X ++ Y)) (list_b least w W fr s)
    unfolding list_b
    packs-listed at fr s = satw-grab _ 4 s _ (λ c r e l. satw-need _ 44 _ (λ _. satw-headed c (satw-map (λ F D r' p. fills-list at fr c F D l p.0 p.1)
        (satw-both (wides-items w W L (le c) (fr + 4) (fr + (4 + le c * w)) r) (packs-items w v W L A (le c) (fr + 4) (fr + (4 + le c * w)) r)))))

  -- FIELDS

  packs-cond : (c : Bool) (v u : Values) (U W : Writer) → Packs v U → Packs u W → Packs (λ b at. cond c (v b at) (u b at)) (cond c U W)
  packs-cond true v u U W A B = A
  packs-cond false v u U W A B = B

  module _ (sw : ℕ → ℕ) (S : ℕ → Values) (T : ℕ → Writer) (L : (g : ℕ) → Wides (sw g) (T g)) (A : (g : ℕ) → Packs (S g) (T g)) where
    packs-kind : (k : Kind) → Packs (kind_v S k) (kind_w J T k)
    unfolding kind_v kind_w extent_of
    packs-kind (plain w t) = packs-plain w t
    packs-kind (inline u c) = packs-inline u c
    packs-kind (indirect u) = packs-text u
    packs-kind (static g) = λ at fr s. satw-map (λ F D r p h z j k H. fill-cons subgroup refl tt (p h z j k H)) (A g at fr s)
    packs-kind (dynamic g) = packs-inner g

    packs-list : (w : ℕ) (k : Kind) → w ≡ kind_width sw k → Packs (list_v w (list w) (kind_v S k)) (indirect_w (list_b 0 w (marked_w (kind_mark k) (kind_w J T k))))
    unfolding indirect_w extent_of
    packs-list w k e at fr s = satw-placed (fr - at) (packs-listed 0 w (list w) (kind_v S k) _ (λ b p. (refl, tt)) (rw e (wides-marked (kind_mark k) _ _ (wides-kind J sw T L k))) (packs-marked (kind_mark k) _ _ (packs-kind k)) at fr s)

    packs-value : (f : Field) → Packs (value_v sw S f) (value_w J sw T f)
    unfolding value_v value_w
    packs-value f = packs-cond f.sequence (list_v _ (list _) (kind_v S f.kind)) (kind_v S f.kind) _ _ (packs-list _ f.kind refl) (packs-kind f.kind)

    packs-field : (f : Field) → Packs (field_v sw S f) (field_w J sw T f)
    unfolding field_v field_w
    packs-field f = packs-cond f.optional (optional_v (value_width sw f) (value_v sw S f)) (value_v sw S f) _ _ (packs-optional (field_mark f) _ _ _ (packs-value f)) (packs-marked (field_mark f) _ _ (packs-value f))

    packs-fields : (fs : List Field) → Packs (fields_v sw S fs) (fields_w J sw T fs)
    unfolding fields_v fields_w
    packs-fields [] = packs-none
    packs-fields (f ∷ fs) = packs-then (field_width sw f) _ _ _ _ (wides-field J sw T L f) (packs-field f) (packs-fields fs)

  packs-static : (d g : ℕ) → Packs (static_v gs d g) (static_w gs J d g)
  unfolding static_v static_w
  packs-static zero g = packs-none
  packs-static (suc d) g = packs-fields (width gs d) (static_v gs d) (static_w gs J d) (wides-static gs J d) (packs-static d) (fields_of gs g)

  -- THE EXTENSION

  packs-extension : Packs extension_v (extension_w gs J)
  unfolding extension_v extension_w indirect_w extent_of
  packs-extension at fr s = satw-cond (same (take 2 s) (mark_bytes XT))
      (λ _. satw-due (mark_bytes XT) s _ (λ r e. satw-placed (fr - at) (satw-map (λ X Y r' p h z j k H. rw (some-offset H) (p h z j k H))
      (packs-listed 1 4 extension (λ b p. extending p ∷ []) _ (λ b p. (refl, tt)) (wides-indirect _) packs-extending at fr r))))
      (λ _. said_w {D = []} (λ h z j k H. rw (none-offset H) (fill_none (omega arith))))

  -- walked last, it stands first
  fills-behind : (v u : Values) (at fr : ℕ) (F D E D' : List ℕ) → length E ≡ 4 → Fills v (at + 4) fr F D → Fills u at (fr + length D) E D' → Fills (λ b p. v b (p + 4) ++ u b p) at fr (E ++ F) (D ++ D')
  fills-behind v u at fr F D E D' l A B h z j k H =
      let n = length-append E F in
      fill-both v u (at + 4) at F D E D' H (at_right h.bytes at (at + 4) E F (omega arith) H.fix) (omega (arith, H.before)) (at_left h.bytes at E F H.fix) (omega (arith, H.before)) A B

  packs-body : (g : ℕ) → Packs (λ b at. static_v gs 5 g b (at + 4) ++ extension_v b at) (behind_w (static_w gs J 5 g) (extension_w gs J))
  unfolding behind_w
  packs-body g at fr s = satw-back (satw-map (λ F D r p. satw-map (λ E D' r' q. fills-behind (static_v gs 5 g) extension_v at fr F D E D' q.0 p q.1)
      (satw-both (wides-extension gs J at (fr + length D) r) (packs-extension at (fr + length D) r))) (packs-static 5 g (at + 4) fr s))

-- A DYNAMIC GROUP

pub packs-group : (gs : List Group) → Sized gs → (l n : ℕ) (s : List ℕ) → SatW (λ X Y r. length X < 2 ^ 32 → PackedAt gs l X) (group_w gs l n s)
unfolding group_w head_w body_w
packs-group gs ok zero n s = satw-grab _ 8 s _ (λ i r e li. satw-need _ 2 _ (λ _. satw-need _ 25 _ (λ _. unsaid_w)))
packs-group gs ok (suc l) n s = satw-grab _ 8 s _ (λ i s' e li. satw-need _ 2 _ (λ _. satw-need _ 25 _ (λ _.
    let g : ℕ = find gs (le i) in
    let I = group_r strict gs l in
    let J = group_w gs l in
    let M = match-group gs ok strict l in
    satw-closed i (satw-map (λ F D r p r' er small.
    let a = p.0.long in
    let lX = framed-length i F D li in
    let f = p.1 (here strict (framed i F D) 0 (area_of gs g)) (replicate (area_of gs g) 0) 0 (length D) (framed-held strict 0 (area_of gs g) i F D li (omega arith) small) in
    let e : length (framed i F D) ≡ area_of gs g + length D = omega arith in
    record { area = rw (framed-id i F D li, e) f.area; inside = rw (framed-id i F D li) f.inside })
    (satw-both ((match-body gs ok I J M g).back 12 (area_of gs g) s')
    (packs-body gs (PackedAt gs l) I J (λ c t. satw-both (M.back c t) (packs-group gs ok l c t)) g 12 (area_of gs g) s'))))))
