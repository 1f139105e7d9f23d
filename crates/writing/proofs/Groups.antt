-- The extension, a dynamic group, and the sheet: the same of their writers.
use Prim.Native.Nat.{ℕ, zero, suc, ◌+◌, ◌-◌, ◌<◌, ◌≤◌}
use mathlib.Core.Path.{◌≡◌, refl, sym, ap, ◌∙◌}
use mathlib.Core.Bool.{Bool, true, false}
use mathlib.Core.List.{List, [], ◌++◌, append-nil}
use native.Mathlib.Omega.{arith}
use lib.ListN.{length, drop, length-append}
use lib.Seq.{drop-drop}
use borrow.Author.Tests.{ltb-true}
use Rattle.wire.specs.Bytes.{part, splice, bytes_of, le, same}
use Rattle.wire.proofs.Laws.{length-bytes, length_part, length-splice, splice-nil}
use Rattle.schema.specs.Schema.{Group, find, known}
use Rattle.schema.specs.Table.{schema}
use Rattle.message.specs.Sheet.{XT, XU, mark_bytes, GE}
use Rattle.message.specs.Check.{width_of}
use Rattle.message.proofs.Count.{length-mark}
use Rattle.sheet.specs.Written.{Writing, stopped, wrote, InnerW, placed, due, counted, indirect_w, inner_b, list_b, extending_b, extension_w, behind_w, framed, closed, body_w, head_w, group_w, ended, sheet_w}
use Rattle.sheet.specs.Writers.{inner_of, static_of, nested_of, extension_of}
use Rattle.sheet.proofs.Widths.{wide_is, wides-static, wides-extension}
use Rattle.sheet.proofs.Groups.{framed-length}
use Rattle.sheet.proofs.Writers.{mark-inside, placed-wrote}
use Rattle.writing.specs.Write.{behind, put, Fits, Stands}
use Rattle.writing.proofs.Laws.{put-group}
use Rattle.writing.proofs.Left.{Opens, need-wrote, behind-wrote, back-wrote, one-writing, Left, begun, left-fits, first_back, called-back, finished}
use Rattle.writing.proofs.Writers.{grab-wrote, due-wrote, placed-opens, offset-room, offset-left, lent_fits, lent-stands}

-- THE EXTENSION

module _ (gs : List Group) (I : InnerW) (at free pos : ℕ) (s : List ℕ) where
  pub extension-none : same (part 2 pos s) (mark_bytes XT) ≡ false → extension_w gs I at free (drop pos s) ≡ wrote (bytes_of 4 0) [] (drop pos s)
  unfolding extension_w
  extension-none e = rw e

  pub extension-some : same (part 2 pos s) (mark_bytes XT) ≡ true → Opens (extension_w gs I at free (drop pos s)) (indirect_w (list_b 1 4 (indirect_w (extending_b gs I))) at free (drop (pos + 2) s))
  unfolding extension_w
  extension-some q F D r e = (due-wrote pos s F D r _ _ (rw q at e)).1

  -- one of its groups
  kept : same (part 2 pos s) (mark_bytes XU) ≡ true → (k : List ℕ → List ℕ → List ℕ → Writing) × ((c v t : List ℕ) → Opens (k c v t) (wrote (c ++ v) [] t)) × Opens (extending_b gs I free (drop pos s)) (counted (drop (pos + 2) s) k)
  unfolding extending_b
  kept q = (
    _,
    (λ c v t F D r e. (need-wrote F D r _ _ _ _ (need-wrote F D r _ _ _ _ e).1).1),
    (λ F D r e. (due-wrote pos s F D r _ _ (rw q at e)).1),
  )

  pub extending-kept : same (part 2 pos s) (mark_bytes XU) ≡ true → (k : List ℕ → List ℕ → List ℕ → Writing) × ((c v t : List ℕ) → Opens (k c v t) (wrote (c ++ v) [] t)) × Opens (indirect_w (extending_b gs I) at free (drop pos s)) (placed (free - at) (counted (drop (pos + 2) s) k))
  unfolding indirect_w
  extending-kept q = let k = kept q in (k.0, k.1, placed-opens (free - at) _ _ k.2)

  pub extending-inner : same (part 2 pos s) (mark_bytes XU) ≡ false → Opens (indirect_w (extending_b gs I) at free (drop pos s)) (indirect_w (inner_b I 0) at free (drop (pos + 2) s))
  unfolding indirect_w extending_b inner_b
  extending-inner q = placed-opens (free - at) _ _ (λ F D r e. (due-wrote pos s F D r _ _ (rw q at e)).1)

  body-inside : (F D r : List ℕ) → extending_b gs I free (drop pos s) ≡ wrote F D r → pos + 2 ≤ length s
  unfolding extending_b
  body-inside F D r e = go (same (part 2 pos s) (mark_bytes XU)) refl
    where
      go : (b : Bool) → same (part 2 pos s) (mark_bytes XU) ≡ b → pos + 2 ≤ length s
      go true q = mark-inside pos s _ (length-mark XU) q
      go false q = (due-wrote pos s F D r _ _ (rw q at e)).0

  pub extending-inside : (out : List ℕ) → Fits (indirect_w (extending_b gs I) at free (drop pos s)) at free out → pos + 2 ≤ length s
  unfolding indirect_w
  extending-inside out f = body-inside _ _ _ (placed-wrote _ _ _ _ _ f.is).2

-- there is a mark behind the fields: `XT`, or else the group's `GE`
pub extension-inside : (gs : List Group) (I : InnerW) (at free : ℕ) (s F D r : List ℕ) → extension_w gs I at free s ≡ wrote F D r → 2 ≤ length r → 2 ≤ length s
unfolding extension_w
extension-inside gs I at free s F D r e h = go (same (part 2 0 s) (mark_bytes XT)) refl
  where
    go : (b : Bool) → same (part 2 0 s) (mark_bytes XT) ≡ b → 2 ≤ length s
    go true q = omega (arith, mark-inside 0 s _ (length-mark XT) q)
    go false q = let z = one-writing _ _ _ _ _ _ _ refl (rw q at e) in omega (arith, ap length z.2, h)

-- A DYNAMIC GROUP

closed-wrote : (id : List ℕ) (y : Writing) (X Y r : List ℕ) → closed id y ≡ wrote X Y r
    → (F : List ℕ) × (D : List ℕ) × (t : List ℕ) × (y ≡ wrote F D t) × (due GE t (λ r'. wrote (framed id F D) [] r') ≡ wrote X Y r)
unfolding closed
closed-wrote id (stopped n p) X Y r e = absurd (let z : ◌≡◌ {A = ℕ} 0 1 = cc in omega arith)
closed-wrote id (wrote F D t) X Y r e = (F, D, t, refl, e)

group-wrote : (gs : List Group) (l a pos : ℕ) (s X Y r : List ℕ) → group_w gs l a (drop pos s) ≡ wrote X Y r
    → (0 < l) × (pos + 8 ≤ length s) × (find gs (le (part 8 pos s)) < length gs) × (body_w gs (group_w gs (l - 1)) (find gs (le (part 8 pos s))) (part 8 pos s) (drop (pos + 8) s) ≡ wrote X Y r)
unfolding group_w head_w known
group-wrote gs zero a pos s X Y r e =
    let g = grab-wrote pos s X Y r _ 8 _ e in
    let u = need-wrote X Y r _ _ _ _ g.1 in
    let v = (need-wrote X Y r _ _ _ _ u.1).1 in
    absurd (let z : ◌≡◌ {A = ℕ} 0 1 = cc in omega arith)
group-wrote gs (suc l) a pos s X Y r e =
    let g = grab-wrote pos s X Y r _ 8 _ e in
    let u = need-wrote X Y r _ _ _ _ g.1 in
    let v = need-wrote X Y r _ _ _ _ u.1 in
    let q : suc l - 1 ≡ l = omega arith in
    (omega arith, omega (arith, g.0), ltb-true _ _ u.0, rw q v.1)

-- its head, its fields and its extension, with one level less below it
module _ (t : List ℕ) (l a pos : ℕ) (s out : List ℕ) (f : Fits (behind (inner_of t l a (drop pos s))) 0 0 out) where
  abbrev id : List ℕ
  id = part 8 pos s

  abbrev g : ℕ
  g = find (schema t) (le id)

  abbrev area : ℕ
  area = 16 + width_of t 5 g

  -- the extension's offset and the fields, with the data area behind them
  abbrev contents : Writing
  contents = behind_w (static_of t (l - 1) 5 g) (extension_of t (l - 1)) 12 area (drop (pos + 8) s)

  pub head : (X : List ℕ) × (Y : List ℕ) × (inner_of t l a (drop pos s) ≡ wrote X Y f.rest) × (f.values ≡ X ++ Y) × (0 < l) × (pos + 8 ≤ length s) × (g < length (schema t)) × (closed id contents ≡ wrote X Y f.rest)
  unfolding body_w
  head =
      let b = behind-wrote _ _ _ (inner_of t l a (drop pos s)) f.is in
      let h = group-wrote (schema t) l a pos s _ _ _ b.2 in
      (b.0, b.1, b.2, b.3, h.0, h.1, h.2, h.3)

  id-long : length id ≡ 8
  id-long = length_part 8 pos s head.5

  -- the same bytes, as `closed` and `behind_w` have them
  module _ (F D r : List ℕ) (e : contents ≡ wrote F D r) where
    contents-long : length F ≡ 4 + width_of t 5 g
    unfolding behind_w
    contents-long =
        let h = back-wrote F D r _ _ e in
        let u = wide_is (wides-static (schema t) (inner_of t (l - 1)) 5 g _ _ _) h.5 in
        let v = wide_is (wides-extension (schema t) (inner_of t (l - 1)) _ _ _) h.6 in
        omega (arith, u, v, ap length h.7 ∙ length-append h.3 h.0)

    closes : (2 ≤ length r) × (head.0 ≡ framed id F D) × (head.1 ≡ []) × (f.rest ≡ drop 2 r)
    closes =
        let c = closed-wrote id contents _ _ _ head.7 in
        let o = one-writing _ _ _ _ _ _ _ c.3 e in
        let d : due GE (drop 0 r) (λ r'. wrote (framed id F D) [] r') ≡ wrote head.0 head.1 f.rest = rw (← o.0, ← o.1, ← o.2) c.4 in
        let q = due-wrote 0 r _ _ _ _ _ d in
        let i = one-writing _ _ _ _ _ _ _ refl q.1 in
        (omega (arith, q.0), sym i.0, sym i.1, sym i.2)

    body-long : 16 + width_of t 5 g + length D ≤ length out
    body-long =
        let c = closes in
        let k = ap length c.1 ∙ framed-length id F D id-long in
        omega (arith, f.room, ap length head.3 ∙ length-append head.0 head.1, k, contents-long)

  contents-fits : (mid : List ℕ) → length mid ≡ length out → Fits contents 12 area mid
  contents-fits mid m =
      let c = closed-wrote id contents _ _ _ head.7 in
      record {
        fixed = c.0;
        values = c.1;
        rest = c.2;
        is = c.3;
        before = omega (arith, contents-long _ _ _ c.3);
        room = omega (arith, body-long _ _ _ c.3, m);
      }

  pub body-start : 16 ≤ length out
  body-start = omega (arith, (contents-fits out refl).room)

  -- the fields, and behind them the extension
  abbrev mid : List ℕ
  mid = splice 8 4 id out

  mid-long : length mid ≡ length out
  mid-long = length-splice 8 4 id out (omega (arith, body-start)) id-long

  contents-left : Left contents 12 area mid contents 12 area mid
  contents-left = begun contents 12 area mid (contents-fits mid mid-long)

  pub fields-fits : Fits (static_of t (l - 1) 5 g 16 area (drop (pos + 8) s)) 16 area mid
  unfolding behind_w
  fields-fits = first_back contents 12 area mid 4 _ _ 12 area mid (λ D r. wides-extension (schema t) (inner_of t (l - 1)) 12 _ r) contents-left

  module _ (last : List ℕ) (p e : ℕ) (v : Stands (static_of t (l - 1) 5 g 16 area (drop (pos + 8) s)) 16 area s mid last p e) where
    extension-left : Left contents 12 area mid (extension_of t (l - 1) 12 e (drop p s)) 12 e last
    unfolding behind_w
    extension-left = called-back contents 12 area mid s 16 area 4 mid last p e _ v (λ k r. extension_of t (l - 1) 12 k r) 12 refl contents-left (wides-extension (schema t) (inner_of t (l - 1)) 12 e (drop p s))

    pub extension-fits : (x : Fits (extension_of t (l - 1) 12 e (drop p s)) 12 e last) × (2 ≤ length x.rest)
    extension-fits =
        let x = left-fits contents 12 area mid _ 12 e last extension-left in
        let o = one-writing _ _ _ _ _ _ _ extension-left.is x.is in
        (x, omega (arith, (closes _ _ _ extension-left.was).0, ap length o.2))

    pub contents-stand : (left : List ℕ) (p' e' : ℕ) → Stands (extension_of t (l - 1) 12 e (drop p s)) 12 e s last left p' e' → Stands contents 12 area s mid left p' e'
    contents-stand left p' e' w = finished contents 12 area mid _ 12 e last extension-left s left p' e' w

  -- the size last
  pub whole-stands : (last left : List ℕ) (p e : ℕ) → Stands contents 12 area s mid last p e → left ≡ splice 4 0 (bytes_of 4 (e - 4)) last → Stands (behind (inner_of t l a (drop pos s))) 0 0 s out left (p + 2) e
  unfolding behind
  whole-stands last left p e v q =
      let F = v.fixed in
      let D = v.values in
      let c = closes _ _ _ v.is in
      let k = contents-long _ _ _ v.is in
      let n : ℕ = 8 + length F + length D in
      let X : List ℕ = framed id F D in
      let en : e - 4 ≡ n = omega (arith, v.ends, k) in
      let lX : length X ≡ e = omega (arith, framed-length id F D id-long, v.ends, k) in
      let y : inner_of t l a (drop pos s) ≡ wrote X [] (drop (p + 2) s) = head.2 ∙ ap (λ (Z : List ℕ). wrote Z head.1 f.rest) c.1 ∙ ap (λ (Z : List ℕ). wrote X Z f.rest) c.2 ∙ ap (wrote X []) (c.3 ∙ drop-drop 2 p s) in
      let b = put-group (width_of t 5 g) (bytes_of 4 n) id F D out mid last left (length-bytes 4 n) id-long k refl v.bytes (q ∙ ap (λ (j : ℕ). splice 4 0 (bytes_of 4 j) last) en) (body-long _ _ _ v.is) in
      record {
        fixed = [];
        values = X ++ [];
        is = ap behind y;
        bytes = b ∙ rw (append-nil X, splice-nil 0 out);
        ends = omega (arith, ap length (append-nil X), lX);
      }

-- behind its offset, in a part of the output
module _ (t : List ℕ) (l a at free pos : ℕ) (s out : List ℕ) (f : Fits (nested_of t l a at free (drop pos s)) at free out) where
  nested-begun : Left (nested_of t l a at free (drop pos s)) at free out (placed (free - at) (inner_of t l a (drop pos s))) at free out
  unfolding indirect_w inner_b
  nested-begun = begun _ at free out f

  pub nested-room : (at + 4 ≤ free) × (free ≤ length out)
  nested-room = offset-room _ at free out _ at free out nested-begun

  module _ (mid : List ℕ) (m : mid ≡ splice 4 at (bytes_of 4 (free - at)) out) (n : ℕ) (i : n ≡ length mid - free) where
    nested-left : Left (nested_of t l a at free (drop pos s)) at free out (behind (inner_of t l a (drop pos s))) (at + 4) free mid
    nested-left = offset-left _ at free out _ at free out nested-begun mid m

    pub nested-fits : Fits (behind (inner_of t l a (drop pos s))) 0 0 (part n free mid)
    nested-fits = lent_fits _ (at + 4) free n s mid (left-fits _ at free out _ (at + 4) free mid nested-left) i

    module _ (last left : List ℕ) (p e : ℕ) (v : Stands (behind (inner_of t l a (drop pos s))) 0 0 s (part n free mid) last p e) where
      pub nested-end : free + e ≤ length mid
      nested-end = let o = one-writing _ _ _ _ _ _ _ nested-left.is v.is in omega (arith, nested-left.room, ap length o.1, v.ends)

      pub nested-stands : left ≡ splice n free last mid → Stands (nested_of t l a at free (drop pos s)) at free s out left p (free + e)
      nested-stands q = finished _ at free out _ (at + 4) free mid nested-left s left p (free + e) (lent-stands _ (at + 4) free n s mid (left-fits _ at free out _ (at + 4) free mid nested-left) i last left p e v q)

-- THE SHEET

ended-wrote : (n : ℕ) (y : Writing) (F D r : List ℕ) → ended n y ≡ wrote F D r → y ≡ wrote F D r
unfolding ended
ended-wrote n (stopped k p) F D r e = absurd (let z : ◌≡◌ {A = ℕ} 0 1 = cc in omega arith)
ended-wrote n (wrote X Y t) F D r e = (need-wrote F D r _ _ _ _ e).1

module _ (t s X : List ℕ) (e : sheet_w (schema t) s ≡ wrote X [] []) where
  pub sheet-is : behind (inner_of t 8 0 (drop 2 s)) ≡ wrote [] (X ++ []) []
  unfolding sheet_w behind
  sheet-is = let d = ended-wrote _ _ X [] [] (need-wrote X [] [] _ _ _ _ e).1 in ap behind (due-wrote 0 s X [] [] _ _ d).1

  pub sheet-fits : (out : List ℕ) → length X ≤ length out → Fits (behind (inner_of t 8 0 (drop 2 s))) 0 0 out
  sheet-fits out h = record { fixed = []; values = X ++ []; rest = []; is = sheet-is; before = omega arith; room = omega (arith, h, ap length (append-nil X)) }

  pub sheet-stands : (out left : List ℕ) (p n : ℕ) → Stands (behind (inner_of t 8 0 (drop 2 s))) 0 0 s out left p n → (left ≡ splice (length X) 0 X out) × (n ≡ length X)
  sheet-stands out left p n v =
      let o = one-writing _ _ _ _ _ _ _ v.is sheet-is in
      let q : v.values ≡ X = o.1 ∙ append-nil X in
      let b : put 0 0 v.fixed v.values out ≡ put 0 0 [] X out = ap (λ (Z : List ℕ). put 0 0 Z v.values out) o.0 ∙ ap (λ (Z : List ℕ). put 0 0 [] Z out) q in
      (v.bytes ∙ b ∙ rw (splice-nil 0 out), omega (arith, v.ends, ap length q))
