-- What an allowed sheet's writers say without their tests: each is opened to fixed bytes and to the writers that it goes on with.
use Prim.Native.Nat.{ℕ, suc, ◌+◌, ◌-◌, ◌*◌, ◌≤◌}
use mathlib.Core.Path.{◌≡◌, refl, sym, ap, ◌∙◌}
use mathlib.Core.Bool.{Bool, true, false}
use mathlib.Core.List.{List, [], ◌∷◌, ◌++◌, append-nil}
use native.Mathlib.Omega.{arith}
use lib.ListN.{length, drop, replicate, length-append, length-drop, length-replicate}
use lib.Seq.{drop-drop}
use borrow.Author.Tests.{leb-true}
use Rattle.wire.specs.Bytes.{part, splice, bytes_of, le, same}
use Rattle.wire.proofs.Laws.{length-bytes, length_part, part-add, splice-nil}
use Rattle.schema.specs.Schema.{Test, Kind, any, Field, kind_width, value_width, field_width}
use Rattle.schema.specs.FieldKinds.{kind_from, tested_kind}
use Rattle.schema.specs.declared.FieldKind.{FieldKind}
use Rattle.schema.specs.declared.FieldKind.TheVariants.{Plain, Number, Inline, Indirect, Static, Dynamic}
use Rattle.schema.specs.declared.Tested.{Tested}
use Rattle.schema.proofs.Types.{width-optional}
use Rattle.message.specs.Sheet.{Mark, ST, SQ, mark_bytes, NO}
use Rattle.sheet.specs.Written.{Writing, wrote, Writer, InnerW, headed, placed, grab, due, marked_w, plain_w, counted, inline_w, indirect_w, text_b, inner_b, items_w, list_b, kind_w, field_w}
use Rattle.sheet.specs.Writers.{item_w, marked_value_w, text_of}
use Rattle.sheet.proofs.Widths.{Wide, wide_is, wide-headed, Wides, wides-items}
use Rattle.sheet.proofs.Writers.{mark-inside, placed-wrote, field-required, field-absent, field-present, value-list, tested-plain}
use Rattle.writing.specs.Write.{behind, put, Fits, Stands}
use Rattle.writing.proofs.Laws.{put-part}
use Rattle.writing.proofs.Left.{Opens, need-wrote, headed-wrote, behind-wrote, placed-is, one-writing, Left, begun, left-fits, opened, finished, headed-left, behind-left}

-- THE SHEET'S NEXT BYTES

module _ (pos : ℕ) (s : List ℕ) (F D r : List ℕ) where
  pub grab-wrote : (o n : ℕ) (k : List ℕ → List ℕ → Writing) → grab o n (drop pos s) k ≡ wrote F D r → (n ≤ length s - pos) × (k (part n pos s) (drop (pos + n) s) ≡ wrote F D r)
  unfolding grab
  grab-wrote o n k e =
      let q = need-wrote F D r _ _ _ _ e in
      (rw length-drop at (leb-true n (length (drop pos s)) q.0), rw (drop-drop n pos s) at q.1)

  pub due-wrote : (m : List ℕ) (f : List ℕ → Writing) → due m (drop pos s) f ≡ wrote F D r → (pos + 2 ≤ length s) × (f (drop (pos + 2) s) ≡ wrote F D r)
  unfolding due
  due-wrote m f e =
      let g = grab-wrote _ 2 _ e in
      let q = need-wrote F D r _ _ _ _ g.1 in
      (omega (arith, g.0), q.1)

module _ (pos : ℕ) (s F D r : List ℕ) where
  -- a count and so many bytes
  counted-wrote : (k : List ℕ → List ℕ → List ℕ → Writing) → counted (drop pos s) k ≡ wrote F D r
      → (pos + 4 ≤ length s) × (pos + (4 + le (part 4 pos s)) ≤ length s) × (k (part 4 pos s) (part (le (part 4 pos s)) (pos + 4) s) (drop (pos + (4 + le (part 4 pos s))) s) ≡ wrote F D r)
  unfolding counted
  counted-wrote k e =
      let n : ℕ = le (part 4 pos s) in
      let g = grab-wrote pos s F D r _ 4 _ e in
      let h : pos + 4 ≤ length s = omega (arith, g.0) in
      let q = grab-wrote (pos + 4) s F D r _ n _ g.1 in
      let a : pos + 4 + n ≡ pos + (4 + n) = omega arith in
      (h, omega (arith, h, q.0), rw a at q.1)

-- A TEST, A MARK, AN OFFSET

pub same-opens : (x y : Writing) → x ≡ y → Opens x y
same-opens x y q F D r e = sym q ∙ e

placed_of : (o : ℕ) (y : Writing) (X Y r : List ℕ) → y ≡ wrote X Y r → placed o y ≡ wrote (bytes_of 4 o) (X ++ Y) r
unfolding placed
placed_of o y X Y r e = rw e

pub placed-opens : (o : ℕ) (y z : Writing) → Opens y z → Opens (placed o y) (placed o z)
placed-opens o y z q F D r e =
    let p = placed-wrote o y F D r e in
    placed_of o z p.0 p.1 r (q _ _ _ p.2) ∙ sym (placed_of o y p.0 p.1 r p.2) ∙ e

module _ (k : Mark) (W : Writer) (at free pos : ℕ) (s : List ℕ) where
  pub marked-opens : Opens (marked_w k W at free (drop pos s)) (W at free (drop (pos + 2) s))
  unfolding marked_w
  marked-opens F D r e = (due-wrote pos s F D r (mark_bytes k) _ e).1

  pub marked-inside : (out : List ℕ) → Fits (marked_w k W at free (drop pos s)) at free out → pos + 2 ≤ length s
  unfolding marked_w
  marked-inside out f = (due-wrote pos s _ _ _ (mark_bytes k) _ f.is).0

-- VALUES IN PLACE

room_of : (x : Writing) (at free : ℕ) (out : List ℕ) → Fits x at free out → (F D r : List ℕ) → x ≡ wrote F D r → (at + length F ≤ free) × (free + length D ≤ length out)
room_of x at free out f F D r e =
    let o = one-writing x _ _ _ _ _ _ f.is e in
    (omega (arith, ap length o.0, f.before), omega (arith, ap length o.1, f.room))

pub in_place : (x : Writing) (at free n pos : ℕ) (F s out left : List ℕ) → x ≡ wrote F [] (drop pos s) → length F ≡ n → left ≡ splice n at F out → Stands x at free s out left pos free
in_place x at free n pos F s out left e l m = record {
  fixed = F;
  values = [];
  is = e;
  bytes = m ∙ rw (← l) (sym (splice-nil free (splice (length F) at F out)));
  ends = omega arith;
}

module _ (w : ℕ) (t : Test) (at free pos : ℕ) (s out : List ℕ) (f : Fits (plain_w w t at free (drop pos s)) at free out) (h : pos ≤ length s) where
  plain-is : (pos + w ≤ length s) × (plain_w w t at free (drop pos s) ≡ wrote (part w pos s) [] (drop (pos + w) s))
  unfolding plain_w
  plain-is =
      let g = grab-wrote pos s _ _ _ _ w _ f.is in
      (omega (arith, g.0, h), f.is ∙ sym (need-wrote _ _ _ _ _ _ _ g.1).1)

  pub plain-room : (pos + w ≤ length s) × (at + w ≤ length out)
  plain-room =
      let q = room_of _ at free out f _ _ _ plain-is.1 in
      (plain-is.0, omega (arith, q.0, q.1, length_part w pos s plain-is.0))

  pub plain-stands : (left : List ℕ) (p : ℕ) → left ≡ splice w at (part w pos s) out → p ≡ pos + w → Stands (plain_w w t at free (drop pos s)) at free s out left p free
  plain-stands left p m i = in_place _ at free w p (part w pos s) s out left (rw i plain-is.1) (length_part w pos s plain-is.0) m

-- with its mark
module _ (x : Writing) (k : Mark) (w : ℕ) (t : Test) (at free pos : ℕ) (s out : List ℕ) (i : x ≡ marked_w k (plain_w w t) at free (drop pos s)) (f : Fits x at free out) where
  record-left : Left x at free out (marked_w k (plain_w w t) at free (drop pos s)) at free out
  record-left = opened x at free out x at free out (begun x at free out f) _ (same-opens _ _ i)

  value-left : Left x at free out (plain_w w t at free (drop (pos + 2) s)) at free out
  value-left = opened x at free out _ at free out record-left _ (marked-opens k (plain_w w t) at free pos s)

  pub record-room : (pos + 2 ≤ length s) × (pos + 2 + w ≤ length s) × (at + w ≤ length out)
  record-room =
      let h = marked-inside k (plain_w w t) at free pos s out (left-fits x at free out _ at free out record-left) in
      let r = plain-room w t at free (pos + 2) s out (left-fits x at free out _ at free out value-left) h in
      (h, r.0, r.1)

  pub record-stands : (left : List ℕ) (p : ℕ) → left ≡ splice w at (part w (pos + 2) s) out → p ≡ pos + 2 + w → Stands x at free s out left p free
  record-stands left p m ip = finished x at free out _ at free out value-left s left p free (plain-stands w t at free (pos + 2) s out (left-fits x at free out _ at free out value-left) record-room.0 left p m ip)

module _ (u : Bool) (c at free pos : ℕ) (s out : List ℕ) (f : Fits (inline_w u c at free (drop pos s)) at free out) where
  abbrev N : ℕ
  N = le (part 4 pos s)

  abbrev text : List ℕ
  text = N ∷ (part N (pos + 4) s ++ replicate (c - N) 0)

  inline-is : (pos + 4 ≤ length s) × (pos + (4 + N) ≤ length s) × (N ≤ c) × (inline_w u c at free (drop pos s) ≡ wrote text [] (drop (pos + (4 + N)) s))
  unfolding inline_w
  inline-is =
      let g = counted-wrote pos s _ _ _ _ f.is in
      let a = need-wrote _ _ _ _ _ _ _ g.2 in
      let b = need-wrote _ _ _ _ _ _ _ a.1 in
      (g.0, g.1, leb-true N c a.0, f.is ∙ sym b.1)

  text-long : length text ≡ 1 + c
  text-long =
      let i = inline-is in
      let l : length (part N (pos + 4) s) ≡ N = length_part N (pos + 4) s (omega (arith, i.1)) in
      omega (arith, length-append (part N (pos + 4) s) (replicate (c - N) 0), l, length-replicate {A = ℕ} (c - N) 0, i.2)

  pub inline-room : (pos + 4 ≤ length s) × (pos + (4 + N) ≤ length s) × (N ≤ c) × (at + (1 + c) ≤ length out)
  inline-room =
      let i = inline-is in
      let q = room_of _ at free out f _ _ _ i.3 in
      (i.0, i.1, i.2, omega (arith, q.0, q.1, text-long))

  pub inline-stands : (left : List ℕ) (p : ℕ) → left ≡ splice (1 + c) at text out → p ≡ pos + (4 + N) → Stands (inline_w u c at free (drop pos s)) at free s out left p free
  inline-stands left p m i = in_place _ at free (1 + c) p text s out left (rw i inline-is.3) text-long m

-- VALUES BEHIND AN OFFSET

-- a count and so many bytes at p, whatever else k tests
module _ (x : Writing) (k : List ℕ → List ℕ → List ℕ → Writing) (o : (c v t : List ℕ) → Opens (k c v t) (wrote (c ++ v) [] t)) (at free pos : ℕ) (s out : List ℕ)
    (q : Opens x (placed (free - at) (counted (drop pos s) k))) (f : Fits x at free out) where
  abbrev M : ℕ
  M = 4 + le (part 4 pos s)

  text-is : (pos + 4 ≤ length s) × (pos + M ≤ length s) × (x ≡ wrote (bytes_of 4 (free - at)) (part M pos s) (drop (pos + M) s))
  text-is =
      let e = q _ _ _ f.is in
      let p = placed-wrote _ _ _ _ _ e in
      let g = counted-wrote pos s _ _ _ k p.2 in
      let i = placed_of (free - at) (counted (drop pos s) k) _ _ _ (p.2 ∙ sym (o _ _ _ _ _ _ g.2)) in
      (g.0, g.1, f.is ∙ sym e ∙ i ∙ rw (append-nil, part-add 4 (le (part 4 pos s)) pos s))

  pub text-room : (pos + 4 ≤ length s) × (pos + M ≤ length s) × (at + 4 ≤ free) × (free + M ≤ length out)
  text-room =
      let i = text-is in
      let r = room_of x at free out f _ _ _ i.2 in
      (i.0, i.1, omega (arith, r.0, length-bytes 4 (free - at)), omega (arith, r.1, length_part M pos s i.1))

  pub text-stands : (left : List ℕ) (p e : ℕ) → left ≡ splice M free (part M pos s) (splice 4 at (bytes_of 4 (free - at)) out) → p ≡ pos + M → e ≡ free + M → Stands x at free s out left p e
  text-stands left p e m ip ie =
      let i = text-is in
      let l = length_part M pos s i.1 in
      record {
        fixed = bytes_of 4 (free - at);
        values = part M pos s;
        is = rw ip i.2;
        bytes = rw (l, length-bytes 4 (free - at)) m;
        ends = omega (arith, l, ie);
      }

-- the offset is written: the value is left, with nothing in place
module _ (x : Writing) (at₀ free₀ : ℕ) (out₀ : List ℕ) (y : Writing) (at free : ℕ) (out : List ℕ) (L : Left x at₀ free₀ out₀ (placed (free - at) y) at free out) where
  pub offset-room : (at + 4 ≤ free) × (free ≤ length out)
  offset-room = let p = placed-wrote _ _ _ _ _ L.is in (omega (arith, L.before, ap length p.3, length-bytes 4 (free - at)), omega (arith, L.room))

  pub offset-left : (mid : List ℕ) → mid ≡ splice 4 at (bytes_of 4 (free - at)) out → Left x at₀ free₀ out₀ (behind y) (at + 4) free mid
  offset-left mid m = headed-left x at₀ free₀ out₀ (bytes_of 4 (free - at)) (behind y) 4 at free out mid (rw (placed-is (free - at) y) at L) (length-bytes 4 (free - at)) m

-- a value in a lent part of the output
module _ (y : Writing) (at free n : ℕ) (s out : List ℕ) (f : Fits (behind y) at free out) (i : n ≡ length out - free) where
  pub lent_fits : Fits (behind y) 0 0 (part n free out)
  lent_fits =
      let b = behind-wrote _ _ _ y f.is in
      let l : length (part n free out) ≡ n = length_part n free out (omega (arith, i, f.before, f.room)) in
      record { fixed = f.fixed; values = f.values; rest = f.rest; is = f.is; before = omega (arith, ap length b.4); room = omega (arith, l, i, f.before, f.room) }

  pub lent-stands : (last left : List ℕ) (pos end : ℕ) → Stands (behind y) 0 0 s (part n free out) last pos end → left ≡ splice n free last out → Stands (behind y) at free s out left pos (free + end)
  lent-stands last left pos end v m =
      let b = behind-wrote _ _ _ y v.is in
      let o = one-writing _ _ _ _ _ _ _ f.is v.is in
      let l : length v.values ≤ n = omega (arith, i, ap length o.1, f.room) in
      let q : last ≡ put 0 0 [] v.values (part n free out) = v.bytes ∙ ap (λ (F : List ℕ). put 0 0 F v.values (part n free out)) b.4 in
      let p : splice (length v.values) free v.values out ≡ put at free v.fixed v.values out =
      ap (splice (length v.values) free v.values) (sym (splice-nil at out)) ∙ ap (λ (F : List ℕ). put at free F v.values out) (sym b.4) in
      record {
        fixed = v.fixed;
        values = v.values;
        is = v.is;
        bytes = m ∙ ap (λ (z : List ℕ). splice n free z out) q ∙ put-part n free v.values out l ∙ p;
        ends = omega (arith, v.ends);
      }

-- a list of n items of w bytes: its offset, its count, and then the items, with the free place behind them
module _ (x : Writing) (at₀ free₀ : ℕ) (out₀ : List ℕ) (least w : ℕ) (W : Writer) (u : Wides w W) (at free pos n : ℕ) (s out : List ℕ) (i : n ≡ le (part 4 pos s))
    (L : Left x at₀ free₀ out₀ (indirect_w (list_b least w W) at free (drop pos s)) at free out) where
  abbrev list : Writing
  list = headed (part 4 pos s) (items_w w W n (free + 4) (free + (4 + n * w)) (drop (pos + 4) s))

  list_wrote : (F D r : List ℕ) → list_b least w W free (drop pos s) ≡ wrote F D r → (pos + 4 ≤ length s) × (list ≡ wrote F D r)
  unfolding list_b
  list_wrote F D r e =
      let g = grab-wrote pos s F D r _ 4 _ e in
      let b = need-wrote F D r _ _ _ _ g.1 in
      (omega (arith, g.0), rw i b.1)

  list-opened : Left x at₀ free₀ out₀ (placed (free - at) list) at free out
  unfolding indirect_w
  list-opened = opened x at₀ free₀ out₀ _ at free out L _ (placed-opens (free - at) _ list (λ F D r e. (list_wrote F D r e).1))

  list_inside : pos + 4 ≤ length s
  unfolding indirect_w
  list_inside = let p = placed-wrote _ _ _ _ _ L.is in (list_wrote _ _ _ p.2).0

  list-wide : Wide (4 + n * w) list
  list-wide = wide-headed 4 (n * w) (part 4 pos s) _ (length_part 4 pos s list_inside) (wides-items w W u n _ _ _)

  pub list-room : (pos + 4 ≤ length s) × (at + 4 ≤ free) × (free + (4 + n * w) ≤ length out)
  list-room =
      let o = offset-room x at₀ free₀ out₀ list at free out list-opened in
      let p = placed-wrote _ _ _ _ _ list-opened.is in
      let l = wide_is list-wide p.2 in
      (list_inside, o.0, omega (arith, list-opened.room, ap length p.4 ∙ length-append p.0 p.1, l))

  pub list_left : (mid left : List ℕ) (p items end : ℕ) → mid ≡ splice 4 at (bytes_of 4 (free - at)) out → left ≡ splice 4 free (part 4 pos s) mid → p ≡ pos + 4 → items ≡ free + 4 → end ≡ free + (4 + n * w)
      → Left x at₀ free₀ out₀ (items_w w W n items end (drop p s)) items end left
  list_left mid left p items end m l ip ii ie =
      let b = behind-left x at₀ free₀ out₀ list (4 + n * w) (at + 4) free mid (offset-left x at₀ free₀ out₀ list at free out list-opened mid m) list-wide in
      rw (ip, ii, ie) (headed-left x at₀ free₀ out₀ (part 4 pos s) _ 4 free (free + (4 + n * w)) mid left b (length_part 4 pos s list_inside) l)

-- ONE FIELD

module _ (I : InnerW) (sw : ℕ → ℕ) (S : ℕ → Writer) (f : Field) (at free pos : ℕ) (s : List ℕ) where
  abbrev whole : Writing
  whole = field_w I sw S f at free (drop pos s)

  module _ (out : List ℕ) (h : Fits whole at free out) where
    pub field-inside : pos + 2 ≤ length s
    unfolding marked_w
    field-inside = go f.optional refl (same (part 2 pos s) NO) refl
      where
        go : (b : Bool) → f.optional ≡ b → (c : Bool) → same (part 2 pos s) NO ≡ c → pos + 2 ≤ length s
        go false o c e = (due-wrote pos s _ _ _ _ _ (sym (field-required I sw S f at free pos s o) ∙ h.is)).0
        go true o true e = mark-inside pos s NO refl e
        go true o false e = let q = headed-wrote _ _ _ _ _ (sym (field-present I sw S f at free pos s o e) ∙ h.is) in (due-wrote pos s _ _ _ _ _ q.1).0

    module _ (o : f.optional ≡ true) where
      pub absent-room : same (part 2 pos s) NO ≡ true → (w : ℕ) → w ≡ field_width sw f → at + w ≤ length out
      absent-room e w i =
          let r = room_of _ at free out h _ _ _ (field-absent I sw S f at free pos s o e) in
          omega (arith, r.0, r.1, length-replicate {A = ℕ} (value_width sw f) 0, i, width-optional sw f o)

      pub absent-stands : same (part 2 pos s) NO ≡ true → (w : ℕ) → w ≡ field_width sw f → (left : List ℕ) → left ≡ splice w at (replicate w 0) out → Stands whole at free s out left (pos + 2) free
      absent-stands e w i left m =
          let q : w ≡ suc (value_width sw f) = omega (arith, i, width-optional sw f o) in
          in_place _ at free w (pos + 2) (0 ∷ replicate (value_width sw f) 0) s out left (field-absent I sw S f at free pos s o e) (omega (arith, q, length-replicate {A = ℕ} (value_width sw f) 0)) (m ∙ rw q)

      pub present-room : same (part 2 pos s) NO ≡ false → at + 1 ≤ length out
      present-room e =
          let q = headed-wrote _ _ _ _ _ (sym (field-present I sw S f at free pos s o e) ∙ h.is) in
          omega (arith, h.before, h.room, ap length q.2)

      pub present-left : same (part 2 pos s) NO ≡ false → (mid : List ℕ) (place : ℕ) → mid ≡ splice 1 at (1 ∷ []) out → place ≡ at + 1 → Left whole at free out (marked_value_w I sw S f place free (drop pos s)) place free mid
      present-left e mid place m i =
          let L = opened _ at free out _ at free out (begun _ at free out h) _ (same-opens _ _ (field-present I sw S f at free pos s o e)) in
          rw i (headed-left _ at free out (1 ∷ []) _ 1 at free out mid L refl m)

    pub required-left : f.optional ≡ false → (mid : List ℕ) (place : ℕ) → mid ≡ out → place ≡ at → Left whole at free out (marked_value_w I sw S f place free (drop pos s)) place free mid
    required-left o mid place m i = rw (m, i) (opened _ at free out _ at free out (begun _ at free out h) _ (same-opens _ _ (field-required I sw S f at free pos s o)))

-- a list behind its mark
pub list-opens : (I : InnerW) (sw : ℕ → ℕ) (S : ℕ → Writer) (f : Field) (at free pos : ℕ) (s : List ℕ) (k : Kind) → k ≡ f.kind → f.sequence ≡ true → (w : ℕ) → w ≡ kind_width sw k
    → Opens (marked_value_w I sw S f at free (drop pos s)) (indirect_w (list_b 0 w (item_w I S k)) at free (drop (pos + 2) s))
list-opens I sw S f at free pos s k ik e w i F D r q = marked-opens SQ (indirect_w (list_b 0 w (item_w I S k))) at free pos s F D r (sym (value-list I sw S f at free pos s k ik e w i) ∙ q)

-- KINDS, AS THE CODE SEES THEM

module _ (I : InnerW) (S : ℕ → Writer) (es : List (List ℕ)) (kind : FieldKind) (at free : ℕ) (r : List ℕ) where
  pub kind-plain : (w : ℕ) → kind ≡ Plain w → kind_w I S (kind_from es kind) at free r ≡ plain_w w any at free r
  unfolding kind_from kind_w
  kind-plain w e = rw e

  pub kind-number : (sw : ℕ → ℕ) (x : Tested) (w : ℕ) → kind ≡ Number x → w ≡ kind_width sw (tested_kind es x) → (t : Test) × (kind_w I S (kind_from es kind) at free r ≡ plain_w w t at free r)
  unfolding kind_from kind_w
  kind-number sw x w e i = let p = tested-plain sw es x w i in (p.0, rw (e, p.1))

  pub kind-inline : (u : Bool) (c k : ℕ) → kind ≡ Inline u c → k ≡ c → kind_w I S (kind_from es kind) at free r ≡ inline_w u k at free r
  unfolding kind_from kind_w
  kind-inline u c k e i = rw (e, i)

  kind-text : (u : Bool) → kind ≡ Indirect u → kind_w I S (kind_from es kind) at free r ≡ indirect_w (text_b u) at free r
  unfolding kind_from kind_w
  kind-text u e = rw e

  pub kind-fields : (g : ℕ) → kind ≡ Static g → kind_w I S (kind_from es kind) at free r ≡ S g at free r
  unfolding kind_from kind_w
  kind-fields g e = rw e

  pub kind-dynamic : (a : ℕ) → kind ≡ Dynamic a → kind_w I S (kind_from es kind) at free r ≡ indirect_w (inner_b I a) at free r
  unfolding kind_from kind_w
  kind-dynamic a e = rw e

-- a text is a count and so many bytes, behind its mark or with it
text-counted : (u : Bool) (at free pos : ℕ) (s : List ℕ)
    → (k : List ℕ → List ℕ → List ℕ → Writing) × ((c v t : List ℕ) → Opens (k c v t) (wrote (c ++ v) [] t)) × (indirect_w (text_b u) at free (drop pos s) ≡ placed (free - at) (counted (drop pos s) k))
unfolding indirect_w text_b
text-counted u at free pos s = (_, (λ c v t F D r e. (need-wrote F D r _ _ _ _ e).1), refl)

pub text-opens : (I : InnerW) (S : ℕ → Writer) (es : List (List ℕ)) (kind : FieldKind) (at free pos : ℕ) (s : List ℕ) (u : Bool) → kind ≡ Indirect u
    → (k : List ℕ → List ℕ → List ℕ → Writing) × ((c v t : List ℕ) → Opens (k c v t) (wrote (c ++ v) [] t)) × Opens (kind_w I S (kind_from es kind) at free (drop pos s)) (placed (free - at) (counted (drop pos s) k))
text-opens I S es kind at free pos s u i = let x = text-counted u at free pos s in (x.0, x.1, same-opens _ _ (kind-text I S es kind at free (drop pos s) u i ∙ x.2))

pub record-text : (u : Bool) (at free pos : ℕ) (s : List ℕ)
    → (k : List ℕ → List ℕ → List ℕ → Writing) × ((c v t : List ℕ) → Opens (k c v t) (wrote (c ++ v) [] t)) × Opens (text_of u at free (drop pos s)) (placed (free - at) (counted (drop (pos + 2) s) k))
record-text u at free pos s = let x = text-counted u at free (pos + 2) s in (x.0, x.1, λ F D r e. sym x.2 ∙ marked-opens ST (indirect_w (text_b u)) at free pos s F D r e)
