-- Fields, sequences and items: each way through them.
use Rattle.std.proofs.Common.{Err}
use mathlib.Core.Path.{◌≡◌, refl, sym, ap, ◌∙◌}
use mathlib.Core.Bool.{Bool, true, false, ◌&&◌}
use mathlib.Core.List.{List, [], ◌∷◌, ◌++◌}
use Prim.Native.Nat.{ℕ, ◌+◌, ◌-◌, ◌*◌, ◌<◌, ◌≤◌}
use native.Mathlib.Omega.{arith}
use lib.ListN.{length, drop, replicate, length-append}
use lib.Dec.{leb}
use borrow.Author.Tests.{le-leb, lt-leb}
use Rattle.wire.specs.Bytes.{part, le, same}
use Rattle.wire.proofs.Laws.{length_part}
use Rattle.schema.specs.Faults.{judged, need}
use Rattle.schema.specs.declared.Fault.{Fault}
use Rattle.schema.specs.Schema.{Kind, inline, Field, kind_width, value_width}
use Rattle.schema.specs.FieldKinds.{kind_from, tested_kind}
use Rattle.schema.specs.declared.FieldKind.{FieldKind}
use Rattle.schema.specs.declared.FieldKind.TheVariants.{Plain, Number, Inline, Indirect, Static, Dynamic}
use Rattle.schema.specs.declared.Tested.{Tested}
use Rattle.schema.proofs.Depth.{and_both}
use Rattle.message.specs.Sheet.{Mark, SG, SQ, GB, mark_bytes, NO, kind_mark}
use Rattle.message.proofs.Tests.{true-false}
use Rattle.sheet.specs.Written.{Writing, stopped, Writer, InnerW, headed, placed, grab, due, marked_w, indirect_w, inner_b, items_w, list_b, kind_w, field_w}
use Rattle.sheet.specs.Writers.{item_w, marked_value_w, plain_of, text_of}
use Rattle.sheet.proofs.Match.{said_w, unsaid_w}
use Rattle.sheet.proofs.Writers.{mark-inside, field-required, field-absent, field-present, value-list}
use Rattle.sheet.proofs.Widths.{Wide, Wides, wides-items, wides-marked, wides-kind}
use Rattle.parsing.specs.Count.{Count, count, capped, after}
use Rattle.parsing.specs.Parse.{passed, refused, Counts, Finds, record_fault, Ready}
use Rattle.parsing.proofs.Answers.{refuses, stays, capped-more, count-as, after-headed}
use Rattle.parsing.proofs.Records.{halts, record-inside, record-good, record-bad, mark-good, mark-bad, at_mark, behind-mark}
use Rattle.parsing.proofs.Values.{marked-indirect}

-- A LIST IN THE DATA AREA

-- its count and its items' bytes in place, and then what hangs on them
list-after : (N d e o m : ℕ) (c : List ℕ) (x : Writing) → length c ≡ 4 → Wide m x → e ≡ capped (d + (4 + m))
    → after d (count N (placed o (headed c x))) ≡ after e (count N x)
unfolding after count placed headed
list-after N d e o m c x l unsaid_w q = refl
list-after N d e o m c x l (said_w {F = F} {D = D} {r = r} p) q =
    let h : capped (d + length ((c ++ F) ++ D)) ≡ capped (e + length D) =
    rw (q, capped-more) (ap capped (omega (arith, length-append (c ++ F) D, length-append c F, l, p))) in
    rw h

module _ (s : List ℕ) (pos d : ℕ) (R : Ready s pos d) (k : Mark) (least w : ℕ) (W : Writer) where
  abbrev list : ℕ → List ℕ → List ℕ → List ℕ → Writing
  list p r c r' = need (leb least (le c)) (stopped 44 (2 + length r)) (headed c (items_w w W (le c) (p + 4) (p + (4 + le c * w)) r'))

  list-is : (at fr : ℕ) → marked_w k (indirect_w (list_b least w W)) at fr (drop pos s) ≡ placed (fr - at) (due (mark_bytes k) (drop pos s) (λ r. grab (2 + length r) 4 r (list fr r)))
  unfolding list_b
  list-is at fr = marked-indirect k (list_b least w W) at fr (drop pos s)

  pub list-bad : (f : Fault) → Err f ≡ judged (record_fault (mark_bytes k) 4 (drop pos s)) pos → Finds s d (marked_w k (indirect_w (list_b least w W))) pos (Err f)
  unfolding placed
  list-bad = halts s pos d (marked_w k (indirect_w (list_b least w W))) _ _ (λ z at fr. list-is at fr ∙ ap (placed (fr - at)) (record-bad s pos R.inside _ 4 (list fr) z)) (at_mark s pos R.inside)

  module _ (z : record_fault (mark_bytes k) 4 (drop pos s) ≡ 0) (n : ℕ) (ic : n ≡ le (part 4 (pos + 2) s)) where
    list_at : (at fr : ℕ) → marked_w k (indirect_w (list_b least w W)) at fr (drop pos s)
        ≡ placed (fr - at) (need (leb least n) (stopped 44 (2 + length (drop (pos + 2) s))) (headed (part 4 (pos + 2) s) (items_w w W n (fr + 4) (fr + (4 + n * w)) (drop (pos + 6) s))))
    list_at at fr = list-is at fr ∙ ap (placed (fr - at)) (record-good s pos R.inside _ 4 (list fr) z ∙ rw (← ic))

    list_inside : pos + 6 ≤ length s
    list_inside = record-inside s pos R.inside _ 4 z

    pub list-empty : n < least → Finds s d (marked_w k (indirect_w (list_b least w W))) pos (refused 44 pos)
    unfolding placed need
    list-empty l at fr = refuses s d _ 44 pos _ (list_at at fr ∙ rw (lt-leb least n l)) (behind-mark s pos (omega (arith, list_inside)))

    pub list-good : least ≤ n → Wides w W → (e : ℕ) → e ≡ capped (d + (4 + n * w)) → (c : Count) → Counts s e (items_w w W n) (pos + 6) c → Counts s d (marked_w k (indirect_w (list_b least w W))) pos c
    unfolding need
    list-good l A e q c g at fr =
        count-as _ _ (list_at at fr ∙ rw (le-leb least n l)) (g (fr + 4) (fr + (4 + n * w))
        ∙ sym (list-after (length s) d e (fr - at) (n * w) (part 4 (pos + 2) s) _ (length_part 4 (pos + 2) s (omega (arith, list_inside))) (wides-items w W A n (fr + 4) (fr + (4 + n * w)) (drop (pos + 6) s)) q))

-- ONE FIELD

module _ (s : List ℕ) (pos d : ℕ) (I : InnerW) (sw : ℕ → ℕ) (S : ℕ → Writer) (f : Field) where
  -- whether it is absent
  module _ (b : Bool) (ib : b ≡ f.optional && same (part 2 pos s) NO) where
    pub absent-passes : b ≡ true → Ready s pos d → Finds s d (field_w I sw S f) pos (passed (pos + 2) d)
    absent-passes z R at fr =
        let h = and_both f.optional (same (part 2 pos s) NO) (sym ib ∙ z) in
        stays s d _ (pos + 2) (0 ∷ replicate (value_width sw f) 0) (field-absent I sw S f at fr pos s h.0 h.1) (mark-inside pos s NO refl h.1) R.low

    pub field-there : b ≡ false → (c : Count) → Counts s d (marked_value_w I sw S f) pos c → Counts s d (field_w I sw S f) pos c
    field-there z c g = go f.optional (same (part 2 pos s) NO) refl refl (sym ib ∙ z)
      where
        go : (o m : Bool) → f.optional ≡ o → same (part 2 pos s) NO ≡ m → f.optional && same (part 2 pos s) NO ≡ false → Counts s d (field_w I sw S f) pos c
        go false m p q e at fr = count-as _ _ (field-required I sw S f at fr pos s p) (g at fr)
        go true true p q e at fr = absurd (true-false _ (rw (p, q) refl) e)
        go true false p q e at fr = count-as _ _ (field-present I sw S f at fr pos s p q) (g (at + 1) fr ∙ sym (after-headed (length s) d (1 ∷ []) _))

  module _ (x : Kind) (ix : x ≡ f.kind) (e : f.sequence ≡ true) (R : Ready s pos d) where
    pub sequence-bad : (g : Fault) → Err g ≡ judged (record_fault (mark_bytes SQ) 4 (drop pos s)) pos → Finds s d (marked_value_w I sw S f) pos (Err g)
    sequence-bad g z at fr = count-as _ _ (value-list I sw S f at fr pos s x ix e _ refl) (list-bad s pos d R SQ 0 (kind_width sw x) (item_w I S x) g z at fr)

    pub sequence-good : record_fault (mark_bytes SQ) 4 (drop pos s) ≡ 0 → ((g : ℕ) → Wides (sw g) (S g)) → (n w t : ℕ) → n ≡ le (part 4 (pos + 2) s) → w ≡ kind_width sw x → t ≡ capped (d + (4 + n * w))
        → (c : Count) → Counts s t (items_w w (item_w I S x) n) (pos + 6) c → Counts s d (marked_value_w I sw S f) pos c
    sequence-good z A n w t ic iw q c g at fr =
        let u : Wides w (item_w I S x) = rw iw (wides-marked (kind_mark x) (kind_width sw x) (kind_w I S x) (wides-kind I sw S A x)) in
        count-as _ _ (value-list I sw S f at fr pos s x ix e w iw) (list-good s pos d R SQ 0 w (item_w I S x) z n ic (omega arith) u t q c g at fr)

-- KINDS, AS THE CODE SEES THEM

module _ (s : List ℕ) (pos d : ℕ) (I : InnerW) (S : ℕ → Writer) (es : List (List ℕ)) (kind : FieldKind) (c : Count) where
  pub item-plain : (w : ℕ) → kind ≡ Plain w → Counts s d (plain_of w) pos c → Counts s d (item_w I S (kind_from es kind)) pos c
  unfolding kind_from kind_mark kind_w
  item-plain w e g = rw e g

  pub item-number : (T : Tested) → kind ≡ Number T → Counts s d (item_w I S (tested_kind es T)) pos c → Counts s d (item_w I S (kind_from es kind)) pos c
  unfolding kind_from
  item-number T e g = rw e g

  pub item-inline : (u : Bool) (k : ℕ) → kind ≡ Inline u k → Counts s d (item_w I S (inline u k)) pos c → Counts s d (item_w I S (kind_from es kind)) pos c
  unfolding kind_from
  item-inline u k e g = rw e g

  pub item-indirect : (u : Bool) → kind ≡ Indirect u → Counts s d (text_of u) pos c → Counts s d (item_w I S (kind_from es kind)) pos c
  unfolding kind_from kind_mark kind_w
  item-indirect u e g = rw e g

  pub item-dynamic : (a : ℕ) → kind ≡ Dynamic a → Counts s d (marked_w GB (indirect_w (inner_b I a))) pos c → Counts s d (item_w I S (kind_from es kind)) pos c
  unfolding kind_from kind_mark kind_w
  item-dynamic a e g = rw e g

module _ (s : List ℕ) (pos d : ℕ) (R : Ready s pos d) (I : InnerW) (S : ℕ → Writer) (es : List (List ℕ)) (kind : FieldKind) (g : ℕ) (e : kind ≡ Static g) where
  static-is : (at fr : ℕ) → item_w I S (kind_from es kind) at fr (drop pos s) ≡ due (mark_bytes SG) (drop pos s) (λ r. S g at fr r)
  unfolding kind_from kind_mark kind_w marked_w
  static-is at fr = rw e

  pub static-bad : (f : Fault) → Err f ≡ judged (record_fault (mark_bytes SG) 0 (drop pos s)) pos → Finds s d (item_w I S (kind_from es kind)) pos (Err f)
  static-bad = halts s pos d (item_w I S (kind_from es kind)) _ _ (λ z at fr. static-is at fr ∙ mark-bad s pos R.inside _ (λ r. S g at fr r) z) (at_mark s pos R.inside)

  pub static-good : record_fault (mark_bytes SG) 0 (drop pos s) ≡ 0 → (c : Count) → Counts s d (S g) (pos + 2) c → Counts s d (item_w I S (kind_from es kind)) pos c
  static-good z c h at fr = count-as _ _ (static-is at fr ∙ mark-good s pos R.inside _ (λ r. S g at fr r) z) (h at fr)
