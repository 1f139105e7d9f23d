-- The writers, for the code that reads a sheet: each is opened to those that it is made of.
use mathlib.Core.Path.{◌≡◌, refl, ap, ◌∙◌}
use mathlib.Core.Bool.{Bool, true, false}
use mathlib.Core.List.{List, [], ◌∷◌, ◌++◌, append-nil}
use Prim.Native.Nat.{ℕ, zero, suc, ◌+◌, ◌-◌, ◌<◌, ◌≤◌}
use native.Mathlib.Omega.{arith}
use native.Mathlib.Nat.{sub-zero}
use lib.ListN.{length, drop, get_or, replicate, length-take, length-drop}
use lib.Seq.{drop-drop}
use Rattle.wire.specs.Bytes.{part, bytes_of, same}
use Rattle.wire.proofs.Laws.{same-eq}
use Rattle.schema.specs.Schema.{Test, flag, below, symbol, Kind, plain, Field, kind_width, value_width, fields_of, width}
use Rattle.schema.specs.Table.{fields_at, field_count, enums, schema}
use Rattle.schema.specs.Layout.{group_place, Layout}
use Rattle.schema.specs.FieldKinds.{kind_from, tested_kind, plain_field}
use Rattle.schema.specs.declared.FieldKind.{FieldKind}
use Rattle.schema.specs.declared.FieldKind.TheVariants.{Plain, Indirect}
use Rattle.schema.specs.declared.Tested.{Tested}
use Rattle.schema.specs.declared.Tested.TheVariants.{Flag, Millis, Nanos, Symbol}
use Rattle.schema.proofs.Groups.{placed-fields}
use Rattle.message.specs.Sheet.{SQ, NO, kind_mark, field_mark}
use Rattle.sheet.specs.Written.{Writing, stopped, wrote, Writer, InnerW, headed, joined, next_w, placed, none_w, marked_w, optional_w, indirect_w, items_w, list_b, kind_w, value_w, field_w, fields_w, static_w}
use Rattle.sheet.specs.Writers.{item_w, marked_value_w, plain_of, text_of}

-- a mark that stands there has its two bytes
pub mark-inside : (pos : ℕ) (s k : List ℕ) → length k ≡ 2 → same (part 2 pos s) k ≡ true → pos + 2 ≤ length s
mark-inside pos s k l e = let q = simp (length-take, length-drop) at (ap length (same-eq (part 2 pos s) k e) ∙ l) in omega (arith, q)

-- what stands behind an offset
pub placed-wrote : (o : ℕ) (x : Writing) (F D r : List ℕ) → placed o x ≡ wrote F D r → (X : List ℕ) × (Y : List ℕ) × (x ≡ wrote X Y r) × (F ≡ bytes_of 4 o) × (D ≡ X ++ Y)
unfolding placed
placed-wrote o (stopped n p) F D r e = absurd (let z : ◌≡◌ {A = ℕ} 0 1 = cc in omega arith)
placed-wrote o (wrote X Y t) F D r e = (X, Y, cc, cc, cc)

-- ONE ITEM, ONE FIELD

-- nothing behind a writing
next-none : (x : Writing) → next_w x (λ D r. wrote [] [] r) ≡ x
unfolding next_w joined
next-none (stopped n p) = refl
next-none (wrote F D r) = rw (append-nil F, append-nil D)

-- one item is what writes it
pub items-one : (w : ℕ) (W : Writer) (at fr : ℕ) (s : List ℕ) → items_w w W 1 at fr s ≡ W at fr s
unfolding items_w none_w
items-one w W at fr s = next-none (W at fr s)

module _ (I : InnerW) (sw : ℕ → ℕ) (S : ℕ → Writer) (f : Field) (at fr pos : ℕ) (s : List ℕ) where
  pub field-required : f.optional ≡ false → field_w I sw S f at fr (drop pos s) ≡ marked_value_w I sw S f at fr (drop pos s)
  unfolding field_w field_mark value_w
  field-required e = rw e

  field-optional : f.optional ≡ true → field_w I sw S f at fr (drop pos s) ≡ optional_w (field_mark f) (value_width sw f) (value_w I sw S f) at fr (drop pos s)
  unfolding field_w field_mark value_w value_width
  field-optional e = rw e

  pub field-absent : f.optional ≡ true → same (part 2 pos s) NO ≡ true → field_w I sw S f at fr (drop pos s) ≡ wrote (0 ∷ replicate (value_width sw f) 0) [] (drop (pos + 2) s)
  unfolding optional_w
  field-absent o e = field-optional o ∙ rw (e, drop-drop 2 pos s)

  pub field-present : f.optional ≡ true → same (part 2 pos s) NO ≡ false → field_w I sw S f at fr (drop pos s) ≡ headed (1 ∷ []) (marked_value_w I sw S f (at + 1) fr (drop pos s))
  unfolding optional_w
  field-present o e = field-optional o ∙ rw e

  -- a required value without a test
  pub field_plain : (x w : ℕ) → f ≡ plain_field x w → field_w I sw S f at fr (drop pos s) ≡ plain_of w at fr (drop pos s)
  unfolding field_w value_w kind_w field_mark kind_mark
  field_plain x w e = rw e

  module _ (k : Kind) (ik : k ≡ f.kind) where
    pub value-one : f.sequence ≡ false → marked_value_w I sw S f at fr (drop pos s) ≡ item_w I S k at fr (drop pos s)
    unfolding value_w field_mark
    value-one e = rw (e, ik)

    pub value-list : f.sequence ≡ true → (w : ℕ) → w ≡ kind_width sw k → marked_value_w I sw S f at fr (drop pos s) ≡ marked_w SQ (indirect_w (list_b 0 w (item_w I S k))) at fr (drop pos s)
    unfolding value_w field_mark
    value-list e w i = rw (e, i, ik)

-- KINDS, AS THE CODE SEES THEM

-- a tested number is a plain one with its test
pub tested-plain : (sw : ℕ → ℕ) (es : List (List ℕ)) (x : Tested) (w : ℕ) → w ≡ kind_width sw (tested_kind es x) → (t : Test) × (tested_kind es x ≡ plain w t)
unfolding tested_kind kind_width
tested-plain sw es Flag w i = (flag, rw i)
tested-plain sw es Millis w i = (below 86400000, rw i)
tested-plain sw es Nanos w i = (below 86400000000000, rw i)
tested-plain sw es (Symbol y) w i = (symbol (get_or es y []), rw i)

module _ (I : InnerW) (sw : ℕ → ℕ) (S : ℕ → Writer) (es : List (List ℕ)) (kind : FieldKind) (w n at fr : ℕ) (s : List ℕ) (i : w ≡ kind_width sw (kind_from es kind)) where
  pub items-plain : (c : ℕ) → kind ≡ Plain c → items_w w (item_w I S (kind_from es kind)) n at fr s ≡ items_w c (plain_of c) n at fr s
  unfolding kind_from kind_width kind_mark kind_w
  items-plain c e = let q : w ≡ c = i ∙ rw e in rw (q, e)

  pub items-text : (u : Bool) → kind ≡ Indirect u → items_w w (item_w I S (kind_from es kind)) n at fr s ≡ items_w 4 (text_of u) n at fr s
  unfolding kind_from kind_width kind_mark kind_w
  items-text u e = let q : w ≡ 4 = i ∙ rw e in rw (q, e)

-- THE FIELDS OF A STATIC GROUP, WHERE THEIR RECORDS STAND

pub start-static : (t k : List ℕ) (P : Layout t k) (g : ℕ) → g < length (schema t) → (p n : ℕ) → p ≡ group_place k g → n ≡ field_count (drop p t) → (d : ℕ) → 0 < d → (I : InnerW) (at fr : ℕ) (s : List ℕ)
    → static_w (schema t) I d g at fr s ≡ fields_w I (width (schema t) (d - 1)) (static_w (schema t) I (d - 1)) (fields_at (enums t) (n - 0) (drop (p + 16) t)) at fr s
unfolding static_w
start-static t k P g h p n ip in' zero z I at fr s = absurd (omega arith)
start-static t k P g h p n ip in' (suc d) z I at fr s =
    let e : fields_of (schema t) g ≡ fields_at (enums t) (n - 0) (drop (p + 16) t) = placed-fields t k _ P.placed g h ∙ rw (sub-zero, in', ip) in
    let o : suc d - 1 ≡ d = omega arith in
    rw (o, e)
