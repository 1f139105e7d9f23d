-- No refusal of a message has the number 0.
use Prim.Native.Nat.{ℕ, zero, suc, ◌+◌, ◌≤◌}
use mathlib.Core.Bool.{Bool, true, false}
use mathlib.Core.List.{List, [], ◌∷◌}
use native.Mathlib.Omega.{arith}
use lib.Dec.{eqb}
use Rattle.wire.specs.Bytes.{part, le}
use Rattle.schema.specs.Faults.{need}
use Rattle.schema.specs.Schema.{Test, Kind, plain, inline, indirect, static, dynamic, Field, Group, kind_width, fields_of, width, known}
use Rattle.settings.specs.declared.Ignored.{Ignored}
use Rattle.message.specs.Sheet.{Mark, XT, mark_bytes, kind_mark, field_mark}
use Rattle.message.specs.Walk.{Here, Reading, refused, done, Reader, Inner, Place, lost, byte, word, prefixed, next, none_r, then_r, marked_r, optional_r, plain_r, inline_r, locate, onward, indirect_r, text_r, inner_r, items_r, list_r, kind_r, value_r, field_r, fields_r, static_r, extending_r, groups_r, extension_r, behind_r, padded, body_r, head_r, group_r, walk}
use Rattle.schema.proofs.Numbered.{in-need, in-cond, in-test}

pub data NumberedR : Reading → Type 0 where
  reads : {s m : List ℕ} → NumberedR (done s m)
  refuses_r : {n p : ℕ} → 1 ≤ n → NumberedR (refused n p)

pub read : (c : Bool) (n p : ℕ) {r : Reading} → 1 ≤ n → NumberedR r → NumberedR (need c (refused n p) r)
read c n p l x = in-need NumberedR c (refuses_r l) x

before : (s : List ℕ) {r : Reading} → NumberedR r → NumberedR (prefixed s r)
unfolding prefixed
before s reads = reads
before s (refuses_r l) = refuses_r l

then : {r : Reading} {f : List ℕ → Reading} → NumberedR r → ((m : List ℕ) → NumberedR (f m)) → NumberedR (next r f)
unfolding next
then (reads {s = s}) g = before s (g _)
then (refuses_r l) g = refuses_r l

closes : (h : Here) {r : Reading} → NumberedR r → NumberedR (padded h r)
unfolding padded
closes h reads = read _ 6 _ (omega arith) reads
closes h (refuses_r l) = refuses_r l

abbrev Reads : Reader → Type 0
Reads R = (h : Here) (at : ℕ) (m : List ℕ) → NumberedR (R h at m)

step : (c : Bool) (n p : ℕ) (x : Place) (h : Here) (inside : ℕ → Reader) → 1 ≤ n → NumberedR (onward x h inside) → NumberedR (onward (need c (lost n p) x) h inside)
unfolding need onward
step true n p x h inside l r = r
step false n p x h inside l r = refuses_r l

leads : (past w : ℕ) (inside : ℕ → Reader) → 1 ≤ past → ((n : ℕ) → Reads (inside n)) → Reads (indirect_r past w inside)
unfolding indirect_r locate onward
leads past w inside l f h at m = step _ 5 _ _ h inside (omega arith) (step _ 26 _ _ h inside (omega arith) (step _ past _ _ h inside l (step _ 27 _ _ h inside (omega arith) (f _ h _ _))))

plain-numbered : (w : ℕ) (t : Test) → Reads (plain_r w t)
unfolding plain_r
plain-numbered w t h at m = in-test NumberedR t _ (λ l. refuses_r l) reads

items : (w : ℕ) (R : Reader) → Reads R → (n : ℕ) → Reads (items_r w R n)
unfolding items_r none_r
items w R f zero h at m = reads
items w R f (suc n) h at m = then (f h at m) (λ m'. items w R f n h (at + w) m')

marked-numbered : (k : Mark) (R : Reader) → Reads R → Reads (marked_r k R)
unfolding marked_r
marked-numbered k R f h at m = before (mark_bytes k) (f h at m)

list : (w : ℕ) (R : Reader) → Reads R → (n : ℕ) → Reads (list_r w R n)
unfolding list_r
list w R f n h p m = before _ (items w R f n h (p + 4) m)

text : (u : Bool) (n : ℕ) → Reads (text_r u n)
unfolding text_r
text u n h p m = read _ 9 _ (omega arith) reads

optional : (k : Mark) (w : ℕ) (R : Reader) → Reads R → Reads (optional_r k w R)
unfolding optional_r
optional k w R f h at m = in-cond NumberedR (eqb (byte at h.bytes) 1) (marked-numbered k R f h (at + 1) m) (read _ 11 _ (omega arith) (read _ 4 _ (omega arith) reads))

module _ (I : Inner) (inner : (n base : ℕ) (b : List ℕ) → NumberedR (I n base b)) where
  nested : (g n : ℕ) → Reads (inner_r I g n)
  unfolding inner_r
  nested g n h p m = then (inner g _ _) (λ _. reads)

  module _ (sw : ℕ → ℕ) (S : ℕ → Reader) (st : (g : ℕ) → Reads (S g)) where
    kind : (k : Kind) → Reads (kind_r I S k)
    unfolding kind_r inline_r
    kind (plain w t) h at m = plain-numbered w t h at m
    kind (inline u c) h at m = read _ 7 _ (omega arith) (read _ 8 _ (omega arith) (read _ 9 _ (omega arith) reads))
    kind (indirect u) h at m = leads 26 1 (text_r u) (omega arith) (text u) h at m
    kind (static g) h at m = st g h at m
    kind (dynamic g) h at m = leads 26 1 (inner_r I g) (omega arith) (nested g) h at m

    value : (f : Field) → Reads (value_r I sw S f)
    unfolding value_r
    value f h at m = in-cond Reads f.sequence (leads 13 (kind_width sw f.kind) _ (omega arith) (list _ _ (marked-numbered (kind_mark f.kind) _ (kind f.kind)))) (kind f.kind) h at m

    field : (f : Field) → Reads (field_r I sw S f)
    unfolding field_r
    field f h at m = in-cond Reads f.optional (optional (field_mark f) _ _ (value f)) (marked-numbered (field_mark f) _ (value f)) h at m

    fields : (fs : List Field) → Reads (fields_r I sw S fs)
    unfolding fields_r none_r then_r
    fields [] h at m = reads
    fields (f ∷ fs) h at m = then (field f h at m) (λ m'. fields fs h _ m')

  module _ (gs : List Group) where
    statics : (d g : ℕ) → Reads (static_r gs I d g)
    unfolding static_r none_r
    statics zero g h at m = reads
    statics (suc d) g h at m = fields (width gs d) (static_r gs I d) (statics d) (fields_of gs g) h at m

    extending : (n : ℕ) → Reads (extending_r gs I n)
    unfolding extending_r
    extending n h p m = read _ 1 _ (omega arith) (in-cond NumberedR (known gs (le (part 8 (p + 4) h.bytes))) (marked-numbered _ _ (nested 0 n) h p m) (marked-numbered _ _ (text false n) h p m))

    groups : (n : ℕ) → Reads (groups_r gs I n)
    unfolding groups_r
    groups n h p m = in-cond NumberedR (eqb n 0) reads (marked-numbered XT _ (list 4 _ (leads 26 1 (extending_r gs I) (omega arith) extending) n) h p m)

    extension : Reads (extension_r gs I)
    unfolding extension_r
    extension h at m = in-cond NumberedR (eqb (word at h.bytes) 0) reads (leads 13 4 (groups_r gs I) (omega arith) groups h at m)

group : (x : Ignored) (gs : List Group) (l n base : ℕ) (b : List ℕ) → NumberedR (group_r x gs l n base b)
unfolding group_r head_r body_r behind_r
group x gs zero n base b = read _ 1 _ (omega arith) (read _ 2 _ (omega arith) (read _ 25 _ (omega arith) (refuses_r (omega arith))))
group x gs (suc l) n base b = read _ 1 _ (omega arith) (read _ 2 _ (omega arith) (read _ 25 _ (omega arith) (read _ 14 _ (omega arith)
    (closes _ (before _ (then (read _ 3 _ (omega arith) (then (statics (group_r x gs l) (group x gs l) gs 5 _ _ _ _) (λ m. extension (group_r x gs l) (group x gs l) gs _ _ m))) (λ m. reads)))))))

pub message : (x : Ignored) (gs : List Group) (b : List ℕ) → NumberedR (walk x gs b)
unfolding walk
message x gs b = read _ 22 _ (omega arith) (before _ (group x gs 8 0 0 b))
