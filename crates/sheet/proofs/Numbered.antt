-- No refusal of a sheet has the number 0.
use Prim.Native.Nat.{ℕ, zero, suc, ◌+◌, ◌≤◌}
use mathlib.Core.Bool.{Bool}
use mathlib.Core.List.{List, [], ◌∷◌}
use native.Mathlib.Omega.{arith}
use lib.ListN.{length, take}
use Rattle.wire.specs.Bytes.{le, same}
use Rattle.schema.specs.Faults.{need}
use Rattle.schema.specs.Schema.{Kind, plain, inline, indirect, static, dynamic, Field, Group, fields_of, width}
use Rattle.message.specs.Sheet.{Mark, NO, XT, XU, mark_bytes, kind_mark, field_mark}
use Rattle.sheet.specs.Written.{Writing, stopped, wrote, Writer, InnerW, Body, headed, joined, next_w, placed, grab, due, none_w, then_w, marked_w, optional_w, plain_w, counted, inline_w, indirect_w, text_b, inner_b, items_w, list_b, kind_w, value_w, field_w, fields_w, static_w, extending_b, extension_w, swapped, back_w, behind_w, closed, body_w, head_w, group_w, ended, sheet_w, fitted, written}
use Rattle.schema.proofs.Numbered.{in-need, in-cond, in-test}

pub data NumberedW : Writing → Type 0 where
  writes : {F D r : List ℕ} → NumberedW (wrote F D r)
  stops : {n p : ℕ} → 1 ≤ n → NumberedW (stopped n p)

pub write : (c : Bool) (n p : ℕ) {x : Writing} → 1 ≤ n → NumberedW x → NumberedW (need c (stopped n p) x)
write c n p l x = in-need NumberedW c (stops l) x

heads : (c : List ℕ) {x : Writing} → NumberedW x → NumberedW (headed c x)
unfolding headed
heads c writes = writes
heads c (stops l) = stops l

joins : (F D : List ℕ) {x : Writing} → NumberedW x → NumberedW (joined F D x)
unfolding joined
joins F D writes = writes
joins F D (stops l) = stops l

follows : {x : Writing} {k : List ℕ → List ℕ → Writing} → NumberedW x → ((D r : List ℕ) → NumberedW (k D r)) → NumberedW (next_w x k)
unfolding next_w
follows (writes {F = F} {D = D} {r = r}) f = joins F D (f D r)
follows (stops l) f = stops l

places : (o : ℕ) {x : Writing} → NumberedW x → NumberedW (placed o x)
unfolding placed
places o writes = writes
places o (stops l) = stops l

takes : (o n : ℕ) (s : List ℕ) {k : List ℕ → List ℕ → Writing} → ((x r : List ℕ) → NumberedW (k x r)) → NumberedW (grab o n s k)
unfolding grab
takes o n s f = write _ 40 _ (omega arith) (f _ _)

dues : (k s : List ℕ) {f : List ℕ → Writing} → ((r : List ℕ) → NumberedW (f r)) → NumberedW (due k s f)
unfolding due
dues k s g = takes _ 2 s (λ x r. write _ 41 _ (omega arith) (g r))

counts : (s : List ℕ) {k : List ℕ → List ℕ → List ℕ → Writing} → ((c v r : List ℕ) → NumberedW (k c v r)) → NumberedW (counted s k)
unfolding counted
counts s f = takes _ 4 s (λ c r. takes _ _ r (λ v r'. f c v r'))

abbrev Writes : Writer → Type 0
Writes W = (at fr : ℕ) (s : List ℕ) → NumberedW (W at fr s)

abbrev Bodies : Body → Type 0
Bodies B = (p : ℕ) (s : List ℕ) → NumberedW (B p s)

offset : (B : Body) → Bodies B → Writes (indirect_w B)
unfolding indirect_w
offset B f at fr s = places _ (f fr s)

markedw : (k : Mark) (W : Writer) → Writes W → Writes (marked_w k W)
unfolding marked_w
markedw k W f at fr s = dues (mark_bytes k) s (λ r. f at fr r)

optionalw : (k : Mark) (w : ℕ) (W : Writer) → Writes W → Writes (optional_w k w W)
unfolding optional_w
optionalw k w W f at fr s = in-cond NumberedW (same (take 2 s) NO) writes (heads _ (markedw k W f (at + 1) fr s))

itemsw : (w : ℕ) (W : Writer) → Writes W → (n : ℕ) → Writes (items_w w W n)
unfolding items_w none_w
itemsw w W f zero at fr s = writes
itemsw w W f (suc n) at fr s = follows (f at fr s) (λ D r. itemsw w W f n _ _ r)

listw : (z w : ℕ) (W : Writer) → Writes W → Bodies (list_b z w W)
unfolding list_b
listw z w W f p s = takes _ 4 s (λ c r. write _ 44 _ (omega arith) (heads c (itemsw w W f (le c) _ _ r)))

module _ (I : InnerW) (inner : (n : ℕ) (s : List ℕ) → NumberedW (I n s)) where
  module _ (sw : ℕ → ℕ) (S : ℕ → Writer) (st : (g : ℕ) → Writes (S g)) where
    kindw : (k : Kind) → Writes (kind_w I S k)
    unfolding kind_w plain_w inline_w text_b inner_b
    kindw (plain w t) at fr s = takes _ w s (λ v r. in-test NumberedW t v (λ l. stops l) writes)
    kindw (inline u c) at fr s = counts s (λ x v r. write _ 7 _ (omega arith) (write _ 9 _ (omega arith) writes))
    kindw (indirect u) at fr s = offset (text_b u) (λ p s. counts s (λ c v r. write _ 9 _ (omega arith) writes)) at fr s
    kindw (static g) at fr s = st g at fr s
    kindw (dynamic g) at fr s = offset (inner_b I g) (λ p s. inner g s) at fr s

    valuew : (f : Field) → Writes (value_w I sw S f)
    unfolding value_w
    valuew f at fr s = in-cond Writes f.sequence (offset _ (listw 0 _ _ (markedw (kind_mark f.kind) _ (kindw f.kind)))) (kindw f.kind) at fr s

    fieldw : (f : Field) → Writes (field_w I sw S f)
    unfolding field_w
    fieldw f at fr s = in-cond Writes f.optional (optionalw (field_mark f) _ _ (valuew f)) (markedw (field_mark f) _ (valuew f)) at fr s

    fieldsw : (fs : List Field) → Writes (fields_w I sw S fs)
    unfolding fields_w none_w then_w
    fieldsw [] at fr s = writes
    fieldsw (f ∷ fs) at fr s = follows (fieldw f at fr s) (λ D r. fieldsw fs _ _ r)

  module _ (gs : List Group) where
    staticsw : (d g : ℕ) → Writes (static_w gs I d g)
    unfolding static_w none_w
    staticsw zero g at fr s = writes
    staticsw (suc d) g at fr s = fieldsw (width gs d) (static_w gs I d) (staticsw d) (fields_of gs g) at fr s

    extendingw : Bodies (extending_b gs I)
    unfolding extending_b
    extendingw p s = in-cond NumberedW (same (take 2 s) (mark_bytes XU))
        (dues _ s (λ r. counts r (λ c v r'. write _ 1 _ (omega arith) (write _ 45 _ (omega arith) writes)))) (dues _ s (λ r. inner 0 r))

    extensionw : Writes (extension_w gs I)
    unfolding extension_w
    extensionw at fr s = in-cond NumberedW (same (take 2 s) (mark_bytes XT)) (dues _ s (λ r. offset _ (listw 1 4 _ (offset _ extendingw)) at fr r)) writes

swaps : (F D : List ℕ) {x : Writing} → NumberedW x → NumberedW (swapped F D x)
unfolding swapped
swaps F D writes = writes
swaps F D (stops l) = stops l

behinds : {x : Writing} {k : List ℕ → List ℕ → Writing} → NumberedW x → ((D r : List ℕ) → NumberedW (k D r)) → NumberedW (back_w x k)
unfolding back_w
behinds (writes {F = F} {D = D} {r = r}) f = swaps F D (f D r)
behinds (stops l) f = stops l

closesw : (id : List ℕ) {x : Writing} → NumberedW x → NumberedW (closed id x)
unfolding closed
closesw id (writes {r = r}) = dues _ r (λ r'. writes)
closesw id (stops l) = stops l

groupw : (gs : List Group) (l n : ℕ) (s : List ℕ) → NumberedW (group_w gs l n s)
unfolding group_w head_w body_w behind_w
groupw gs zero n s = takes _ 8 s (λ id r. write _ 2 _ (omega arith) (write _ 25 _ (omega arith) (stops (omega arith))))
groupw gs (suc l) n s = takes _ 8 s (λ id r. write _ 2 _ (omega arith) (write _ 25 _ (omega arith)
    (closesw id (behinds (staticsw (group_w gs l) (groupw gs l) gs 5 _ _ _ r) (λ D r'. extensionw (group_w gs l) (groupw gs l) gs _ _ r')))))

ends : (n : ℕ) {x : Writing} → NumberedW x → NumberedW (ended n x)
unfolding ended
ends n writes = write _ 43 _ (omega arith) writes
ends n (stops l) = stops l

fits : (room : ℕ) {x : Writing} → NumberedW x → NumberedW (fitted room x)
unfolding fitted
fits room writes = write _ 47 _ (omega arith) writes
fits room (stops l) = stops l

pub sheet : (gs : List Group) (room : ℕ) (s : List ℕ) → NumberedW (written gs room s)
unfolding written sheet_w
sheet gs room s = fits room (write _ 42 _ (omega arith) (ends (length s) (dues _ s (λ r. groupw gs 8 0 r))))
