-- Laws of the walk's count, for code that reads a message and writes no sheet: each way to join readers, and one turn of each loop.
use Rattle.std.proofs.Common.{◌≡◌, ℕ, suc, ◌+◌, ◌≤◌, List, [], ◌∷◌, length, sym, refl, ◌∙◌, append-nil, add-zero, add_assoc, zero-add, length-append}
use Rattle.wire.specs.Bytes.{part}
use Rattle.wire.proofs.Laws.{length_part}
use Rattle.schema.specs.Schema.{Field, field_width}
use Rattle.message.specs.Sheet.{Mark, VA, ST, SG, SQ, GB, XT, XU, mark_bytes}
use Rattle.message.specs.Walk.{Reading, refused, done, prefixed, next, Here, Reader, Inner, lost, found, locate, onward, none_r, then_r, marked_r, indirect_r, inner_r, items_r, list_r, field_r, fields_r}
use Rattle.message.specs.Count.{Count, failed, counted, count, more, and_then}

-- LENGTHS

pub more-zero : (c : Count) → more 0 c ≡ c
unfolding more
more-zero (failed n p) = refl
more-zero (counted k m) = rw zero-add

pub more-more : (j k : ℕ) (c : Count) → more j (more k c) ≡ more (j + k) c
unfolding more
more-more j k (failed n p) = refl
more-more j k (counted i m) = rw add_assoc

pub more-then : (k : ℕ) (c : Count) (f : List ℕ → Count) → more k (and_then c f) ≡ and_then (more k c) f
unfolding more and_then
more-then k (failed n p) f = refl
more-then k (counted j m) f = more-more k j (f m)

pub then-then : (c : Count) (f g : List ℕ → Count) → and_then (and_then c f) g ≡ and_then c (λ m. and_then (f m) g)
unfolding and_then
then-then (failed n p) f g = refl
then-then (counted k m) f g = sym (more-then k (f m) g)

-- a step that passed, and one that did not
pub then-passed : (c : Count) (k : ℕ) (m : List ℕ) (f : List ℕ → Count) → c ≡ counted k m → and_then c f ≡ more k (f m)
unfolding and_then
then-passed c k m f e = rw e

pub then-nothing : (c : Count) → and_then c (λ m. counted 0 m) ≡ c
unfolding and_then more
then-nothing (failed n p) = refl
then-nothing (counted k m) = rw add-zero

-- READINGS

pub count-prefixed : (s : List ℕ) (r : Reading) → count (prefixed s r) ≡ more (length s) (count r)
unfolding count prefixed more
count-prefixed s (refused n p) = refl
count-prefixed s (done t m) = rw length-append

pub count_next : (r : Reading) (f : List ℕ → Reading) → count (next r f) ≡ and_then (count r) (λ m. count (f m))
unfolding count next and_then
count_next (refused n p) f = refl
count_next (done s m) f = count-prefixed s (f m)

-- nothing behind a reading
next-nothing : (r : Reading) → next r (λ m. done [] m) ≡ r
unfolding next prefixed
next-nothing (refused n p) = refl
next-nothing (done s m) = rw append-nil

pub length-mark : (k : Mark) → length (mark_bytes k) ≡ 2
unfolding mark_bytes
length-mark VA = refl
length-mark ST = refl
length-mark SG = refl
length-mark SQ = refl
length-mark GB = refl
length-mark XT = refl
length-mark XU = refl

-- READERS

module _ (h : Here) (at : ℕ) (m : List ℕ) where
  pub count_none : count (none_r h at m) ≡ counted 0 m
  unfolding count none_r
  count_none = refl

  pub count-marked : (k : Mark) (R : Reader) → count (marked_r k R h at m) ≡ more 2 (count (R h at m))
  unfolding marked_r
  count-marked k R = count-prefixed (mark_bytes k) (R h at m) ∙ rw (length-mark k)

  pub count-list : (w : ℕ) (R : Reader) (n : ℕ) → at + 4 ≤ length h.bytes → count (list_r w R n h at m) ≡ more 4 (count (items_r w R n h (at + 4) m))
  unfolding list_r
  count-list w R n l = count-prefixed (part 4 at h.bytes) (items_r w R n h (at + 4) m) ∙ rw (length_part 4 at h.bytes l)

  pub count-inner : (I : Inner) (g n : ℕ)
      → count (inner_r I g n h at m) ≡ and_then (count (I g (h.base + at) (part (4 + n) at h.bytes))) (λ _. counted 0 m)
  unfolding inner_r count
  count-inner I g n = count_next (I g (h.base + at) (part (4 + n) at h.bytes)) (λ _. done [] m)

  -- where an offset leads nowhere, and where it leads to a value
  pub count-lost : (past w : ℕ) (inside : ℕ → Reader) (n p : ℕ) → locate past w h at m ≡ lost n p → count (indirect_r past w inside h at m) ≡ failed n p
  unfolding indirect_r onward count
  count-lost past w inside n p e = rw e

  pub count-found : (past w : ℕ) (inside : ℕ → Reader) (p n : ℕ) (m' : List ℕ) → locate past w h at m ≡ found p n m'
      → count (indirect_r past w inside h at m) ≡ count (inside n h p m')
  unfolding indirect_r onward
  count-found past w inside p n m' e = rw e

  -- one item is what reads it
  pub items-one : (w : ℕ) (R : Reader) → items_r w R 1 h at m ≡ R h at m
  unfolding items_r none_r
  items-one w R = next-nothing (R h at m)

  -- one turn of each loop: what is left
  pub count-items : (w : ℕ) (R : Reader) (n : ℕ)
      → count (items_r w R (suc n) h at m) ≡ and_then (count (R h at m)) (λ m'. count (items_r w R n h (at + w) m'))
  unfolding items_r
  count-items w R n = count_next (R h at m) (λ m'. items_r w R n h (at + w) m')

  pub count-fields : (I : Inner) (sw : ℕ → ℕ) (S : ℕ → Reader) (f : Field) (fs : List Field)
      → count (fields_r I sw S (f ∷ fs) h at m) ≡ and_then (count (field_r I sw S f h at m)) (λ m'. count (fields_r I sw S fs h (at + field_width sw f) m'))
  unfolding fields_r then_r
  count-fields I sw S f fs = count_next (field_r I sw S f h at m) (λ m'. fields_r I sw S fs h (at + field_width sw f) m')
