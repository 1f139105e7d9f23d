-- What an accepted message's readers say without their tests: each is opened to fixed bytes and to the readers that it goes on with.
use Prim.Native.Nat.{ℕ, zero, suc, ◌+◌, ◌-◌, ◌*◌, ◌<◌, ◌≤◌}
use mathlib.Core.Path.{◌≡◌, refl, sym, ap, ◌∙◌}
use mathlib.Core.Bool.{Bool, true, false}
use mathlib.Core.List.{List, [], ◌∷◌, ◌++◌, append-nil, append_assoc}
use native.Mathlib.Omega.{arith}
use native.Mathlib.Nat.{mul-one, sub-zero}
use lib.ListN.{length, replicate, length-append}
use borrow.Author.Tests.{leb-true, ltb-true, eq-eqb, ne_eqb}
use Rattle.wire.specs.Bytes.{part, splice, bytes_of, le}
use Rattle.wire.proofs.Laws.{length-bytes, length_part}
use Rattle.schema.specs.Faults.{need}
use Rattle.schema.specs.Schema.{Test, Kind, any, Field, Group, kind_width, width, shallow, find, known}
use Rattle.schema.specs.Table.{schema}
use Rattle.schema.specs.Layout.{Layout}
use Rattle.schema.specs.FieldKinds.{kind_from, tested_kind, plain_field}
use Rattle.schema.specs.declared.FieldKind.{FieldKind}
use Rattle.schema.specs.declared.FieldKind.TheVariants.{Plain, Number, Inline, Indirect, Static, Dynamic}
use Rattle.schema.specs.declared.Tested.{Tested}
use Rattle.schema.specs.declared.Scope.{Scope}
use Rattle.schema.specs.declared.Scope.TheVariants.{Whole, Fields}
use Rattle.message.specs.Occupancy.{occupy}
use Rattle.message.specs.Sheet.{Mark, VA, ST, SG, SQ, GB, XT, XU, mark_bytes, NO, GE, kind_mark, field_mark}
use Rattle.settings.specs.Store.{lax}
use Rattle.message.specs.Walk.{Reading, refused, done, prefixed, next, Here, here, Reader, Inner, byte, word, Place, lost, locate, onward, marked_r, optional_r, plain_r, inline_r, indirect_r, text_r, inner_r, items_r, list_r, kind_r, value_r, field_r, extending_r, groups_r, extension_r, extension_in, behind_r, padded, body_r, head_r, group_r, walk}
use Rattle.message.specs.Check.{item_r, marked_value_r, inner_of, width_of, static_of}
use Rattle.message.proofs.Count.{length-mark, items-one}
use Rattle.message.proofs.CheckFields.{field-required, field-optional, field-there, value-one}
use Rattle.message.specs.Scopes.{Lies}
use Rattle.sheet.specs.Show.{Passage, passage, whole, just, then, extension_of, group_of, takes, head_of, number_of, id_of, end_of, Reads, Fits}
use Rattle.sheet.proofs.Writers.{tested-plain}
use Rattle.sheet.proofs.ShowLaws.{need-done, next-done, Opens, alike, written}

-- THE MARKS, AS THE CODE HAS THEM

pub is-VA : 86 ∷ (65 ∷ []) ≡ mark_bytes VA
unfolding mark_bytes
is-VA = refl

pub is-ST : 83 ∷ (84 ∷ []) ≡ mark_bytes ST
unfolding mark_bytes
is-ST = refl

pub is-SG : 83 ∷ (71 ∷ []) ≡ mark_bytes SG
unfolding mark_bytes
is-SG = refl

pub is-SQ : 83 ∷ (81 ∷ []) ≡ mark_bytes SQ
unfolding mark_bytes
is-SQ = refl

pub is-GB : 71 ∷ (66 ∷ []) ≡ mark_bytes GB
unfolding mark_bytes
is-GB = refl

pub is-XT : 88 ∷ (84 ∷ []) ≡ mark_bytes XT
unfolding mark_bytes
is-XT = refl

pub is-XU : 88 ∷ (85 ∷ []) ≡ mark_bytes XU
unfolding mark_bytes
is-XU = refl

-- WHAT STANDS BEHIND BYTES THAT ARE READ

prefixed-done : (x : List ℕ) (r : Reading) (s m : List ℕ) → prefixed x r ≡ done s m → (t : List ℕ) × (r ≡ done t m)
unfolding prefixed
prefixed-done x (refused n p) s m e = absurd (let z : ◌≡◌ {A = ℕ} 0 1 = cc in omega arith)
prefixed-done x (done t i) s m e = (t, cc)

prefixed-twice : (x y : List ℕ) (r : Reading) → prefixed x (prefixed y r) ≡ prefixed (x ++ y) r
unfolding prefixed
prefixed-twice x y (refused n p) = refl
prefixed-twice x y (done s m) = ap (λ (t : List ℕ). done t m) (sym (append_assoc x y s))

-- three readings in a row; one with nothing before it and nothing behind it
next-next : (r : Reading) (f g : List ℕ → Reading) → next (next r f) g ≡ next r (λ m. next (f m) g)
unfolding next prefixed
next-next (refused n p) f g = refl
next-next (done x i) f g = go (f i)
  where
    go : (q : Reading) → next (prefixed x q) g ≡ prefixed x (next q g)
    go (refused n p) = refl
    go (done y j) = sym (prefixed-twice x y (g j))

next-alone : (r : Reading) → prefixed [] (next r (λ m. done [] m)) ≡ r
unfolding next prefixed
next-alone (refused n p) = refl
next-alone (done s m) = ap (λ (t : List ℕ). done t m) (append-nil s)

-- a reading of an inner group, whose occupancy does not matter
inner-done : (x : List ℕ) (r : Reading) (i s m : List ℕ) → prefixed x (next r (λ _. done [] i)) ≡ done s m → (j : List ℕ) × (prefixed x r ≡ done s j)
unfolding prefixed next
inner-done x (refused n p) i s m e = absurd (let z : ◌≡◌ {A = ℕ} 0 1 = cc in omega arith)
inner-done x (done y j) i s m e = let q : x ++ (y ++ []) ≡ s = cc in (j, ap (λ (t : List ℕ). done t j) (ap (λ (t : List ℕ). x ++ t) (sym (append-nil y)) ∙ q))

-- BEHIND AN OFFSET

onward-need : (c : Bool) (n p : ℕ) (x : Place) (h : Here) (inside : ℕ → Reader) (s m : List ℕ) → onward (need c (lost n p) x) h inside ≡ done s m → (c ≡ true) × (onward x h inside ≡ done s m)
unfolding need onward
onward-need true n p x h inside s m e = (refl, e)
onward-need false n p x h inside s m e = absurd (let z : ◌≡◌ {A = ℕ} 0 1 = cc in omega arith)

module _ (past w : ℕ) (inside : ℕ → Reader) (h : Here) (at : ℕ) (m s m' : List ℕ) (e : indirect_r past w inside h at m ≡ done s m') where
  located : (at + word at h.bytes + (4 + word (at + word at h.bytes) h.bytes * w) ≤ length h.bytes)
      × (inside (word (at + word at h.bytes) h.bytes) h (at + word at h.bytes) (occupy (at + word at h.bytes) (4 + word (at + word at h.bytes) h.bytes * w) m) ≡ done s m')
  unfolding indirect_r locate onward
  located =
      let a = onward-need _ _ _ _ h inside s m' e in
      let b = onward-need _ _ _ _ h inside s m' a.1 in
      let c = onward-need _ _ _ _ h inside s m' b.1 in
      let d = onward-need _ _ _ _ h inside s m' c.1 in
      (leb-true _ _ c.0, d.1)

module _ (past w : ℕ) (inside : ℕ → Reader) (b : List ℕ) (at p n : ℕ) (ip : p ≡ at + word at b) (in' : n ≡ word p b) where
  pub indirect-inside : (s : List ℕ) → Reads (passage (indirect_r past w inside) b at) s → p + (4 + n * w) ≤ length b
  indirect-inside s r = rw (in', ip) (located past w inside _ at _ _ _ r.is).0

  pub indirect-opens : Opens (passage (indirect_r past w inside) b at) (passage (inside n) b p)
  indirect-opens = rw (in', ip) (λ s r. record { base = r.base; area = r.area; occupied = _; taken = r.taken; is = (located past w inside _ at _ _ _ r.is).1 })

  -- with a mark before it
  pub marked-inside : (k : Mark) (s : List ℕ) → Reads (passage (marked_r k (indirect_r past w inside)) b at) s → p + (4 + n * w) ≤ length b
  unfolding marked_r
  marked-inside k s r = rw (in', ip) (located past w inside _ at _ _ _ (prefixed-done _ _ _ _ r.is).1).0

  pub marked-opens : (k : Mark) → Opens (passage (marked_r k (indirect_r past w inside)) b at) (passage (marked_r k (inside n)) b p)
  unfolding marked_r
  marked-opens k = rw (in', ip) (λ s r.
      let q = prefixed-done _ _ _ _ r.is in
      record { base = r.base; area = r.area; occupied = _; taken = r.taken; is = ap (prefixed (mark_bytes k)) ((located past w inside _ at _ _ _ q.1).1 ∙ sym q.1) ∙ r.is })

-- A MARK AND WHAT COMES BEHIND IT

module _ (k : Mark) (b : List ℕ) (at : ℕ) where
  pub marked-then : (R : Reader) → Opens (passage (marked_r k R) b at) (then (just (mark_bytes k)) (passage R b at))
  unfolding marked_r next
  marked-then R s r = r

  -- a reader that gives what G gives, where it gives something
  marked-as : (R : Reader) (G : Passage) → ((base area : ℕ) (m s m' : List ℕ) → R (here lax b base area) at m ≡ done s m' → G base area m ≡ done s m') → Opens (passage (marked_r k R) b at) (then (just (mark_bytes k)) G)
  unfolding marked_r next
  marked-as R G f s r =
      let q = prefixed-done _ _ _ _ r.is in
      record { base = r.base; area = r.area; occupied = r.occupied; taken = r.taken; is = ap (prefixed (mark_bytes k)) (f _ _ _ _ _ q.1 ∙ sym q.1) ∙ r.is }

  marked-just : (R : Reader) (x : List ℕ) → ((base area : ℕ) (m s m' : List ℕ) → R (here lax b base area) at m ≡ done s m' → done x m ≡ done s m') → Opens (passage (marked_r k R) b at) (just (mark_bytes k ++ x))
  unfolding next prefixed
  marked-just R x f = marked-as R (just x) f

  pub marked-plain : (w : ℕ) (t : Test) → Opens (passage (marked_r k (plain_r w t)) b at) (just (mark_bytes k ++ part w at b))
  unfolding plain_r
  marked-plain w t = marked-just (plain_r w t) (part w at b) (λ base area m s m' e. (need-done _ _ _ _ _ _ e).1)

  pub marked-text : (u : Bool) (n : ℕ) → Opens (passage (marked_r k (text_r u n)) b at) (just (mark_bytes k ++ part (4 + n) at b))
  unfolding text_r
  marked-text u n = marked-just (text_r u n) (part (4 + n) at b) (λ base area m s m' e. (need-done _ _ _ _ _ _ e).1)

  inline-tests : (u : Bool) (c base area : ℕ) (m s m' : List ℕ) → inline_r u c (here lax b base area) at m ≡ done s m' → (byte at b ≤ c) × (done (bytes_of 4 (byte at b) ++ part (byte at b) (at + 1) b) m ≡ done s m')
  unfolding inline_r
  inline-tests u c base area m s m' e =
      let x = need-done _ _ _ _ _ _ e in
      let y = need-done _ _ _ _ _ _ x.1 in
      let z = need-done _ _ _ _ _ _ y.1 in
      (leb-true _ _ x.0, z.1)

  pub marked-inline : (u : Bool) (c : ℕ) → Opens (passage (marked_r k (inline_r u c)) b at) (just (mark_bytes k ++ (bytes_of 4 (byte at b) ++ part (byte at b) (at + 1) b)))
  marked-inline u c = marked-just (inline_r u c) (bytes_of 4 (byte at b) ++ part (byte at b) (at + 1) b) (λ base area m s m' e. (inline-tests u c base area m s m' e).1)

  pub inline-count : (u : Bool) (c : ℕ) (s : List ℕ) → Reads (passage (marked_r k (inline_r u c)) b at) s → byte at b ≤ c
  unfolding marked_r
  inline-count u c s r = (inline-tests u c _ _ _ _ _ (prefixed-done _ _ _ _ r.is).1).0

  pub marked-list : (w : ℕ) (R : Reader) (n : ℕ) → Opens (passage (marked_r k (list_r w R n)) b at) (then (just (mark_bytes k ++ part 4 at b)) (passage (items_r w R n) b (at + 4)))
  unfolding marked_r list_r next
  marked-list w R n = alike _ _ (λ base area m. prefixed-twice (mark_bytes k) (part 4 at b) _)

  -- the group there, on its own bytes
  pub marked-inner : (t : List ℕ) (l a n : ℕ) → Opens (passage (marked_r k (inner_r (inner_of lax t l) a n)) b at) (then (just (mark_bytes k)) (whole t l a (part (4 + n) at b)))
  unfolding marked_r inner_r next prefixed
  marked-inner t l a n s r =
      let q = inner-done (mark_bytes k) (inner_of lax t l a (r.base + at) (part (4 + n) at b)) r.occupied s r.taken r.is in
      record { base = r.base + at; area = r.area; occupied = r.occupied; taken = q.0; is = q.1 }

pub inline-length : (n at : ℕ) (b : List ℕ) → at + 1 + n ≤ length b → length (mark_bytes ST ++ (bytes_of 4 n ++ part n (at + 1) b)) ≡ 6 + n
inline-length n at b h =
    length-append (mark_bytes ST) (bytes_of 4 n ++ part n (at + 1) b) ∙ rw (length-append (bytes_of 4 n) (part n (at + 1) b), length-mark ST, length-bytes 4 n, length_part n (at + 1) b h) (omega arith)

-- inline text, as it is written
pub inline-written : (n pos : ℕ) (x out m₁ m₂ m₃ : List ℕ) → m₁ ≡ splice 2 pos (mark_bytes ST) out → m₂ ≡ splice 4 (pos + 2) (bytes_of 4 n) m₁ → m₃ ≡ splice n (pos + 6) x m₂ → pos + (6 + n) ≤ length out
    → m₃ ≡ splice (6 + n) pos (mark_bytes ST ++ (bytes_of 4 n ++ x)) out
inline-written n pos x out m₁ m₂ m₃ e f g h =
    let u : m₂ ≡ splice 6 pos (mark_bytes ST ++ bytes_of 4 n) out = written 2 4 pos (mark_bytes ST) (bytes_of 4 n) out m₁ m₂ e f (length-mark ST) (omega arith) in
    let k : length (mark_bytes ST ++ bytes_of 4 n) ≡ 6 = length-append (mark_bytes ST) (bytes_of 4 n) ∙ rw (length-mark ST, length-bytes 4 n) in
    written 6 n pos (mark_bytes ST ++ bytes_of 4 n) x out m₂ m₃ u g k (omega arith) ∙ rw (append_assoc (mark_bytes ST) (bytes_of 4 n) x)

-- FIELDS

module _ (I : Inner) (sw : ℕ → ℕ) (S : ℕ → Reader) (f : Field) (b : List ℕ) (at : ℕ) where
  -- a required value without a test
  pub field_plain : (x w : ℕ) → f ≡ plain_field x w → Opens (passage (field_r I sw S f) b at) (just (mark_bytes VA ++ part w at b))
  unfolding field_r value_r kind_r field_mark kind_mark
  field_plain x w e = rw e (marked-plain VA b at w any)

  pub field-absent : f.optional ≡ true → (byte at b ≡ 1 → ⊥) → Opens (passage (field_r I sw S f) b at) (just NO)
  unfolding optional_r
  field-absent o d s r =
      let e = sym (field-optional I sw S f (here lax b r.base r.area) at r.occupied o) ∙ r.is in
      let x = rw (ne_eqb _ _ d) at e in
      let y = need-done _ _ _ _ _ _ x in
      let z = need-done _ _ _ _ _ _ y.1 in
      record { base = r.base; area = r.area; occupied = r.occupied; taken = r.taken; is = z.1 }

  pub field-present : f.optional ≡ true → byte at b ≡ 1 → Opens (passage (field_r I sw S f) b at) (passage (marked_value_r I sw S f) b (at + 1))
  field-present o y = alike _ _ (λ base area m. field-there I sw S f (here lax b base area) at m o y)

  pub field-always : f.optional ≡ false → Opens (passage (field_r I sw S f) b at) (passage (marked_value_r I sw S f) b at)
  field-always o = alike _ _ (λ base area m. field-required I sw S f (here lax b base area) at m o)

  module _ (x : Kind) (ix : x ≡ f.kind) where
    pub value-item : f.sequence ≡ false → (w : ℕ) → Opens (passage (marked_value_r I sw S f) b at) (passage (items_r w (item_r I S x) 1) b at)
    value-item e w = alike _ _ (λ base area m. let h = here lax b base area in value-one I sw S f h at m x ix e ∙ sym (items-one h at m w (item_r I S x)))

    module _ (e : f.sequence ≡ true) (w : ℕ) (iw : w ≡ kind_width sw x) where
      value-list : Opens (passage (marked_value_r I sw S f) b at) (passage (marked_r SQ (indirect_r 13 w (list_r w (item_r I S x)))) b at)
      unfolding field_mark value_r
      value-list = rw (iw, ix, e) (λ s r. r)

      module _ (p n : ℕ) (ip : p ≡ at + word at b) (in' : n ≡ word p b) where
        pub sequence-inside : (s : List ℕ) → Reads (passage (marked_value_r I sw S f) b at) s → p + (4 + n * w) ≤ length b
        sequence-inside s r = marked-inside 13 w (list_r w (item_r I S x)) b at p n ip in' SQ s (value-list s r)

        pub sequence-opens : Opens (passage (marked_value_r I sw S f) b at) (then (just (mark_bytes SQ ++ part 4 p b)) (passage (items_r w (item_r I S x) n) b (p + 4)))
        sequence-opens s r = marked-list SQ b p w (item_r I S x) n s (marked-opens 13 w (list_r w (item_r I S x)) b at p n ip in' SQ s (value-list s r))

-- KINDS, AS THE CODE SEES THEM

pub wide-plain : (sw : ℕ → ℕ) (es : List (List ℕ)) (kind : FieldKind) (w : ℕ) → kind ≡ Plain w → kind_width sw (kind_from es kind) ≡ w
unfolding kind_from kind_width
wide-plain sw es kind w e = rw e

module _ (I : Inner) (S : ℕ → Reader) (es : List (List ℕ)) (b : List ℕ) (at : ℕ) (kind : FieldKind) where
  pub item-plain : (w : ℕ) → kind ≡ Plain w → Opens (passage (item_r I S (kind_from es kind)) b at) (just (mark_bytes VA ++ part w at b))
  unfolding kind_from kind_mark kind_r
  item-plain w e = rw e (marked-plain VA b at w any)

  pub item-number : (sw : ℕ → ℕ) (x : Tested) (w : ℕ) → kind ≡ Number x → w ≡ kind_width sw (tested_kind es x) → Opens (passage (item_r I S (kind_from es kind)) b at) (just (mark_bytes VA ++ part w at b))
  unfolding kind_from kind_mark kind_r
  item-number sw x w e iw = let p = tested-plain sw es x w iw in rw (e, p.1) (marked-plain VA b at w p.0)

  pub item-inline : (u : Bool) (c : ℕ) → kind ≡ Inline u c → Opens (passage (item_r I S (kind_from es kind)) b at) (passage (marked_r ST (inline_r u c)) b at)
  unfolding kind_from kind_mark kind_r
  item-inline u c e = rw e (λ s r. r)

  item-indirect : (u : Bool) → kind ≡ Indirect u → Opens (passage (item_r I S (kind_from es kind)) b at) (passage (marked_r ST (indirect_r 26 1 (text_r u))) b at)
  unfolding kind_from kind_mark kind_r
  item-indirect u e = rw e (λ s r. r)

  pub item-static : (g : ℕ) → kind ≡ Static g → Opens (passage (item_r I S (kind_from es kind)) b at) (then (just (mark_bytes SG)) (passage (S g) b at))
  unfolding kind_from kind_mark kind_r
  item-static g e = rw e (marked-then SG b at (S g))

  item-dynamic : (a : ℕ) → kind ≡ Dynamic a → Opens (passage (item_r I S (kind_from es kind)) b at) (passage (marked_r GB (indirect_r 26 1 (inner_r I a))) b at)
  unfolding kind_from kind_mark kind_r
  item-dynamic a e = rw e (λ s r. r)

  -- behind their offsets
  module _ (p n : ℕ) (ip : p ≡ at + word at b) (in' : n ≡ word p b) where
    pub item-text : (u : Bool) → kind ≡ Indirect u → Opens (passage (item_r I S (kind_from es kind)) b at) (just (mark_bytes ST ++ part (4 + n) p b))
    item-text u e s r = marked-text ST b p u n s (marked-opens 26 1 (text_r u) b at p n ip in' ST s (item-indirect u e s r))

    pub text-inside : (u : Bool) → kind ≡ Indirect u → (s : List ℕ) → Reads (passage (item_r I S (kind_from es kind)) b at) s → p + (4 + n) ≤ length b
    text-inside u e s r = rw mul-one at (marked-inside 26 1 (text_r u) b at p n ip in' ST s (item-indirect u e s r))

    pub item-group : (a : ℕ) → kind ≡ Dynamic a → Opens (passage (item_r I S (kind_from es kind)) b at) (passage (marked_r GB (inner_r I a n)) b p)
    item-group a e s r = marked-opens 26 1 (inner_r I a) b at p n ip in' GB s (item-dynamic a e s r)

    pub group-inside : (a : ℕ) → kind ≡ Dynamic a → (s : List ℕ) → Reads (passage (item_r I S (kind_from es kind)) b at) s → p + (4 + n) ≤ length b
    group-inside a e s r = rw mul-one at (marked-inside 26 1 (inner_r I a) b at p n ip in' GB s (item-dynamic a e s r))

  pub items-plain : (sw : ℕ → ℕ) (c w n : ℕ) → kind ≡ Plain c → w ≡ kind_width sw (kind_from es kind) → Opens (passage (items_r w (item_r I S (kind_from es kind)) n) b at) (passage (items_r c (marked_r VA (plain_r c any)) n) b at)
  unfolding kind_from kind_width kind_mark kind_r
  items-plain sw c w n e iw = let q : w ≡ c = iw ∙ rw e in rw (q, e) (λ s r. r)

-- THE EXTENSION

module _ (gs : List Group) (I : Inner) (b : List ℕ) where
  pub extension-none : word 12 b ≡ 0 → Opens (passage (extension_r gs I) b 12) (just [])
  unfolding extension_r
  extension-none e = alike _ _ (λ base area m. rw (eq-eqb _ _ e))

  module _ (z : word 12 b ≡ 0 → ⊥) (p n : ℕ) (ip : p ≡ 12 + word 12 b) (in' : n ≡ word p b) where
    extension-is : Opens (passage (extension_r gs I) b 12) (passage (indirect_r 13 4 (groups_r gs I)) b 12)
    unfolding extension_r
    extension-is = alike _ _ (λ base area m. rw (ne_eqb _ _ z))

    pub extension-inside : (s : List ℕ) → Reads (passage (extension_r gs I) b 12) s → p + (4 + n * 4) ≤ length b
    extension-inside s r = indirect-inside 13 4 (groups_r gs I) b 12 p n ip in' s (extension-is s r)

    pub extension-empty : n ≡ 0 → Opens (passage (extension_r gs I) b 12) (just [])
    unfolding groups_r
    extension-empty e s r = none s (indirect-opens 13 4 (groups_r gs I) b 12 p n ip in' s (extension-is s r))
      where
        none : Opens (passage (groups_r gs I n) b p) (just [])
        none = alike _ _ (λ base area m. rw (eq-eqb _ _ e))

    pub extension-some : (n ≡ 0 → ⊥) → Opens (passage (extension_r gs I) b 12) (then (just (mark_bytes XT ++ part 4 p b)) (passage (items_r 4 (indirect_r 26 1 (extending_r gs I)) n) b (p + 4)))
    unfolding groups_r
    extension-some e s r = marked-list XT b p 4 (indirect_r 26 1 (extending_r gs I)) n s (some s (indirect-opens 13 4 (groups_r gs I) b 12 p n ip in' s (extension-is s r)))
      where
        some : Opens (passage (groups_r gs I n) b p) (passage (marked_r XT (list_r 4 (indirect_r 26 1 (extending_r gs I)) n)) b p)
        some = alike _ _ (λ base area m. rw (ne_eqb _ _ e))

  -- one of its groups
  module _ (at p n : ℕ) (ip : p ≡ at + word at b) (in' : n ≡ word p b) where
    extending-is : (s : List ℕ) → Reads (passage (indirect_r 26 1 (extending_r gs I)) b at) s → Reads (passage (extending_r gs I n) b p) s
    extending-is = indirect-opens 26 1 (extending_r gs I) b at p n ip in'

    pub extending-inside : (s : List ℕ) → Reads (passage (indirect_r 26 1 (extending_r gs I)) b at) s → (12 ≤ n) × (p + (4 + n) ≤ length b)
    unfolding extending_r
    extending-inside s r =
        (leb-true _ _ (need-done _ _ _ _ _ _ (extending-is s r).is).0, rw mul-one at (indirect-inside 26 1 (extending_r gs I) b at p n ip in' s r))

    pub extending-known : known gs (le (part 8 (p + 4) b)) ≡ true → Opens (passage (indirect_r 26 1 (extending_r gs I)) b at) (passage (marked_r GB (inner_r I 0 n)) b p)
    unfolding extending_r
    extending-known k s r =
        let q = extending-is s r in
        let e = (need-done _ _ _ _ _ _ q.is).1 in
        record { base = q.base; area = q.area; occupied = q.occupied; taken = q.taken; is = rw k at e }

    pub extending-kept : known gs (le (part 8 (p + 4) b)) ≡ false → Opens (passage (indirect_r 26 1 (extending_r gs I)) b at) (just (mark_bytes XU ++ part (4 + n) p b))
    unfolding extending_r
    extending-kept k s r = marked-text XU b p false n s (kept s (extending-is s r))
      where
        kept : Opens (passage (extending_r gs I n) b p) (passage (marked_r XU (text_r false n)) b p)
        kept s q = let e = (need-done _ _ _ _ _ _ q.is).1 in record { base = q.base; area = q.area; occupied = q.occupied; taken = q.taken; is = rw k at e }

-- A GROUP

padded-done : (h : Here) (r : Reading) (s m : List ℕ) → padded h r ≡ done s m → (i : List ℕ) × (r ≡ done s i)
unfolding padded
padded-done h (refused n p) s m e = absurd (let z : ◌≡◌ {A = ℕ} 0 1 = cc in omega arith)
padded-done h (done t i) s m e = let q = (need-done _ _ _ _ _ _ e).1 in (i, cc)

-- b, as the group g with so many levels left below it
abbrev body_of : List ℕ → ℕ → ℕ → List ℕ → Passage
body_of t l g b base area m = body_r lax (schema t) (inner_of lax t l) g base b

-- a group's bytes, once it is known which group it is: its width, and its parts
module _ (t : List ℕ) (l g : ℕ) (b s : List ℕ) (r : Reads (body_of t l g b) s) where
  body-wide : 16 + width (schema t) 5 g ≤ length b
  unfolding body_r
  body-wide = leb-true _ _ (need-done _ _ _ _ _ _ r.is).0

  body-opens : Reads (then (just (part 8 4 b)) (then (passage (static_of lax t l 5 g) b 16) (then (passage (extension_of t l) b 12) (just GE)))) s
  unfolding body_r behind_r next
  body-opens =
      let h : Here = here lax b r.base (16 + width (schema t) 5 g) in
      let o : List ℕ = replicate (length b) 0 in
      let E : List ℕ → Reading = λ m. extension_of t l h 12 m in
      let K : Reading = next (static_of lax t l 5 g h 16 o) E in
      let B : Reading = behind_r (static_of lax t l 5 g) (extension_of t l) h 12 o in
      let u = padded-done h (prefixed (part 8 4 b) (next B (λ m. done GE m))) s r.taken (need-done _ _ _ _ _ _ r.is).1 in
      let v = prefixed-done (part 8 4 b) (next B (λ m. done GE m)) s u.0 u.1 in
      let w = next-done B (λ m. done GE m) v.0 u.0 v.1 in
      let q : B ≡ K = w.reads ∙ sym (need-done (extension_in h 12) 3 (r.base + 12) K w.first w.occupied w.reads).1 in
      let a = sym (next-next (static_of lax t l 5 g h 16 o) E (λ m. done GE m)) ∙ ap (λ (x : Reading). next x (λ m. done GE m)) (sym q) in
      record { base = r.base; area = h.area; occupied = o; taken = u.0; is = ap (prefixed (part 8 4 b)) a ∙ u.1 }

-- what a dynamic group's reading tells before its body
record Head (t : List ℕ) (l : ℕ) (b s : List ℕ) : Type 0 where
  some : 0 < l
  long : 16 ≤ length b
  inside : find (schema t) (le (part 8 4 b)) < length (schema t)
  body : Reads (body_of t (l - 1) (find (schema t) (le (part 8 4 b))) b) s

head : (t : List ℕ) (l a : ℕ) (b s : List ℕ) → Reads (whole t l a b) s → Head t l b s
unfolding group_r head_r known
head t zero a b s r = absurd (
    let x = need-done _ _ _ _ _ _ r.is in
    let y = need-done _ _ _ _ _ _ x.1 in
    let e = (need-done _ _ _ _ _ _ y.1).1 in
    let z : ◌≡◌ {A = ℕ} 0 1 = cc in
    omega arith
    )
head t (suc l) a b s r =
    let x = need-done _ _ _ _ _ _ r.is in
    let y = need-done _ _ _ _ _ _ x.1 in
    let e = (need-done _ _ _ _ _ _ y.1).1 in
    let q : suc l - 1 ≡ l = omega arith in
    record {
      some = omega arith;
      long = leb-true _ _ x.0;
      inside = ltb-true _ _ y.0;
      body = rw q (record { base = r.base; area = r.area; occupied = r.occupied; taken = r.taken; is = e });
    }

-- BY ITS SCOPE

module _ (t : List ℕ) (l : ℕ) (b : List ℕ) (scope : Scope) where
  pub end_whole : (a : ℕ) → scope ≡ Whole a → Opens (end_of t l scope b) (then (passage (extension_of t l) b 12) (just GE))
  unfolding end_of
  end_whole a e = rw e (λ s r. r)

  pub end-fields : (g : ℕ) → scope ≡ Fields g → Opens (end_of t l scope b) (just [])
  unfolding end_of
  end-fields g e = rw e (λ s r. r)

module _ (scope : Scope) (a : ℕ) (e : scope ≡ Whole a) where
  pub head-whole : head_of scope ≡ 16
  unfolding head_of
  head-whole = rw e

  pub id-whole : (b : List ℕ) → id_of scope b ≡ part 8 4 b
  unfolding id_of
  id-whole b = rw e

  pub id-length : (b : List ℕ) → 16 ≤ length b → length (id_of scope b) ≡ 8
  id-length b h = rw (id-whole b) (length_part 8 4 b (omega arith))

-- what is asked to read the head of a group and the fields of its number g
pub record Readable (t : List ℕ) (l d : ℕ) (b : List ℕ) (at : ℕ) (scope : Scope) (g : ℕ) : Type 0 where
  pub some : takes scope ≤ l
  pub long : head_of scope ≤ length b
  pub wide : at + width_of t d g ≤ length b
  pub inside : g < length (schema t)
  pub flat : shallow (schema t) d g ≡ true

module _ (t : List ℕ) (l d : ℕ) (b : List ℕ) (at : ℕ) where
  pub group-parts : (scope : Scope) → Lies t d scope b at → (g n : ℕ) → g ≡ number_of t scope b → n ≡ l - takes scope
      → Opens (group_of t l d scope b at) (then (just (id_of scope b)) (then (passage (static_of lax t n d g) b at) (end_of t n scope b)))
  unfolding group_of takes number_of id_of end_of next
  group-parts (Whole a) h g n ig in' s r = rw (ig, in', h.0, h.1) (body-opens t (l - 1) _ b s (head t l a b s r).body)
  group-parts (Fields g') h g n ig in' s r = let q = in' ∙ sub-zero l in rw (ig, q) (record { base = r.base; area = r.area; occupied = r.occupied; taken = r.taken; is = next-alone _ ∙ r.is })

  pub group-readable : (k : List ℕ) → Layout t k → (scope : Scope) → Lies t d scope b at → (g : ℕ) → g ≡ number_of t scope b
      → (s : List ℕ) → Reads (group_of t l d scope b at) s → Readable t l d b at scope g
  unfolding group_of takes head_of number_of
  group-readable k P (Whole a) h g ig s r =
      let H = head t l a b s r in
      rw (ig, h.0, h.1) (record { some = H.some; long = H.long; wide = body-wide t (l - 1) _ b s H.body; inside = H.inside; flat = P.shallows _ })
  group-readable k P (Fields g') h g ig s r = rw ig (record { some = omega arith; long = omega arith; wide = h.0; inside = h.1; flat = h.2 })

-- THE MESSAGE

pub walk-done : (t b s m : List ℕ) → walk lax (schema t) b ≡ done s m → Reads (then (just (mark_bytes GB)) (whole t 8 0 b)) s
unfolding walk next
walk-done t b s m e = record { base = 0; area = 0; occupied = []; taken = m; is = (need-done _ _ _ _ _ _ e).1 }

pub walk-fits : (t b s m out : List ℕ) → walk lax (schema t) b ≡ done s m → length s ≤ length out → Fits (then (just (mark_bytes GB)) (whole t 8 0 b)) 0 out
walk-fits t b s m out e l = record { sheet = s; reads = walk-done t b s m e; room = omega (arith, l) }

pub one-sheet : (r : Reading) (s m s' m' : List ℕ) → r ≡ done s m → r ≡ done s' m' → s ≡ s'
one-sheet r s m s' m' e f = cc
