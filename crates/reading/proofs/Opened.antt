-- An accepted message, opened: what its acceptance shows of its fields.
use Rattle.schema.specs.declared.Fault.{Fault}
use Rattle.schema.specs.Faults.{fault_at}
use Rattle.std.proofs.Common.{Ok, Err, Result}
use mathlib.Core.Path.{◌≡◌, refl}
use mathlib.Core.Bool.{Bool, true, false, cond, and-eq-true_iff}
use mathlib.Core.List.{List, [], ◌∷◌}
use Prim.Native.Nat.{ℕ, zero, suc, ◌+◌, ◌<◌, ◌≤◌}
use native.Mathlib.Omega.{arith}
use lib.ListN.{length, replicate}
use lib.Dec.{eqb, leb}
use borrow.Author.Tests.{leb-true, ltb-true}
use Rattle.wire.specs.Bytes.{part}
use Rattle.schema.specs.Schema.{Kind, plain, inline, indirect, static, dynamic, Field, Group, kind_width, value_width, field_width, fields_width, fields_of, width, shallow_kind, shallow_fields, shallow, find, known}
use Rattle.schema.specs.Table.{schema}
use Rattle.schema.specs.Layout.{Layout, width_in}
use Rattle.settings.specs.declared.Ignored.{Ignored}
use Rattle.message.specs.Walk.{Inner, Here, here, done, Reader, byte, kind_r, inline_r, indirect_r, text_r, inner_r, fields_r, static_r, behind_r, body_r, head_r, group_r, walk}
use Rattle.meaning.specs.Conforms.{type_id}
use Rattle.reading.specs.Item.{Item, item_from, item_of, value_item, sequence_item, field_item}
use Rattle.reading.specs.Laid.{Led, Laid, ItemLaid}
use Rattle.reading.specs.Part.{part_of}
use Rattle.reading.specs.declared.Part.{Part}
use Rattle.reading.proofs.Done.{need-done, padded-done, prefixed-done, next-done, indirect-done}
use Rattle.reading.proofs.Read.{Read, ItemRead, fields_read}

-- THE MESSAGE'S OWN GROUP

module _ (x : Ignored) (gs : List Group) (b : List ℕ) where
  -- the readers of a message's dynamic groups and of its static groups
  abbrev pub inner : Inner
  inner = group_r x gs 7

  abbrev pub statics : ℕ → Reader
  statics = static_r gs inner 4

  abbrev pub own_fields : List Field
  own_fields = fields_of gs (find gs (type_id b))

  abbrev pub top : Here
  top = here x b 0 (16 + width gs 5 (find gs (type_id b)))

  pub record Opened : Type 0 where
    pub long : 16 ≤ length b
    pub named : find gs (type_id b) < length gs
    pub fixed : 16 + fields_width (width gs 4) own_fields ≤ length b
    pub before : List ℕ
    pub after : List ℕ
    pub fields : List ℕ
    pub is : fields_r inner (width gs 4) statics own_fields top 16 before ≡ done fields after

  opened-body : (s m : List ℕ) → 16 ≤ length b → find gs (type_id b) < length gs
      → body_r x gs inner (find gs (type_id b)) 0 b ≡ done s m → Opened
  unfolding body_r behind_r static_r width
  opened-body s m l k e =
      let q₁ = need-done _ _ _ _ e in
      let q₂ = padded-done top _ q₁.1 in
      let q₃ = prefixed-done (part 8 4 b) _ q₂.1 in
      let q₄ = next-done _ _ q₃.1 in
      let q₅ = need-done _ _ _ _ q₄.before in
      let q₆ = next-done _ _ q₅.1 in
      record {
        long = l;
        named = k;
        fixed = leb-true _ _ q₁.0;
        before = replicate (length b) 0;
        after = q₆.between;
        fields = q₆.first;
        is = q₆.before;
      }

  pub opened : (s m : List ℕ) → walk x gs b ≡ done s m → Opened
  unfolding walk group_r head_r known
  opened s m e =
      let q₁ = need-done _ _ _ _ e in
      let q₂ = prefixed-done _ _ q₁.1 in
      let q₃ = need-done _ _ _ _ q₂.1 in
      let q₄ = need-done _ _ _ _ q₃.1 in
      let q₅ = need-done _ _ _ _ q₄.1 in
      opened-body q₂.0 m (leb-true _ _ q₃.0) (ltb-true _ _ q₄.0) q₅.1

  -- the message's own readers read this kind, this item
  abbrev pub KindRead : Kind → ℕ → Type 0
  KindRead k p = Read inner (width gs 4) statics top k p

  abbrev pub OwnRead : Item → Type 0
  OwnRead y = ItemRead inner (width gs 4) statics top y

  -- every item of an accepted message was read where it lies
  pub item-read : (s m : List ℕ) → walk x gs b ≡ done s m → (n i : ℕ) → OwnRead (item_of gs b n i)
  unfolding item_of
  item-read s m e n i = let o = opened s m e in fields_read inner (width gs 4) statics top own_fields 16 o.before n i o.is o.fixed

-- ONE KIND: WHERE ITS BYTES LIE

-- a part lies in the message
abbrev pub PartLaid : List ℕ → Result Part Fault → Type 0
PartLaid b (Err f) = Unit
PartLaid b (Ok x) = x.start + x.length ≤ length b

module _ (I : Inner) (sw : ℕ → ℕ) (S : ℕ → Reader) (h : Here) where
  led : (inside : ℕ → Reader) (p : ℕ) (m s m' : List ℕ) → indirect_r 26 1 inside h p m ≡ done s m' → p + 4 ≤ length h.bytes → Led h.bytes p
  led inside p m s m' e l = record { offset = l; word = omega (arith, (indirect-done 26 1 inside h p m e).whole) }

  pub item-laid : (k : Kind) (p : ℕ) → Read I sw S h k p → ItemLaid h.bytes k p
  unfolding kind_r kind_width
  item-laid (plain w t) p r = tt
  item-laid (inline u c) p r = omega (arith, r.inside)
  item-laid (indirect u) p r = led (text_r u) p r.before r.sheet r.after r.is r.inside
  item-laid (static g) p r = tt
  item-laid (dynamic g) p r = led (inner_r I g) p r.before r.sheet r.after r.is r.inside

  inline-whole : (u : Bool) (c p : ℕ) (m s m' : List ℕ) → inline_r u c h p m ≡ done s m' → byte p h.bytes ≤ c
  unfolding inline_r
  inline-whole u c p m s m' e = leb-true _ _ (need-done _ _ _ _ e).0

  fixed-laid : (c : Bool) (p w : ℕ) → p + w ≤ length h.bytes → PartLaid h.bytes (cond c (Ok (record { start = p; length = w })) (Err (fault_at 48 0)))
  fixed-laid true p w l = l
  fixed-laid false p w l = tt

  pub part-laid : (t : ℕ) (k : Kind) (p : ℕ) → Read I sw S h k p → PartLaid h.bytes (part_of t k h.bytes p)
  unfolding kind_r kind_width part_of
  part-laid t (plain w x) p r = fixed-laid (eqb t 19) p w r.inside
  part-laid t (inline u c) p r = omega (arith, r.inside, inline-whole u c p r.before r.sheet r.after r.is)
  part-laid t (indirect u) p r = omega (arith, (indirect-done 26 1 (text_r u) h p r.before r.is).whole)
  part-laid t (static g) p r = tt
  part-laid t (dynamic g) p r = omega (arith, (indirect-done 26 1 (inner_r I g) h p r.before r.is).whole)

-- THE WIDTHS OF THE INDEX
-- Those of the fields at hand are the walk's: no static group is deeper than its own.

module _ (u v : ℕ → ℕ) where
  abbrev Same : List Field → Type 0
  Same [] = Unit
  Same (f ∷ fs) = (kind_width u f.kind ≡ kind_width v f.kind) × Same fs

  same_width : (f : Field) → kind_width u f.kind ≡ kind_width v f.kind → field_width u f ≡ field_width v f
  unfolding field_width value_width
  same_width f e = rw e

  same-field : (f : Field) (b : List ℕ) (at i : ℕ) → kind_width u f.kind ≡ kind_width v f.kind → field_item u f b at i ≡ field_item v f b at i
  unfolding field_item value_item sequence_item
  same-field f b at i e = rw e

  pub same_item : (fs : List Field) (b : List ℕ) (at n i : ℕ) → Same fs → item_from u fs b at n i ≡ item_from v fs b at n i
  unfolding item_from
  same_item [] b at n i e = refl
  same_item (f ∷ fs) b at zero i e = same-field f b at i e.0
  same_item (f ∷ fs) b at (suc n) i e = rw (same_width f e.0) (same_item fs b _ n i e.1)

  pub same-laid : (fs : List Field) (b : List ℕ) (at : ℕ) → Same fs → Laid v b fs at → Laid u b fs at
  same-laid [] b at e l = tt
  same-laid (f ∷ fs) b at e l =
      (record { inside = rw (same_width f e.0) l.0.inside; list = l.0.list }, rw (same_width f e.0) (same-laid fs b _ e.1 l.1))

module _ (t k : List ℕ) (P : Layout t k) where
  same_kind : (x : Kind) → shallow_kind (shallow (schema t) 4) (width (schema t) 4) x ≡ true → kind_width (width_in k) x ≡ kind_width (width (schema t) 4) x
  unfolding kind_width shallow_kind
  same_kind (plain w c) e = refl
  same_kind (inline u c) e = refl
  same_kind (indirect u) e = refl
  same_kind (static g) e = P.wide 4 g ((and-eq-true_iff (leb 1 (width (schema t) 4 g)) _).0 e).1
  same_kind (dynamic g) e = refl

  same-kinds : (fs : List Field) → shallow_fields (shallow (schema t) 4) (width (schema t) 4) fs ≡ true → Same (width_in k) (width (schema t) 4) fs
  unfolding shallow_fields
  same-kinds [] e = tt
  same-kinds (f ∷ fs) e = let q = (and-eq-true_iff _ _).0 e in (same_kind f.kind q.0, same-kinds fs q.1)

  pub same-group : (g : ℕ) → Same (width_in k) (width (schema t) 4) (fields_of (schema t) g)
  unfolding shallow
  same-group g = same-kinds (fields_of (schema t) g) (P.shallows g)
