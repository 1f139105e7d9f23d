-- Fields, sequences and items: each way through them, and one turn of each loop.
use Rattle.std.proofs.Common.{Ok, Err, ◌≡◌, ℕ, zero, suc, ◌+◌, ◌-◌, ◌*◌, ◌%◌, ◌^◌, ◌<◌, ◌≤◌, Bool, true, false, not, ◌&&◌, eqb, leb, List, length, drop, sym, refl, ap, ◌∙◌, add-mul, arith, eq-eqb, eqb-true}
use native.Mathlib.Nat.{sub-zero}
use mir.Val.{bool_byte}
use borrow.Author.Tests.{eqb-false, not-true, not-false}
use Rattle.schema.specs.Schema.{Kind, plain, inline, any, Field, Group, kind_width, value_width, field_width, fields_of, fields_width, width, shallow_kind, shallow_fields, shallow}
use Rattle.schema.specs.Table.{field_at, fields_at, field_count, enums, schema}
use Rattle.schema.specs.Layout.{group_place, Layout}
use Rattle.schema.specs.FieldKinds.{kind_from, tested_kind, plain_field}
use Rattle.schema.specs.declared.FieldKind.{FieldKind}
use Rattle.schema.specs.declared.FieldKind.TheVariants.{Plain, Number, Inline, Indirect, Static, Dynamic}
use Rattle.schema.specs.declared.Tested.{Tested}
use Rattle.schema.proofs.Records.{fields-more, fields-none}
use Rattle.schema.proofs.Groups.{placed-fields}
use Rattle.schema.proofs.Types.{width_one, width-optional, width-required}
use Rattle.schema.proofs.Depth.{and_both, shallow-fields, width-fields}
use Rattle.message.specs.Sheet.{ST, kind_mark, field_mark}
use Rattle.settings.specs.declared.Ignored.{Ignored}
use Rattle.message.specs.Walk.{Here, here, Reader, Inner, byte, locate, indirect_r, inner_r, items_r, list_r, text_r, kind_r, marked_r, optional_r, value_r, field_r, fields_r, static_r}
use Rattle.message.specs.Count.{Count, failed, counted, count, more, and_then}
use Rattle.message.specs.declared.failure.Failure.{Failure}
use Rattle.message.specs.Check.{count_by, after, place_by, Lands, item_r, marked_value_r, Ready}
use Rattle.message.specs.declared.Step.{Step}
use Rattle.message.specs.declared.Frame.{Frame}
use Rattle.message.specs.declared.Found.{Found}
use Rattle.message.proofs.Count.{more-more, count_none, count-marked, count-list, count-lost, count-found, items-one, count-items, count-fields}
use Rattle.message.proofs.CheckAnswers.{stays, goes_on, passed, stopped}
use Rattle.message.proofs.CheckValues.{plain-counts}

-- BEHIND AN OFFSET

module _ (past w : ℕ) (inside : ℕ → Reader) (h : Here) (at : ℕ) (m : List ℕ) (F : ℕ → List ℕ) where
  pub leads-nowhere : (f : Failure) → place_by F (Err f) ≡ locate past w h at m → count (indirect_r past w inside h at m) ≡ failed f.number f.place
  unfolding place_by
  leads-nowhere f s = count-lost h at m past w inside f.number f.place (sym s)

  pub leads-to : (f : Found) → place_by F (Ok f) ≡ locate past w h at m → count (indirect_r past w inside h at m) ≡ count (inside f.count h f.place (F f.taken))
  unfolding place_by
  leads-to f s = count-found h at m past w inside f.place f.count (F f.taken) (sym s)

-- FIELDS

module _ (I : Inner) (sw : ℕ → ℕ) (S : ℕ → Reader) (es : List (List ℕ)) (t : List ℕ) (h : Here) (n i q at k : ℕ) (m : List ℕ) where
  fields-turn : i < n → count (fields_r I sw S (fields_at es (n - i) (drop q t)) h at m)
      ≡ and_then (count (field_r I sw S (field_at es (drop q t)) h at m)) (λ m'. count (fields_r I sw S (fields_at es (n - (i + 1)) (drop (q + 16) t)) h (at + field_width sw (field_at es (drop q t))) m'))
  fields-turn l = rw (fields-more es t q n i l) (count-fields h at m I sw S (field_at es (drop q t)) (fields_at es (n - (i + 1)) (drop (q + 16) t)))

  module _ (F : ℕ → List ℕ) (l : i < n) where
    pub fields-passed : (s : Step) (w : ℕ) → count_by F (Ok s) ≡ after k (count (field_r I sw S (field_at es (drop q t)) h at m)) → w ≡ field_width sw (field_at es (drop q t))
        → after k (count (fields_r I sw S (fields_at es (n - i) (drop q t)) h at m)) ≡ after s.length (count (fields_r I sw S (fields_at es (n - (i + 1)) (drop (q + 16) t)) h (at + w) (F s.taken)))
    fields-passed s w e iw = rw (fields-turn l, iw) (passed F k _ s _ e)

    pub fields-stopped : (G : ℕ → List ℕ) (f : Failure) → count_by F (Err f) ≡ after k (count (field_r I sw S (field_at es (drop q t)) h at m))
        → count_by G (Err f) ≡ after k (count (fields_r I sw S (fields_at es (n - i) (drop q t)) h at m))
    fields-stopped G f e = rw (fields-turn l) (stopped F k _ G f _ e)

  pub fields-end : (F : ℕ → List ℕ) (s : Step) → F s.taken ≡ m → s.length ≡ k → n ≤ i → k < 2 ^ 64 → count_by F (Ok s) ≡ after k (count (fields_r I sw S (fields_at es (n - i) (drop q t)) h at m))
  unfolding fields_r
  fields-end F s f e l b = rw (fields-none es t q n i l) (stays F k _ s (rw f (count_none h at m)) e b)

plain-field-wide : (sw : ℕ → ℕ) (n w : ℕ) → field_width sw (plain_field n w) ≡ w
unfolding field_width value_width kind_width
plain-field-wide sw n w = refl

pub plain-wide : (sw : ℕ → ℕ) (f : Field) (n w : ℕ) → f ≡ plain_field n w → field_width sw f ≡ w
plain-wide sw f n w e = ap (field_width sw) e ∙ plain-field-wide sw n w

-- a required value without a test
module _ (y : Ignored) (I : Inner) (sw : ℕ → ℕ) (S : ℕ → Reader) (es : List (List ℕ)) (t b : List ℕ) (base area n i q at k : ℕ) (m : List ℕ) where
  plain-field-counts : (x w : ℕ) → at + w ≤ length b → count (field_r I sw S (plain_field x w) (here y b base area) at m) ≡ counted (2 + w) m
  unfolding field_r value_r field_mark
  plain-field-counts x w l = plain-counts y I S b base area at m w l

  pub fields-plain : (x w j : ℕ) → i < n → field_at es (drop q t) ≡ plain_field x w → at + w ≤ length b → j ≡ (k + (2 + w)) % 2 ^ 64
      → after k (count (fields_r I sw S (fields_at es (n - i) (drop q t)) (here y b base area) at m))
      ≡ after j (count (fields_r I sw S (fields_at es (n - (i + 1)) (drop (q + 16) t)) (here y b base area) (at + w) m))
  unfolding and_then
  fields-plain x w j l e f g =
      let c : count (field_r I sw S (field_at es (drop q t)) (here y b base area) at m) ≡ counted (2 + w) m = rw e (plain-field-counts x w f) in
      rw (fields-turn I sw S es t (here y b base area) n i q at k m l, c, plain-wide sw (field_at es (drop q t)) x w e) (goes_on k (2 + w) j _ _ refl g)

-- ONE FIELD

-- A count is that of n items of w bytes at p, behind k bytes of the sheet and with the occupancy m.
pub record ItemsAt (w : ℕ) (R : Reader) (h : Here) (c : Count) (n p k : ℕ) (m : List ℕ) : Type 0 where
  pub few : n < 2 ^ 32
  pub inside : p + n * w ≤ length h.bytes
  pub counts : after k (count (items_r w R n h p m)) ≡ c

pub flag-wide : (sw : ℕ → ℕ) (f : Field) (o : Bool) → o ≡ f.optional → bool_byte o + value_width sw f ≡ field_width sw f
flag-wide sw f true i = let w = width-optional sw f (sym i) in omega (arith, w)
flag-wide sw f false i = let w = width-required sw f (sym i) in omega (arith, w)

pub flag-unset : (o : Bool) (v : ℕ) → o && not (eqb v 1) ≡ true → (o ≡ true) × (v ≡ 1 → ⊥)
flag-unset o v e = let q = and_both o (not (eqb v 1)) e in (q.0, eqb-false _ _ (not-true _ q.1))

module _ (I : Inner) (sw : ℕ → ℕ) (S : ℕ → Reader) (f : Field) (h : Here) (at : ℕ) (m : List ℕ) where
  pub field-required : f.optional ≡ false → field_r I sw S f h at m ≡ marked_value_r I sw S f h at m
  unfolding field_r field_mark value_r
  field-required e = rw e

  pub field-optional : f.optional ≡ true → field_r I sw S f h at m ≡ optional_r (field_mark f) (value_width sw f) (value_r I sw S f) h at m
  unfolding field_r field_mark value_r value_width
  field-optional e = rw e

  pub field-there : f.optional ≡ true → byte at h.bytes ≡ 1 → field_r I sw S f h at m ≡ marked_value_r I sw S f h (at + 1) m
  unfolding optional_r
  field-there e o = field-optional e ∙ rw (eq-eqb _ _ o)

  -- its value stands behind the flag, if it has one and that is set
  pub field-set : (o : Bool) → o ≡ f.optional → o && not (eqb (byte at h.bytes) 1) ≡ false → (k : ℕ) → k ≡ bool_byte o → field_r I sw S f h at m ≡ marked_value_r I sw S f h (at + k) m
  field-set true i e k q = rw q (field-there (sym i) (eqb-true _ _ (not-false _ e)))
  field-set false i e k q = let z : at + k ≡ at = omega (arith, q) in rw z (field-required (sym i))

  module _ (x : Kind) (ix : x ≡ f.kind) where
    pub value-one : f.sequence ≡ false → marked_value_r I sw S f h at m ≡ item_r I S x h at m
    unfolding field_mark value_r
    value-one e = rw (ix, e)

    module _ (w : ℕ) (iw : w ≡ kind_width sw x) where
      pub one-item : (k : ℕ) → f.sequence ≡ false → at + value_width sw f ≤ length h.bytes → ItemsAt w (item_r I S x) h (after k (count (marked_value_r I sw S f h at m))) 1 at k m
      one-item k e l = let v : w ≡ value_width sw f = iw ∙ ap (kind_width sw) ix ∙ width_one sw f e in
          record { few = omega arith; inside = omega (arith, v, l); counts = ap (λ r. after k (count r)) (items-one h at m w (item_r I S x) ∙ sym (value-one e)) }

      module _ (e : f.sequence ≡ true) (F : ℕ → List ℕ) where
        sequence-is : count (marked_value_r I sw S f h at m) ≡ more 2 (count (indirect_r 13 w (list_r w (item_r I S x)) h at m))
        unfolding value_r
        sequence-is = count-marked h at m (field_mark f) (value_r I sw S f) ∙ rw (iw, ix, e)

        pub sequence-nowhere : (l : Failure) → place_by F (Err l) ≡ locate 13 w h at m → count (marked_value_r I sw S f h at m) ≡ failed l.number l.place
        unfolding more
        sequence-nowhere l s = sequence-is ∙ ap (more 2) (leads-nowhere 13 w (list_r w (item_r I S x)) h at m F l s)

        module _ (l : Found) (s : place_by F (Ok l) ≡ locate 13 w h at m) where
          sequence-found : l.place + 4 ≤ length h.bytes → count (marked_value_r I sw S f h at m) ≡ more 6 (count (items_r w (item_r I S x) l.count h (l.place + 4) (F l.taken)))
          sequence-found g =
              sequence-is
              ∙ ap (more 2) (leads-to 13 w (list_r w (item_r I S x)) h at m F l s ∙ count-list h l.place (F l.taken) w (item_r I S x) l.count g)
              ∙ more-more 2 4 _

          pub sequence-items : (k j : ℕ) → Lands F w h.bytes l → j ≡ (k + 6) % 2 ^ 64
              → ItemsAt w (item_r I S x) h (after k (count (marked_value_r I sw S f h at m))) l.count (l.place + 4) j (F l.taken)
          sequence-items k j L q = let g = L.inside in
              record { few = L.four; inside = omega (arith, g); counts = sym (goes_on k 6 j _ _ (sequence-found (omega (arith, g))) q) }

-- ITEMS

module _ (w : ℕ) (R : Reader) (h : Here) (n i at k : ℕ) (m : List ℕ) where
  items-turn : i < n → count (items_r w R (n - i) h at m) ≡ and_then (count (R h at m)) (λ m'. count (items_r w R (n - (i + 1)) h (at + w) m'))
  items-turn l = let e : n - i ≡ suc (n - (i + 1)) = omega arith in rw e (count-items h at m w R (n - (i + 1)))

  module _ (F : ℕ → List ℕ) (l : i < n) where
    pub items-passed : (s : Step) → count_by F (Ok s) ≡ after k (count (R h at m)) → after k (count (items_r w R (n - i) h at m)) ≡ after s.length (count (items_r w R (n - (i + 1)) h (at + w) (F s.taken)))
    items-passed s e = rw (items-turn l) (passed F k _ s _ e)

    pub items-stopped : (G : ℕ → List ℕ) (f : Failure) → count_by F (Err f) ≡ after k (count (R h at m)) → count_by G (Err f) ≡ after k (count (items_r w R (n - i) h at m))
    items-stopped G f e = rw (items-turn l) (stopped F k _ G f _ e)

  pub items-end : (F : ℕ → List ℕ) (s : Step) → F s.taken ≡ m → s.length ≡ k → n ≤ i → k < 2 ^ 64 → count_by F (Ok s) ≡ after k (count (items_r w R (n - i) h at m))
  unfolding items_r
  items-end F s f q l b = let e : n - i ≡ 0 = omega arith in rw e (stays F k _ s (rw f (count_none h at m)) q b)

-- what is left of n items of w bytes, one item further
pub items_left : (n i w : ℕ) → i < n → (n - i) * w ≡ w + (n - (i + 1)) * w
items_left n i w h = let e : n - i ≡ 1 + (n - (i + 1)) = omega arith in rw e (omega (arith, add-mul 1 (n - (i + 1)) w))

module _ (y : Ignored) (I : Inner) (S : ℕ → Reader) (b : List ℕ) (base area : ℕ) (m : List ℕ) where
  plain-items : (w n at : ℕ) → at + n * w ≤ length b → count (items_r w (item_r I S (plain w any)) n (here y b base area) at m) ≡ counted (n * (2 + w)) m
  unfolding items_r and_then more
  plain-items w zero at l = count_none (here y b base area) at m ∙ ap (λ (j : ℕ). counted j m) (let z : 0 ≡ 0 * (2 + w) = omega arith in z)
  plain-items w (suc n) at l =
      let x : suc n * w ≡ w + n * w = omega (arith, add-mul 1 n w) in
      let z : 2 + w + n * (2 + w) ≡ suc n * (2 + w) = omega (arith, add-mul 1 n (2 + w)) in
      count-items (here y b base area) at m w (item_r I S (plain w any)) n
      ∙ rw (plain-counts y I S b base area at m w (omega (arith, x, l)), plain-items w n (at + w) (omega (arith, x, l))) (ap (λ (j : ℕ). counted j m) z)

  -- KINDS, AS THE CODE SEES THEM

  module _ (es : List (List ℕ)) (kind : FieldKind) where
    pub items-plain : (sw : ℕ → ℕ) (c w n at : ℕ) → kind ≡ Plain c → w ≡ kind_width sw (kind_from es kind) → at + n * w ≤ length b
        → count (items_r w (item_r I S (kind_from es kind)) n (here y b base area) at m) ≡ counted (n * (2 + c)) m
    unfolding kind_from kind_width
    items-plain sw c w n at e iw l =
        let q : w ≡ c = iw ∙ rw e in
        let l' = rw q at l in
        rw (q, e) (plain-items c n at l')

    pub items-indirect : (sw : ℕ → ℕ) (w n at : ℕ) → w ≡ kind_width sw (kind_from es kind) → (u : Bool) → kind ≡ Indirect u
        → items_r w (item_r I S (kind_from es kind)) n (here y b base area) at m ≡ items_r 4 (marked_r ST (indirect_r 26 1 (text_r u))) n (here y b base area) at m
    unfolding kind_from kind_width kind_mark kind_r
    items-indirect sw w n at iw u e = let q : w ≡ 4 = iw ∙ rw e in rw (q, e)

    pub items-number : (w v n at : ℕ) → w ≡ v → (x : Tested) → kind ≡ Number x
        → items_r w (item_r I S (kind_from es kind)) n (here y b base area) at m ≡ items_r v (item_r I S (tested_kind es x)) n (here y b base area) at m
    unfolding kind_from
    items-number w v n at q x e = rw (q, e)

    module _ (at : ℕ) where
      pub item-plain : (sw : ℕ → ℕ) (c : ℕ) → kind ≡ Plain c → at + kind_width sw (kind_from es kind) ≤ length b → count (item_r I S (kind_from es kind) (here y b base area) at m) ≡ counted (2 + c) m
      unfolding kind_from kind_width
      item-plain sw c e l = let l' = rw e at l in rw e (plain-counts y I S b base area at m c l')

      pub item-number : (x : Tested) → kind ≡ Number x → item_r I S (kind_from es kind) (here y b base area) at m ≡ item_r I S (tested_kind es x) (here y b base area) at m
      unfolding kind_from
      item-number x e = rw e

      pub item-inline : (u : Bool) (c : ℕ) → kind ≡ Inline u c → item_r I S (kind_from es kind) (here y b base area) at m ≡ item_r I S (inline u c) (here y b base area) at m
      unfolding kind_from
      item-inline u c e = rw e

      pub item-indirect : (u : Bool) → kind ≡ Indirect u → item_r I S (kind_from es kind) (here y b base area) at m ≡ marked_r ST (indirect_r 26 1 (text_r u)) (here y b base area) at m
      unfolding kind_from kind_mark kind_r
      item-indirect u e = rw e

      pub item-static : (g : ℕ) → kind ≡ Static g → count (item_r I S (kind_from es kind) (here y b base area) at m) ≡ more 2 (count (S g (here y b base area) at m))
      unfolding kind_from kind_r
      item-static g e = rw e (count-marked (here y b base area) at m _ (S g))

      pub item-dynamic : (a : ℕ) → kind ≡ Dynamic a → count (item_r I S (kind_from es kind) (here y b base area) at m) ≡ more 2 (count (indirect_r 26 1 (inner_r I a) (here y b base area) at m))
      unfolding kind_from kind_r
      item-dynamic a e = rw e (count-marked (here y b base area) at m _ (indirect_r 26 1 (inner_r I a)))

-- the widths that the kinds ask for
module _ (sw : ℕ → ℕ) (es : List (List ℕ)) (kind : FieldKind) where
  pub wide-number : (x : Tested) → kind ≡ Number x → kind_width sw (kind_from es kind) ≡ kind_width sw (tested_kind es x)
  unfolding kind_from
  wide-number x e = rw e

  pub wide-inline : (u : Bool) (c : ℕ) → kind ≡ Inline u c → kind_width sw (kind_from es kind) ≡ c + 1
  unfolding kind_from kind_width
  wide-inline u c e = rw e

  pub wide-indirect : (u : Bool) → kind ≡ Indirect u → kind_width sw (kind_from es kind) ≡ 4
  unfolding kind_from kind_width
  wide-indirect u e = rw e

  pub wide-static : (g : ℕ) → kind ≡ Static g → kind_width sw (kind_from es kind) ≡ sw g
  unfolding kind_from kind_width
  wide-static g e = rw e

  pub wide-dynamic : (a : ℕ) → kind ≡ Dynamic a → kind_width sw (kind_from es kind) ≡ 4
  unfolding kind_from kind_width
  wide-dynamic a e = rw e

  pub kind-static : (D : ℕ → Bool) (g : ℕ) → kind ≡ Static g → shallow_kind D sw (kind_from es kind) ≡ leb 1 (sw g) && D g
  unfolding kind_from shallow_kind
  kind-static D g e = rw e

-- STATIC GROUPS

pub static-fields : (gs : List Group) (I : Inner) (d g : ℕ) (h : Here) (at : ℕ) (m : List ℕ) → 0 < d → static_r gs I d g h at m ≡ fields_r I (width gs (d - 1)) (static_r gs I (d - 1)) (fields_of gs g) h at m
unfolding static_r
static-fields gs I zero g h at m e = absurd (omega arith)
static-fields gs I (suc d) g h at m e = let q : suc d - 1 ≡ d = omega arith in rw q

-- A GROUP'S FIELDS, WHERE THEIR RECORDS STAND

module _ (t k : List ℕ) (P : Layout t k) (g : ℕ) (h : g < length (schema t)) (s n : ℕ) (is : s ≡ group_place k g) (in' : n ≡ field_count (drop s t)) where
  pub start-inside : s + 16 + 16 * (n - 0) ≤ length t
  start-inside = let i = rw (← is, ← in') at (P.placed.inside g h) in omega arith

  start-fields : fields_of (schema t) g ≡ fields_at (enums t) (n - 0) (drop (s + 16) t)
  start-fields = placed-fields t k _ P.placed g h ∙ rw (sub-zero, in', is)

  module _ (d : ℕ) (e : 0 < d) where
    pub start-static : (I : Inner) (l : Here) (at : ℕ) (m : List ℕ)
        → static_r (schema t) I d g l at m ≡ fields_r I (width (schema t) (d - 1)) (static_r (schema t) I (d - 1)) (fields_at (enums t) (n - 0) (drop (s + 16) t)) l at m
    start-static I l at m = static-fields (schema t) I d g l at m e ∙ rw start-fields

    pub start-width : width (schema t) d g ≡ fields_width (width (schema t) (d - 1)) (fields_at (enums t) (n - 0) (drop (s + 16) t))
    start-width = width-fields (schema t) d g e ∙ rw start-fields

    pub start-shallow : shallow (schema t) d g ≡ true → shallow_fields (shallow (schema t) (d - 1)) (width (schema t) (d - 1)) (fields_at (enums t) (n - 0) (drop (s + 16) t)) ≡ true
    start-shallow q = sym (shallow-fields (schema t) d g e ∙ rw start-fields) ∙ q

-- READY

pub ready : (t k b m m' : List ℕ) (f : Frame) → Ready t k b m f → length m' ≡ length b → Ready t k b m' f
ready t k b m m' f R e = record { layout = R.layout; same = e; small = R.small; room = R.room }
