-- What the code finds is what the definitions say, and it lies in the message.
use Rattle.schema.specs.declared.Fault.{Fault}
use Rattle.schema.specs.Faults.{fault_at}
use Rattle.std.specs.Result.{result_and}
use Rattle.std.proofs.Common.{Ok, Err, Result}
use mathlib.Core.Path.{◌≡◌, refl, sym, ap, ◌∙◌, subst}
use mathlib.Core.Bool.{Bool, true, false, cond, ◌&&◌, and-eq-true_iff}
use mathlib.Core.List.{List, [], ◌∷◌}
use Prim.Native.Nat.{ℕ, ◌+◌, ◌*◌, ◌<◌, ◌≤◌}
use native.Mathlib.Omega.{arith}
use lib.ListN.{length, take, drop, get_or}
use lib.Dec.{eqb}
use borrow.Author.Tests.{ne_eqb, eqb-true}
use Rattle.wire.specs.Bytes.{part}
use Rattle.schema.specs.Schema.{Kind, member, kind_width, width, find}
use Rattle.schema.specs.Table.{scalar_width, kind_of, field_at, field_type, field_size, reference, field_count, enums, schema}
use Rattle.schema.specs.Layout.{group_place, group_total, width_in, Placed, Layout}
use Rattle.schema.specs.FieldKinds.{tested_kind, kind_from}
use Rattle.schema.specs.declared.FieldKind.{FieldKind}
use Rattle.schema.specs.declared.FieldKind.TheVariants.{Plain, Number, Inline, Indirect, Static, Dynamic}
use Rattle.schema.specs.declared.Tested.{Tested}
use Rattle.schema.specs.declared.Tested.TheVariants.{Flag, Millis, Nanos, Symbol}
use Rattle.schema.proofs.Records.{byte_at}
use Rattle.schema.proofs.Groups.{placed-fields, find-whole}
use Rattle.settings.specs.declared.Ignored.{Ignored}
use Rattle.message.specs.Walk.{byte}
use Rattle.meaning.specs.Conforms.{target, count_at, type_id}
use Rattle.message.proofs.Tests.{true-false, or_cases}
use Rattle.reading.specs.Item.{Accepted, Item, missing, item, item_from, item_of, field_in, fields_in, item_in, Recorded}
use Rattle.reading.specs.Number.{number_types, number_width, number_of, number_at}
use Rattle.reading.specs.Part.{part_of, part_at, bytes_in, start_of, verdict_of}
use Rattle.reading.specs.Laid.{Led, Laid, ItemLaid}
use Rattle.reading.specs.declared.Located.{Located}
use Rattle.reading.specs.declared.Part.{Part}
use Rattle.reading.proofs.Read.{fields_laid}
use Rattle.reading.proofs.Opened.{inner, statics, own_fields, top, Opened, opened, KindRead, OwnRead, item-read, item-laid, PartLaid, part-laid, same_item, same-laid, same-group}

-- A TYPE'S NUMBER LIES IN ITS KIND'S BYTES

unfoldable pub every : (ℕ → Bool) → List ℕ → Bool
every p [] = true
every p (x ∷ xs) = p x && every p xs

pub among : (p : ℕ → Bool) (x : ℕ) (xs : List ℕ) → every p xs ≡ true → member x xs ≡ true → p x ≡ true
unfolding member every
among p x [] a e = absurd (true-false false e refl)
among p x (y ∷ ys) a e =
    let q = (and-eq-true_iff (p y) (every p ys)).0 a in
    or_cases (eqb x y) (member x ys) (λ i. rw (eqb-true x y i) q.0) (λ m. among p x ys q.1 m) e

module _ (sw : ℕ → ℕ) (es : List (List ℕ)) (size ref : ℕ) where
  number-kind : (t : ℕ) → member t number_types ≡ true → kind_width sw (kind_of es t size ref) ≡ scalar_width t
  unfolding every kind_of kind_width scalar_width
  number-kind t e = eqb-true _ _ (among (λ (t : ℕ). eqb (kind_width sw (kind_of es t size ref)) (scalar_width t)) t number_types refl e)

-- THE MESSAGE'S FIELDS, WHERE THE TABLE HAS THEM

module _ (y : Ignored) (t k b : List ℕ) (P : Layout t k) (A : Accepted y t b) where
  abbrev own : Opened y (schema t) b
  own = opened y (schema t) b A.0 A.1 A.2

  pub message-long : 16 ≤ length b
  message-long = own.long

  pub find-ready : (n : ℕ) → n ≡ group_total k → (Placed t k n) × (length k ≡ 322) × (n ≤ 64) × (length t ≤ 65536)
  find-ready n e = let q = e ∙ P.total in (rw q P.placed, P.long, rw q P.few, P.small)

  pub group-found : (n g id : ℕ) → n ≡ group_total k → id ≡ type_id b → g ≡ find (take n (schema t)) id → g ≡ find (schema t) (type_id b)
  group-found n g id e d f = f ∙ find-whole (schema t) n id (e ∙ P.total) ∙ ap (find (schema t)) d

  module _ (g : ℕ) (is : g ≡ find (schema t) (type_id b)) where
    group-in : g < length (schema t)
    group-in = rw is own.named

    pub group-few : g < 64
    group-few = omega (arith, group-in, P.few)

    module _ (r c : ℕ) (at : r ≡ group_place k g) (counts : c ≡ field_count (drop r t)) where
      pub rows_in : r + 16 + 16 * c ≤ length t
      rows_in = rw (counts, at) (P.placed.inside g group-in)

      fields-are : own_fields y (schema t) b ≡ fields_in t (r + 16) c
      fields-are = rw (← is, counts, at) (placed-fields t k (length (schema t)) P.placed g group-in)

      pub rows-laid : Laid (width_in k) b (fields_in t (r + 16) c) 16
      rows-laid =
          rw fields-are at (same-laid (width_in k) (width (schema t) 4) (own_fields y (schema t) b) b 16 (same-group t k P (find (schema t) (type_id b)))
          (fields_laid (inner y (schema t) b) (width (schema t) 4) (statics y (schema t) b) (top y (schema t) b) (own_fields y (schema t) b) 16 own.before own.is own.fixed))

      pub rows-item : (n i : ℕ) → item_from (width_in k) (fields_in t (r + 16) c) b 16 n i ≡ item_of (schema t) b n i
      unfolding item_of
      rows-item n i = rw (← fields-are) (same_item (width_in k) (width (schema t) 4) (own_fields y (schema t) b) b 16 n i (same-group t k P (find (schema t) (type_id b))))

-- THE ITEM THAT WAS FOUND

module _ (y : Ignored) (t b : List ℕ) (A : Accepted y t b) (v : Result Located Fault) (n i : ℕ) (is : item_in t v ≡ item_of (schema t) b n i) where
  found-read : (r p : ℕ) → v ≡ Ok (record { row = r; place = p }) → KindRead y (schema t) b (field_in t r).kind p
  unfolding item_in
  found-read r p e = subst (λ (v : Result Located Fault). OwnRead y (schema t) b (item_in t v)) e (subst (λ (x : Item). OwnRead y (schema t) b x) (sym is) (item-read y (schema t) b A.0 A.1 A.2 n i))

  pub found-laid : (r p : ℕ) → v ≡ Ok (record { row = r; place = p }) → ItemLaid b (field_in t r).kind p
  found-laid r p e = item-laid (inner y (schema t) b) (width (schema t) 4) (statics y (schema t) b) (top y (schema t) b) _ p (found-read r p e)

  pub found_number : (r p x : ℕ) → v ≡ Ok (record { row = r; place = p }) → x ≡ get_or t (r + 2) 0 → p + number_width x ≤ length b
  unfolding number_width field_at
  found_number r p x e q =
      let ty : x ≡ field_type (drop r t) = q ∙ sym (byte_at t r 2) in
      rw ty (go (member (field_type (drop r t)) number_types) refl)
    where
      go : (c : Bool) → member (field_type (drop r t)) number_types ≡ c → p + cond c (scalar_width (field_type (drop r t))) 0 ≤ length b
      go true m = omega (arith, (found-read r p e).inside, number-kind (width (schema t) 4) (enums t) (field_size (drop r t)) (reference (drop r t)) (field_type (drop r t)) m)
      go false m = omega (arith, (found-read r p e).inside)

  -- what is said of it

  pub number-missing : (f : Fault) → f.place ≡ 0 → v ≡ Err f → Err f ≡ number_at b (item_of (schema t) b n i)
  unfolding item_in number_at
  number-missing f z e = ap (λ (k : ℕ). Err (fault_at f.number k)) z ∙ ap (λ (v : Result Located Fault). number_at b (item_in t v)) (sym e) ∙ ap (number_at b) is

  pub number-found : (r p x : ℕ) → v ≡ Ok (record { row = r; place = p }) → x ≡ get_or t (r + 2) 0 → number_of x (part (number_width x) p b) ≡ number_at b (item_of (schema t) b n i)
  unfolding item_in number_at field_at
  number-found r p x e q =
      ap (λ (x : ℕ). number_of x (part (number_width x) p b)) (q ∙ sym (byte_at t r 2)) ∙ ap (λ (v : Result Located Fault). number_at b (item_in t v)) (sym e) ∙ ap (number_at b) is

  pub part-missing : (f : Fault) → f.place ≡ 0 → v ≡ Err f → Err f ≡ part_at b (item_of (schema t) b n i)
  unfolding item_in part_at
  part-missing f z e = ap (λ (k : ℕ). Err (fault_at f.number k)) z ∙ ap (λ (v : Result Located Fault). part_at b (item_in t v)) (sym e) ∙ ap (part_at b) is

  pub part-found : (r p : ℕ) → v ≡ Ok (record { row = r; place = p }) → part_of (field_in t r).type (field_in t r).kind b p ≡ part_at b (item_of (schema t) b n i)
  unfolding item_in part_at field_at
  part-found r p e = ap (λ (v : Result Located Fault). part_at b (item_in t v)) (sym e) ∙ ap (part_at b) is

pub row_inside : (t : List ℕ) (v : Result Located Fault) (r p : ℕ) → Recorded t v → v ≡ Ok (record { row = r; place = p }) → r + 16 ≤ length t
row_inside t v r p h e = subst (Recorded t) e h

-- what is missing is told at place 0
pub at_none : (t : List ℕ) (v : Result Located Fault) (f : Fault) → Recorded t v → v ≡ Err f → f.place ≡ 0
at_none t v f h e = subst (Recorded t) e h

-- the part lies in the message
pub part-inside : (y : Ignored) (t b : List ℕ) → Accepted y t b → (n i : ℕ) (v : Result Part Fault) → v ≡ part_at b (item_of (schema t) b n i) → (p m : ℕ) → v ≡ Ok (record { start = p; length = m }) → p + m ≤ length b
unfolding part_at
part-inside y t b A n i v is p m e =
    let r = item-read y (schema t) b A.0 A.1 A.2 n i in
    subst (PartLaid b) (sym is ∙ e) (go (item_of (schema t) b n i) r)
  where
    go : (x : Item) → OwnRead y (schema t) b x → PartLaid b (part_at b x)
    go (missing n) r = tt
    go (item f p) r = part-laid (inner y (schema t) b) (width (schema t) 4) (statics y (schema t) b) (top y (schema t) b) f.type f.kind p r

pub verdict-and : (x : Result Part Fault) → result_and x (Ok tt) ≡ verdict_of x
unfolding verdict_of
verdict-and (Ok x) = refl
verdict-and (Err f) = refl

-- what is handed out of a part, and where it starts
module _ (b : List ℕ) (x : Result Part Fault) where
  pub bytes-none : (f : Fault) → Err f ≡ x → [] ≡ bytes_in b x
  unfolding bytes_in
  bytes-none f e = ap (bytes_in b) e

  pub bytes-some : (p n : ℕ) → Ok (record { start = p; length = n }) ≡ x → part n p b ≡ bytes_in b x
  unfolding bytes_in
  bytes-some p n e = ap (bytes_in b) e

  pub start_none : (q : ℕ) (f : Fault) → Err f ≡ x → 0 + q ≡ q + start_of x
  unfolding start_of
  start_none q f e = omega (arith, ap start_of e)

  pub start-some : (q p n : ℕ) → Ok (record { start = p; length = n }) ≡ x → p + q ≡ q + start_of x
  unfolding start_of
  start-some q p n e = omega (arith, ap start_of e)

-- THE PART OF EACH KIND

module _ (t : List ℕ) (r : ℕ) (b : List ℕ) (at : ℕ) where
  abbrev kind : Kind
  kind = (field_in t r).kind

  abbrev part_here : Result Part Fault
  part_here = part_of (field_in t r).type kind b at

  pub part-fixed : (n : ℕ) → get_or t (r + 2) 0 ≡ 19 → n ≡ get_or t (r + 5) 0 → Ok (record { start = at; length = n }) ≡ part_here
  unfolding part_of field_at kind_of
  part-fixed n e q = let z : field_type (drop r t) ≡ 19 = byte_at t r 2 ∙ e in rw (z, q, ← (byte_at t r 5))

  module _ (v : FieldKind) (is : kind_from (enums t) v ≡ kind) where
    module _ (other : get_or t (r + 2) 0 ≡ 19 → ⊥) where
      other-type : (field_in t r).type ≡ 19 → ⊥
      unfolding field_at
      other-type e = other (sym (byte_at t r 2) ∙ e)

      pub part-plain : (w : ℕ) → v ≡ Plain w → Err (fault_at 48 0) ≡ part_here
      unfolding part_of kind_from
      part-plain w e = rw (← is, e, ne_eqb _ _ other-type)

      pub part-number : (x : Tested) → v ≡ Number x → Err (fault_at 48 0) ≡ part_here
      unfolding part_of kind_from tested_kind
      part-number x e = rw (← is, e) (go x)
        where
          go : (x : Tested) → Err (fault_at 48 0) ≡ part_of (field_in t r).type (tested_kind (enums t) x) b at
          go Flag = rw (ne_eqb _ _ other-type)
          go Millis = rw (ne_eqb _ _ other-type)
          go Nanos = rw (ne_eqb _ _ other-type)
          go (Symbol l) = rw (ne_eqb _ _ other-type)

    pub part-static : (g : ℕ) → v ≡ Static g → Err (fault_at 48 0) ≡ part_here
    unfolding part_of kind_from
    part-static g e = rw (← is, e)

    module _ (l : ItemLaid b kind at) where
      pub inline-laid : (u : Bool) (c : ℕ) → v ≡ Inline u c → at + 1 ≤ length b
      unfolding kind_from
      inline-laid u c e = rw (← is, e) at l

      pub indirect-laid : (u : Bool) → v ≡ Indirect u → Led b at
      unfolding kind_from
      indirect-laid u e = rw (← is, e) at l

      pub dynamic-laid : (a : ℕ) → v ≡ Dynamic a → Led b at
      unfolding kind_from
      dynamic-laid a e = rw (← is, e) at l

    pub part-inline : (u : Bool) (c n : ℕ) → v ≡ Inline u c → n ≡ byte at b → Ok (record { start = at + 1; length = n }) ≡ part_here
    unfolding part_of kind_from
    part-inline u c n e q = rw (← is, e, q)

    -- p: where the offset leads; n: the count or size there
    module _ (p n : ℕ) (leads : p ≡ target b at) (counts : n ≡ count_at b at) where
      pub part-indirect : (u : Bool) → v ≡ Indirect u → Ok (record { start = p + 4; length = n }) ≡ part_here
      unfolding part_of kind_from
      part-indirect u e = rw (← is, e, leads, counts)

      pub part-dynamic : (a : ℕ) → v ≡ Dynamic a → Ok (record { start = p; length = 4 + n }) ≡ part_here
      unfolding part_of kind_from
      part-dynamic a e = rw (← is, e, leads, counts)
