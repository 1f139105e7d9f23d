-- A table's form changes neither its schema nor the places of its groups.
use Rattle.std.proofs.Common.{◌≡◌, ℕ, zero, suc, ◌+◌, ◌*◌, ◌<◌, ◌≤◌, Bool, true, false, cond, ◌||◌, List, ◌++◌, length, get_or, take, drop, replicate, sym, refl, ap, ◌∙◌, arith, length-append, length-drop, get_or-drop, get_or-take, take_at, drop_at}
use mathlib.Core.Bool.{false≢true}
use lib.Seq.{take-append-le, drop-append-le}
use Rattle.wire.specs.Bytes.{part, same}
use Rattle.wire.proofs.Laws.{length_part, part-part, same-eq}
use Rattle.schema.specs.Table.{EN, GR, GW, marked, group_marked, symbol_count, field_count, values_at, field_at, fields_at, group_at, enums_from, groups_from, places_from, record_count, enums, schema, places, group_mark}
use Rattle.schema.specs.Forms.{plain_record, plain_from, to_gr, Alike}

-- MARKS

module _ (t : List ℕ) where
  pub group-form : group_marked t ≡ true → (stored : Bool) × (marked (group_mark stored) t ≡ true)
  unfolding group_marked
  group-form e = go (marked GR t) (marked GW t) refl refl e
    where
      go : (c d : Bool) → marked GR t ≡ c → marked GW t ≡ d → (c || d) ≡ true → (stored : Bool) × (marked (group_mark stored) t ≡ true)
      go true d p q e = (false, p)
      go false true p q e = (true, q)
      go false false p q e = absurd (false≢true e)

  pub form-group : (stored : Bool) → marked (group_mark stored) t ≡ true → group_marked t ≡ true
  unfolding group_marked
  form-group false e = rw e
  form-group true e = rw e (or-true (marked GR t))
    where
      or-true : (a : Bool) → (a || true) ≡ true
      or-true true = refl
      or-true false = refl

-- RECORDS THAT TELL THE SAME

-- the first records of t and u are of one kind, and differ in their mark and their last two bytes at most
record Twin (t u : List ℕ) : Type 0 where
  body : part 12 2 u ≡ part 12 2 t
  group : group_marked u ≡ group_marked t
  enum : marked EN u ≡ marked EN t

module _ {t u : List ℕ} (h : Twin t u) where
  same-part : (n i : ℕ) → i + n ≤ 12 → part n (2 + i) u ≡ part n (2 + i) t
  same-part n i l = sym (part-part n i 12 2 u l) ∙ ap (part n i) h.body ∙ part-part n i 12 2 t l

  same_byte : (i : ℕ) → i < 12 → get_or u (2 + i) 0 ≡ get_or t (2 + i) 0
  same_byte i l =
      let at : (s : List ℕ) → get_or (part 12 2 s) i 0 ≡ get_or s (2 + i) 0 = λ s. get_or-take 12 (drop 2 s) i 0 l ∙ get_or-drop 2 s i 0 in
      sym (at u) ∙ ap (λ (s : List ℕ). get_or s i 0) h.body ∙ at t

  same-field : (es : List (List ℕ)) → field_at es u ≡ field_at es t
  unfolding field_at
  same-field es = rw (same_byte 0 (omega arith), same_byte 1 (omega arith), same_byte 2 (omega arith), same_byte 3 (omega arith), same-part 2 4 (omega arith))

-- so are the first n records, and what follows is the same
data Twins : ℕ → List ℕ → List ℕ → Type 0 where
  rest : {t : List ℕ} → Twins 0 t t
  next : {n : ℕ} {t u : List ℕ} → Twin t u → Twins n (drop 16 t) (drop 16 u) → Twins (suc n) t u

values-twins : {n : ℕ} {t u : List ℕ} (m : ℕ) → Twins n t u → values_at m u ≡ values_at m t
unfolding values_at
values-twins zero w = refl
values-twins (suc m) rest = refl
values-twins (suc m) (next h w) = rw (same-part h 4 0 (omega arith), values-twins m w)

fields-twins : {n : ℕ} {t u : List ℕ} (es : List (List ℕ)) (m : ℕ) → Twins n t u → fields_at es m u ≡ fields_at es m t
unfolding fields_at
fields-twins es zero w = refl
fields-twins es (suc m) rest = refl
fields-twins es (suc m) (next h w) = rw (same-field h es, fields-twins es m w)

enums-twins : {n : ℕ} {t u : List ℕ} → Twins n t u → enums_from n u ≡ enums_from n t
unfolding enums_from
enums-twins rest = refl
enums-twins {t = t} (next h w) = rw (h.enum, same-part h 2 0 (omega arith), values-twins (symbol_count t) w, enums-twins w)

groups-twins : {n : ℕ} {t u : List ℕ} (es : List (List ℕ)) → Twins n t u → groups_from es n u ≡ groups_from es n t
unfolding groups_from group_at
groups-twins es rest = refl
groups-twins {t = t} es (next h w) =
    rw (h.group, same-part h 8 0 (omega arith), same_byte h 8 (omega arith), same-part h 2 9 (omega arith), same_byte h 11 (omega arith), fields-twins es (field_count t) w, groups-twins es w)

places-twins : {n : ℕ} {t u : List ℕ} (p : ℕ) → Twins n t u → places_from n p u ≡ places_from n p t
unfolding places_from
places-twins p rest = refl
places-twins p (next h w) = rw (h.group, places-twins (p + 16) w)

-- A RECORD WITHOUT ITS WIDTH

part-front : (n at : ℕ) (a x : List ℕ) → at + n ≤ length a → part n at (a ++ x) ≡ part n at a
part-front n at a x h = ap (take n) (drop-append-le at a x (omega arith)) ∙ take-append-le n (drop at a) x (omega (arith, length-drop at a))

module _ (t : List ℕ) (l : 16 ≤ length t) where
  kept : length (take 16 t) ≡ 16
  kept = length_part 16 0 t l

  bare : length (GR ++ (part 12 2 t ++ replicate 2 0)) ≡ 16
  bare = simp length-append (omega (arith, length_part 12 2 t (omega arith)))

  pub plain-length : length (plain_record t) ≡ 16
  unfolding plain_record
  plain-length = go (marked GW t)
    where
      go : (c : Bool) → length (cond c (GR ++ (part 12 2 t ++ replicate 2 0)) (take 16 t)) ≡ 16
      go true = bare
      go false = kept

  front : (n at : ℕ) (x : List ℕ) → at + n ≤ 16 → part n at (take 16 t ++ x) ≡ part n at t
  front n at x h = let z : 0 + at ≡ at = omega arith in part-front n at (take 16 t) x (omega (arith, kept)) ∙ (rw z at (part-part n at 16 0 t h))

  plain-twin : (x : List ℕ) → Twin t (plain_record t ++ x)
  unfolding plain_record
  plain-twin x = go (marked GW t) refl
    where
      go : (c : Bool) → marked GW t ≡ c → Twin t (cond c (GR ++ (part 12 2 t ++ replicate 2 0)) (take 16 t) ++ x)
      go true e = record {
        body = part-front 12 2 (GR ++ (part 12 2 t ++ replicate 2 0)) x (omega (arith, bare)) ∙ take_at (part 12 2 t) (replicate 2 0) 12 (length_part 12 2 t (omega arith));
        group = unfold group_marked same in sym (form-group t true e);
        enum = unfold same in rw (same-eq (take 2 t) GW e);
      }
      go false e = record {
        body = front 12 2 x (omega arith);
        group = unfold group_marked in rw (front 2 0 x (omega arith));
        enum = rw (front 2 0 x (omega arith));
      }

-- A TABLE WITHOUT ITS WIDTHS

plain-twins : (n : ℕ) (t : List ℕ) → 16 * n ≤ length t → Twins n t (plain_from n t)
unfolding plain_from
plain-twins zero t l = rest
plain-twins (suc n) t l =
    let first : 16 ≤ length t = omega arith in
    let more = plain_from n (drop 16 t) in
    next {n = n} (plain-twin t first more) (rw (drop_at (plain_record t) more 16 (plain-length t first)) (plain-twins n (drop 16 t) (omega (arith, length-drop 16 t))))

plain-long : (n : ℕ) (t : List ℕ) → 16 * n ≤ length t → length (plain_from n t) ≡ length t
unfolding plain_from
plain-long zero t l = refl
plain-long (suc n) t l =
    let r = plain-long n (drop 16 t) (omega (arith, length-drop 16 t)) in
    length-append (plain_record t) (plain_from n (drop 16 t)) ∙ omega (arith, plain-length t (omega arith), r, length-drop 16 t)

module _ (t : List ℕ) where
  whole : 16 * record_count t ≤ length t
  whole = omega arith

  count-to_gr : record_count (to_gr t) ≡ record_count t
  unfolding to_gr
  count-to_gr = rw (plain-long (record_count t) t whole)

  twins : Twins (record_count t) t (to_gr t)
  unfolding to_gr
  twins = plain-twins (record_count t) t whole

  enums-to_gr : enums (to_gr t) ≡ enums t
  unfolding enums
  enums-to_gr = rw count-to_gr (enums-twins twins)

  pub schema-to_gr : schema (to_gr t) ≡ schema t
  unfolding schema
  schema-to_gr = rw (count-to_gr, enums-to_gr) (groups-twins (enums t) twins)

  pub places-to_gr : places (to_gr t) ≡ places t
  unfolding places
  places-to_gr = rw count-to_gr (places-twins 0 twins)

pub alike-schema : (t u : List ℕ) → Alike t u → schema t ≡ schema u
alike-schema t u e = sym (schema-to_gr t) ∙ ap schema e ∙ schema-to_gr u
