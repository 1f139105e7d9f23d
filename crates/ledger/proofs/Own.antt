-- The line's values are those that the message's sheet lists.
use Rattle.std.proofs.Common.{Ok}
use Prim.Native.Nat.{ℕ, zero, suc, ◌+◌, ◌-◌, ◌*◌, ◌/◌, ◌%◌, ◌^◌, ◌≤◌, ◌<◌}
use mathlib.Core.Path.{◌≡◌, refl, sym, ap, ◌∙◌}
use mathlib.Core.Bool.{Bool, true, false, cond}
use mathlib.Core.List.{List, [], ◌∷◌, ◌++◌, append-nil, append_assoc}
use native.Mathlib.Omega.{arith}
use native.Mathlib.Nat.{pow-succ'}
use lib.IntN.{pos, negsuc}
use lib.ListN.{length, drop, get_or, get_or-eq_default}
use lib.Seq.{get_or-take, get_or-drop}
use lib.Dec.{ltb, eqb}
use borrow.Author.Tests.{ltb-true, ltb-false}
use Rattle.wire.specs.Bytes.{part, le, bytes_of, signed, pattern}
use Rattle.wire.proofs.Laws.{length_part, part-add, bytes_le, le-bound, length-bytes, le_bytes}
use Rattle.schema.specs.Faults.{need}
use Rattle.schema.specs.Schema.{any, symbol, Kind, plain, inline, indirect, member, Field, Group, kind_width, value_width, field_width, fields_of, width, find}
use Rattle.schema.specs.Table.{scalar_width, kind_of, schema}
use Rattle.fields.specs.Fields.{signature_of}
use Rattle.fields.specs.Claims.{Typed}
use Rattle.message.specs.Walk.{byte}
use Rattle.message.specs.Sheet.{ST, GB, mark_bytes, GE}
use Rattle.meaning.specs.Conforms.{Value, number, inline_text, text, type_id, target, count_at, kind_v, value_v, field_v, static_v}
use Rattle.meaning.specs.Lists.{record_of, records}
use Rattle.reading.specs.Item.{item, absent, value_place, value_item, field_item, item_from, item_of}
use Rattle.reading.specs.Listed.{value_before, field_before, fields_before, values_before, item_value, record_in, records_in}
use Rattle.reading.specs.Number.{number_width, number_of, number_at}
use Rattle.reading.specs.Part.{part_of, part_at, bytes_in}
use Rattle.opening.specs.Opening.{Under}
use Rattle.codec.specs.Answers.{number_answer, part_answer}
use Rattle.codec.specs.Claims.{Reads}
use Rattle.codec.proofs.Claims.{claims}
use Rattle.ledger.specs.Ledger.{Blank, word_of, line_with}
use Rattle.ledger.specs.Claims.{Bytes, OwnBytes}

-- FOUR BYTES OF A NUMBER

low-bytes : (m n k : ℕ) → bytes_of m (n + 256 ^ m * k) ≡ bytes_of m n
unfolding bytes_of
low-bytes zero n k = refl
low-bytes (suc m) n k =
    let q : ℕ = 256 ^ m * k in
    let e : n + 256 ^ suc m * k ≡ n + 256 * q = rw pow-succ' (omega arith) in
    let r : (n + 256 * q) % 256 ≡ n % 256 = omega arith in
    let d : (n + 256 * q) / 256 ≡ n / 256 + q = omega arith in
    rw (e, r, d, low-bytes m (n / 256) k)

signed-bytes : (n : ℕ) → n < 2 ^ 32 → bytes_of 4 (pattern 63 (signed 31 n)) ≡ bytes_of 4 n
unfolding pattern
signed-bytes n h = go (ltb n (2 ^ 31)) refl
  where
    go : (c : Bool) → ltb n (2 ^ 31) ≡ c → bytes_of 4 (pattern 63 (cond c (pos n) (negsuc (2 ^ 32 - 1 - n)))) ≡ bytes_of 4 n
    go true e = refl
    go false e = let q : 2 ^ 64 - 1 - (2 ^ 32 - 1 - n) ≡ n + 256 ^ 4 * 4294967295 = omega arith in ap (bytes_of 4) q ∙ low-bytes 4 n 4294967295

module _ (p : ℕ) (b : List ℕ) (inside : p + 4 ≤ length b) (below : Bytes b) where
  part-below : (i : ℕ) → get_or (part 4 p b) i 0 < 256
  part-below i = go (ltb i 4) refl
    where
      go : (c : Bool) → ltb i 4 ≡ c → get_or (part 4 p b) i 0 < 256
      go true e = rw (get_or-take 4 (drop p b) i 0 (ltb-true i 4 e), get_or-drop p b i 0) (below (p + i))
      go false e = rw (get_or-eq_default (part 4 p b) 0 {n = i} (omega (arith, length_part 4 p b inside, ltb-false i 4 e))) (omega arith)

  same_bytes : bytes_of 4 (le (part 4 p b)) ≡ part 4 p b
  same_bytes = ap (λ (k : ℕ). bytes_of k (le (part 4 p b))) (sym (length_part 4 p b inside)) ∙ bytes_le (part 4 p b) part-below

  -- a u32's and an enumeration's
  pub unsigned_bytes : bytes_of 4 (word_of (number_of 5 (part 4 p b))) ≡ part 4 p b
  unfolding number_of member word_of
  unsigned_bytes = same_bytes

  pub symbol-bytes : bytes_of 4 (word_of (number_of 20 (part 4 p b))) ≡ part 4 p b
  unfolding number_of number_width scalar_width member word_of
  symbol-bytes = signed-bytes (le (part 4 p b)) (rw (length_part 4 p b inside) at (le-bound (part 4 p b) part-below)) ∙ same_bytes

-- THE FIELDS OF BLANK

abbrev pub required : ℕ → Kind → Field
required type kind = record { type = type; kind = kind; optional = false; sequence = false }

abbrev flag : Bool → ℕ
flag c = cond c 1 0

no_flag : (c : Bool) → flag c ≡ 0 → c ≡ false
no_flag true e = absurd (omega (arith, e))
no_flag false e = refl

is-required : (es : List (List ℕ)) (f : Field) (k : ℕ) → ((size : ℕ) × (ref : ℕ) × (f.kind ≡ kind_of es f.type size ref)) → f.type ≡ k → flag f.optional ≡ 0 → flag f.sequence ≡ 0
    → (size : ℕ) × (ref : ℕ) × (f ≡ required k (kind_of es k size ref))
is-required es f k (size, ref, e) y o s = (size, ref, λ i. record { type = y i; kind = (e ∙ ap (λ (z : ℕ). kind_of es z size ref) y) i; optional = no_flag f.optional o i; sequence = no_flag f.sequence s i })

abbrev pub blank_fields : Kind → List ℕ → Field → List Field
blank_fields barcode symbols note = required 17 barcode ∷ (required 5 (plain 4 any) ∷ (required 5 (plain 4 any) ∷ (required 20 (plain 4 (symbol symbols)) ∷ (note ∷ []))))

pub record BlankFields (fs : List Field) : Type 0 where
  pub size : ℕ
  pub symbols : List ℕ
  pub note : Field
  pub are : fs ≡ blank_fields (cond (eqb size 0) (indirect true) (inline true size)) symbols note

pub blank-fields : (es : List (List ℕ)) (fs : List Field) → Typed es fs → signature_of fs ≡ Blank → BlankFields fs
unfolding signature_of kind_of scalar_width
blank-fields es [] T e = let z : ◌≡◌ {A = ℕ} 0 1 = cc in absurd (omega arith)
blank-fields es (a ∷ []) T e = let z : ◌≡◌ {A = ℕ} 0 1 = cc in absurd (omega arith)
blank-fields es (a ∷ (b ∷ [])) T e = let z : ◌≡◌ {A = ℕ} 0 1 = cc in absurd (omega arith)
blank-fields es (a ∷ (b ∷ (c ∷ []))) T e = let z : ◌≡◌ {A = ℕ} 0 1 = cc in absurd (omega arith)
blank-fields es (a ∷ (b ∷ (c ∷ (d ∷ [])))) T e = let z : ◌≡◌ {A = ℕ} 0 1 = cc in absurd (omega arith)
blank-fields es (a ∷ (b ∷ (c ∷ (d ∷ (n ∷ (x ∷ fs)))))) T e = let z : ◌≡◌ {A = ℕ} 0 1 = cc in absurd (omega arith)
blank-fields es (a ∷ (b ∷ (c ∷ (d ∷ (n ∷ []))))) T e =
    let A = is-required es a 17 T.0 (cc) (cc) (cc) in
    let B = is-required es b 5 T.1.0 (cc) (cc) (cc) in
    let C = is-required es c 5 T.1.1.0 (cc) (cc) (cc) in
    let D = is-required es d 20 T.1.1.1.0 (cc) (cc) (cc) in
    record { size = A.0; symbols = get_or es D.1 []; note = n; are = λ i. A.2 i ∷ (B.2 i ∷ (C.2 i ∷ (D.2 i ∷ (n ∷ [])))) }

-- THE MESSAGE AND ITS SHEET

-- the line of what is read
abbrev pub line_read : List ℕ → List ℕ → Under → List ℕ
line_read t b u = line_with (bytes_in b (part_answer t b u 0 0)) (bytes_of 4 (word_of (number_answer t b u 1 0))) (bytes_of 4 (word_of (number_answer t b u 2 0))) (bytes_of 4 (word_of (number_answer t b u 3 0)))

-- whose fields are these: the first is of kind k, and its value v
module _ (t b : List ℕ) (u : Under) (s : List ℕ) (R : Reads t b u s) (below : Bytes b) (k : Kind) (v : Value) (one : kind_v (static_v (schema t) 4) k b 16 ≡ v ∷ []) (symbols : List ℕ) (note : Field)
    (are : fields_of (schema t) (find (schema t) (type_id b)) ≡ blank_fields k symbols note) where
  abbrev gs : List Group
  gs = schema t

  abbrev w : ℕ
  w = kind_width (width gs 4) k

  item-0 : item_of gs b 0 0 ≡ item (required 17 k) 16
  unfolding item_of item_from field_item absent value_place value_item need
  item-0 = rw are

  item-1 : item_of gs b 1 0 ≡ item (required 5 (plain 4 any)) (16 + w)
  unfolding item_of item_from field_item absent value_place value_item need field_width value_width
  item-1 = rw are

  item-2 : item_of gs b 2 0 ≡ item (required 5 (plain 4 any)) (16 + w + 4)
  unfolding item_of item_from field_item absent value_place value_item need field_width value_width kind_width
  item-2 = rw are

  item-3 : item_of gs b 3 0 ≡ item (required 20 (plain 4 (symbol symbols))) (16 + w + 4 + 4)
  unfolding item_of item_from field_item absent value_place value_item need field_width value_width kind_width
  item-3 = rw are

  inside-1 : 16 + w + 4 ≤ length b
  unfolding kind_width
  inside-1 = R.inside 1 0 _ _ item-1

  inside-2 : 16 + w + 4 + 4 ≤ length b
  unfolding kind_width
  inside-2 = R.inside 2 0 _ _ item-2

  inside-3 : 16 + w + 4 + 4 + 4 ≤ length b
  unfolding kind_width
  inside-3 = R.inside 3 0 _ _ item-3

  number-1 : bytes_of 4 (word_of (number_answer t b u 1 0)) ≡ part 4 (16 + w) b
  unfolding number_at number_width scalar_width member
  number-1 = ap (λ x. bytes_of 4 (word_of x)) (R.number 1 0 ∙ ap (number_at b) item-1) ∙ unsigned_bytes (16 + w) b inside-1 below

  number-2 : bytes_of 4 (word_of (number_answer t b u 2 0)) ≡ part 4 (16 + w + 4) b
  unfolding number_at number_width scalar_width member
  number-2 = ap (λ x. bytes_of 4 (word_of x)) (R.number 2 0 ∙ ap (number_at b) item-2) ∙ unsigned_bytes (16 + w + 4) b inside-2 below

  number-3 : bytes_of 4 (word_of (number_answer t b u 3 0)) ≡ part 4 (16 + w + 4 + 4) b
  unfolding number_at number_width scalar_width member
  number-3 = ap (λ x. bytes_of 4 (word_of x)) (R.number 3 0 ∙ ap (number_at b) item-3) ∙ symbol-bytes (16 + w + 4 + 4) b inside-3 below

  values : values_before gs b 3 0 ≡ v ∷ (number 4 any (16 + w) ∷ (number 4 any (16 + w + 4) ∷ []))
  unfolding fields_before field_before value_before field_v value_v kind_v field_width value_width kind_width
  values = rw (are, one)

  read-0 : part_answer t b u 0 0 ≡ part_of 17 k b 16
  unfolding part_at
  read-0 = R.bytes 0 0 ∙ ap (part_at b) item-0

  pub text-inside : (p n : ℕ) → part_of 17 k b 16 ≡ Ok (record { start = p; length = n }) → p + n ≤ length b
  text-inside p n e = claims.part-inside t b u 0 0 p n (read-0 ∙ e)

  -- a text's count x and bytes y, as they are read and as the sheet has them, make the line
  pub own_line : (x y : List ℕ) → bytes_in b (part_of 17 k b 16) ≡ y → length x ≡ 4 → le x ≡ length y → record_in gs b v ≡ mark_bytes ST ++ (x ++ y) → OwnBytes b s (line_read t b u)
  unfolding records record_of item_value
  own_line x y read four counts is =
      let L = R.listed 3 0 _ _ item-3 in
      record {
        barcode = y;
        count = x;
        density = 16 + w;
        speed = 16 + w + 4;
        grade = 16 + w + 4 + 4;
        rest = records_in gs b (L.within ++ L.behind) ++ GE;
        long = omega (arith, inside-1);
        inside = (inside-1, inside-2, inside-3);
        four = four;
        counts = counts;
        line = λ i. line_with ((ap (bytes_in b) read-0 ∙ read) i) (number-1 i) (number-2 i) (number-3 i);
        sheet = L.sheet ∙ ap (λ vs. mark_bytes GB ++ (part 8 4 b ++ (records_in gs b vs ++ (record_in gs b (item_value (plain 4 (symbol symbols)) (16 + w + 4 + 4)) ++ (records_in gs b (L.within ++ L.behind) ++ GE))))) values ∙ rw is (simp (append_assoc, append-nil));
      }

-- "inline strings are strings": the barcode in the data area, or in place
pub own-values : (t b : List ℕ) (u : Under) (s : List ℕ) → Reads t b u s → Bytes b → BlankFields (fields_of (schema t) (find (schema t) (type_id b))) → OwnBytes b s (line_read t b u)
own-values t b u s R below F = go (eqb F.size 0) F.are
  where
    go : (c : Bool) → fields_of (schema t) (find (schema t) (type_id b)) ≡ blank_fields (cond c (indirect true) (inline true F.size)) F.symbols F.note → OwnBytes b s (line_read t b u)
    go true are = unfold kind_v part_of bytes_in record_of in
        let at = target b 16 in
        let n = count_at b 16 in
        let i = text-inside t b u s R below (indirect true) (text true 16) refl F.symbols F.note are (at + 4) n refl in
        own_line t b u s R below (indirect true) (text true 16) refl F.symbols F.note are (part 4 at b) (part n (at + 4) b) refl
        (length_part 4 at b (omega (arith, i))) (sym (length_part n (at + 4) b i)) (ap (λ z. mark_bytes ST ++ z) (part-add 4 n at b))
    go false are = unfold kind_v part_of bytes_in record_of in
        let n = byte 16 b in
        let v = inline_text true F.size 16 in
        let i = text-inside t b u s R below (inline true F.size) v refl F.symbols F.note are 17 n refl in
        own_line t b u s R below (inline true F.size) v refl F.symbols F.note are (bytes_of 4 n) (part n 17 b) refl
        (length-bytes 4 n) (le_bytes 4 n (omega (arith, below 16)) ∙ sym (length_part n 17 b i)) refl
