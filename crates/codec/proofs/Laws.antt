-- The public answers, by what the crates below found.
use Rattle.schema.specs.declared.Fault.{Fault}
use Rattle.std.proofs.Common.{Ok, Err, Some, None, Result}
use Prim.Native.Nat.{ℕ, ◌+◌, ◌<◌, ◌≤◌}
use mathlib.Core.Path.{◌≡◌, refl, sym, ap, ◌∙◌}
use mathlib.Core.Bool.{Bool, true, false, ◌&&◌, and-false}
use mathlib.Core.List.{List, []}
use native.Mathlib.Omega.{arith}
use lib.ListN.{length}
use lib.Dec.{leb}
use borrow.Author.Tests.{le-leb, lt-leb, leb-true, eq-eqb, ne_eqb}
use Rattle.wire.specs.Bytes.{part, splice}
use Rattle.wire.proofs.Laws.{length-splice, part-splice}
use Rattle.schema.specs.Faults.{fault_at, need, also}
use Rattle.schema.specs.Schema.{Group}
use Rattle.schema.specs.Table.{schema, table_verdict}
use Rattle.fields.specs.Fields.{has_under}
use Rattle.fields.proofs.Laws.{has-accepted}
use Rattle.settings.specs.Store.{strict}
use Rattle.message.specs.Walk.{refused, done}
use Rattle.meaning.specs.Conforms.{type_id}
use Rattle.meaning.specs.Proper.{Sized}
use Rattle.sheet.specs.Written.{Writing, stopped, wrote, sheet_w, fitted, written}
use Rattle.sheet.specs.Rewritten.{sheet_in, onward}
use Rattle.sheet.proofs.RoundTrip as trip
use Rattle.parsing.specs.Count.{capped}
use Rattle.parsing.specs.Parse.{parsed_of}
use Rattle.reading.specs.Item.{item_of}
use Rattle.reading.specs.Number.{number_at}
use Rattle.reading.specs.Part.{part_at}
use Rattle.reading.specs.Part as parts
use Rattle.opening.specs.Opening.{accepted, Under, message_reading, Known}
use Rattle.opening.proofs.Laws.{sized, reading-under, verdict-accepted, verdict-refused}
use Rattle.codec.specs.Answers.{written_of, room_after, Writes, to_sheet, to_message, Allowed, Within, number_answer, part_answer, bytes_verdict, message_type, front_under, front_answer, front_in}

-- MESSAGE TO SHEET

-- what a question that writes answers, and what it leaves in its room
pub writes_nothing : (x : Writing) (f : Fault) (room : List ℕ) → x ≡ stopped f.number f.place → Writes x (Err f) room room
unfolding written_of room_after
writes_nothing x f room e = (rw e, rw e)

pub writes-it : (x : Writing) (X : List ℕ) (n : ℕ) (before left : List ℕ) → x ≡ wrote X [] [] → n ≡ length X → left ≡ splice (length X) 0 X before → Writes x (Ok n) before left
unfolding written_of room_after
writes-it x X n before left e l f = (rw e (ap Ok l), rw e f)

module _ (t b : List ℕ) (u : Under) (room : ℕ) where
  pub sheet-refused : (n p : ℕ) → message_reading t b u ≡ refused n p → to_sheet t b u room ≡ stopped n p
  unfolding to_sheet sheet_in
  sheet-refused n p e = rw e

  module _ (s : List ℕ) (e : message_reading t b u ≡ done s []) where
    pub sheet-46 : room < length s → to_sheet t b u room ≡ stopped 46 0
    unfolding to_sheet sheet_in need
    sheet-46 short = rw (e, lt-leb _ _ short)

    pub sheet-written : length s ≤ room → to_sheet t b u room ≡ wrote s [] []
    unfolding to_sheet sheet_in need
    sheet-written fits = rw (e, le-leb _ _ fits)

-- SHEET TO MESSAGE

module _ (gs : List Group) (ok : Sized gs) (s : List ℕ) where
  pub parsed-refuses : (f : Fault) → Err f ≡ parsed_of (sheet_w gs s) → sheet_w gs s ≡ stopped f.number f.place
  parsed-refuses f = go (sheet_w gs s)
    where
      go : (x : Writing) → Err f ≡ parsed_of x → x ≡ stopped f.number f.place
      go (stopped n p) e = unfold parsed_of in cc
      go (wrote X D r) e = unfold parsed_of in absurd (cc)

  pub parsed-allows : (n : ℕ) → Ok n ≡ parsed_of (sheet_w gs s) → Allowed gs s n
  parsed-allows n e = go (sheet_w gs s) refl e
    where
      go : (x : Writing) → sheet_w gs s ≡ x → Ok n ≡ parsed_of x → Allowed gs s n
      go (stopped k p) w e = unfold parsed_of in absurd (cc)
      go (wrote X D r) w e = unfold parsed_of in
          let g = trip.write_read gs ok strict s X D r w in
          let l : capped (length X) ≡ n = cc in
          record { message = X; makes = w ∙ let a = g.alone in let b = g.whole in cc; long = l }

pub message-20 : (t : List ℕ) (f : Fault) → Err f ≡ table_verdict t → (s : List ℕ) (room : ℕ) → to_message t s room ≡ stopped 20 0
unfolding to_message accepted need
message-20 t f e s room = rw (← e)

pub message-under : (t : List ℕ) → table_verdict t ≡ Ok tt → (s : List ℕ) (room : ℕ) → to_message t s room ≡ written (schema t) room s
unfolding to_message accepted need
message-under t e s room = rw e

module _ (gs : List Group) (s : List ℕ) (room : ℕ) where
  pub written-refused : (n p : ℕ) → sheet_w gs s ≡ stopped n p → written gs room s ≡ stopped n p
  unfolding written fitted
  written-refused n p e = rw e

  module _ (X : List ℕ) (m : sheet_w gs s ≡ wrote X [] []) where
    written-by : (c : Bool) → leb (length X) room && leb (length X) 65536 ≡ c → written gs room s ≡ need c (stopped 47 0) (wrote X [] [])
    unfolding written fitted
    written-by c e = rw (m, e)

    pub written-fits : length X ≤ room → length X ≤ 65536 → written gs room s ≡ wrote X [] []
    unfolding need
    written-fits l h = written-by true (rw (le-leb (length X) room l, le-leb (length X) 65536 h))

  module _ (n : ℕ) (a : Allowed gs s n) where
    pub written-47-room : room < n → written gs room s ≡ stopped 47 0
    unfolding need capped
    written-47-room l = written-by a.message a.makes false (rw (lt-leb (length a.message) room (omega (arith, a.long, l))))

    pub written-47-most : 65536 < n → written gs room s ≡ stopped 47 0
    unfolding need capped
    written-47-most l = written-by a.message a.makes false (rw (lt-leb (length a.message) 65536 (omega (arith, a.long, l))) (and-false (leb (length a.message) room)))

  -- a count up to 65,536 is the length itself
  pub counted-within : (n : ℕ) → Allowed gs s n → n ≤ 65536 → Within gs s n
  unfolding capped
  counted-within n a h = record { message = a.message; makes = a.makes; most = omega (arith, a.long, h); small = h }

  -- the message of a sheet, written where it fits
  pub writes-within : (n : ℕ) (a : Within gs s n) → n ≤ room → (before left : List ℕ) → length before ≡ room → (r : ℕ)
      → ((X : List ℕ) → sheet_w gs s ≡ wrote X [] [] → (left ≡ splice (length X) 0 X before) × (r ≡ length X)) → Writes (written gs room s) (Ok r) before left
  writes-within n a l before left e r w =
      let x = w a.message a.makes in
      writes-it _ a.message r before left (written-fits a.message a.makes (omega (arith, a.most, l)) (omega (arith, a.most, a.small))) x.1 x.0

-- REWRITING

-- "Every message whose sheet equals A's, A among them, has at least as many bytes as the rewritten A."
pub known-within : (t b : List ℕ) (u : Under) (k : List ℕ) (n : ℕ) (K : Known t b u k n) → Within (schema t) K.sheet (length b)
known-within t b u k n K =
    let M = trip.message-means _ (schema t) u.scratch b K.sheet [] (sym (reading-under t K.table u K.store b) ∙ K.means) in
    let x = trip.read-write (schema t) (sized t K.table) _ b K.sheet M in
    record { message = x.0; makes = x.1; most = x.2; small = K.small }

pub unwritten : (x : Writing) (f : Fault) → Err f ≡ written_of x → x ≡ stopped f.number f.place
unfolding written_of
unwritten (stopped n p) f e = cc
unwritten (wrote X D r) f e = absurd (cc)

-- what message to sheet has written, as a part of the room
pub record Shown (t b : List ℕ) (u : Under) (s before left : List ℕ) (n : ℕ) : Type 0 where
  pub is : to_sheet t b u (length before) ≡ wrote s [] []
  pub inside : n ≤ length left
  pub here : part n 0 left ≡ s

pub shown : (t b : List ℕ) (u : Under) (s : List ℕ) → message_reading t b u ≡ done s [] → (n : ℕ) (before left : List ℕ)
    → (r : Result ℕ Fault) → r ≡ Ok n → Writes (to_sheet t b u (length before)) r before left → Shown t b u s before left n
unfolding to_sheet sheet_in
shown t b u s e n before left r is (w, l) = go (leb (length s) (length before)) refl (sym is ∙ rw e at w) (rw e at l)
  where
    go : (c : Bool) → leb (length s) (length before) ≡ c → Ok n ≡ written_of (need c (stopped 46 0) (wrote s [] [])) → left ≡ room_after (need c (stopped 46 0) (wrote s [] [])) before
        → Shown t b u s before left n
    go true q w l = unfold need written_of room_after in
        let fits : length s ≤ length before = leb-true _ _ q in
        let room : 0 + length s ≤ length before = omega (arith, fits) in
        let k : n ≡ length s = cc in
        record {
          is = sheet-written t b u (length before) s e fits;
          inside = omega (arith, k, fits, ap length l, length-splice (length s) 0 s before room refl);
          here = rw (k, l) (part-splice (length s) 0 s before room refl);
        }
    go false q w l = unfold need written_of in absurd (cc)

module _ (t b : List ℕ) (u : Under) (room output : ℕ) where
  pub onward-refused : (n p : ℕ) → to_sheet t b u room ≡ stopped n p → onward (schema t) output (to_sheet t b u room) ≡ stopped n p
  unfolding onward
  onward-refused n p e = rw e

  pub onward-written : (s : List ℕ) → to_sheet t b u room ≡ wrote s [] [] → onward (schema t) output (to_sheet t b u room) ≡ written (schema t) output s
  unfolding onward
  onward-written s e = rw e

-- READING ONE FIELD

module _ (t b : List ℕ) (u : Under) (f i : ℕ) where
  module _ (s m : List ℕ) (e : message_reading t b u ≡ done s m) where
    pub number_read : number_answer t b u f i ≡ number_at b (item_of (schema t) b f i)
    unfolding number_answer also
    number_read = rw (verdict-accepted t b u s m e)

    pub part-read : part_answer t b u f i ≡ part_at b (item_of (schema t) b f i)
    unfolding part_answer also
    part-read = rw (verdict-accepted t b u s m e)

    pub bytes_read : bytes_verdict t b u f i ≡ parts.verdict_of (part_at b (item_of (schema t) b f i))
    unfolding bytes_verdict also
    bytes_read = rw (verdict-accepted t b u s m e)

  module _ (n p : ℕ) (e : message_reading t b u ≡ refused n p) where
    pub number-refused : number_answer t b u f i ≡ Err (fault_at n p)
    unfolding number_answer also
    number-refused = rw (verdict-refused t b u n p e)

    pub part-refused : part_answer t b u f i ≡ Err (fault_at n p)
    unfolding part_answer also
    part-refused = rw (verdict-refused t b u n p e)

    pub bytes-refused : bytes_verdict t b u f i ≡ Err (fault_at n p)
    unfolding bytes_verdict also
    bytes-refused = rw (verdict-refused t b u n p e)

-- THE TYPE OF A MESSAGE, AND ITS FIRST FIELDS

module _ (t b : List ℕ) (u : Under) where
  pub type-read : (s m : List ℕ) → message_reading t b u ≡ done s m → message_type t b u ≡ Ok (type_id b)
  unfolding message_type also
  type-read s m e = rw (verdict-accepted t b u s m e)

  pub type-refused : (n p : ℕ) → message_reading t b u ≡ refused n p → message_type t b u ≡ Err (fault_at n p)
  unfolding message_type also
  type-refused n p e = rw (verdict-refused t b u n p e)

  pub front_read : (id : ℕ) (x s m : List ℕ) → table_verdict t ≡ Ok tt → message_reading t b u ≡ done s m → front_answer t b u id x ≡ front_in (schema t) b id x
  unfolding front_answer front_in front_under
  front_read id x s m a e =
      rw (type-read s m e, has-accepted t a id x, part-read t b u 0 0 s m e, number_read t b u 1 0 s m e, number_read t b u 2 0 s m e, number_read t b u 3 0 s m e)

  pub front-refused : (id : ℕ) (x : List ℕ) (n p : ℕ) → message_reading t b u ≡ refused n p → front_answer t b u id x ≡ Err (fault_at n p)
  unfolding front_answer front_under
  front-refused id x n p e = rw (type-refused n p e)

module _ (gs : List Group) (b : List ℕ) (id k : ℕ) (x : List ℕ) (own : k ≡ type_id b) where
  pub other-type : (k ≡ id → ⊥) → Ok None ≡ front_in gs b id x
  unfolding front_in need
  other-type n = rw (← own, ne_eqb k id n)

  pub other-fields : has_under gs id x ≡ false → Ok None ≡ front_in gs b id x
  unfolding front_in need
  other-fields n = rw (n, and-false)

  pub front-is : k ≡ id → has_under gs id x ≡ true → Ok (Some (record { first = part_at b (item_of gs b 0 0); second = number_at b (item_of gs b 1 0); third = number_at b (item_of gs b 2 0); fourth = number_at b (item_of gs b 3 0) })) ≡ front_in gs b id x
  unfolding front_in need
  front-is e h = rw (← own, eq-eqb k id e, h)
