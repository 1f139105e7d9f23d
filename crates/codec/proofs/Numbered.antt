-- No refusal of a public question has the number 0.
use Rattle.schema.specs.declared.Fault.{Fault}
use Rattle.schema.specs.Faults.{Verdict, fault_at}
use Rattle.std.proofs.Common.{Ok, Err, Result}
use Prim.Native.Nat.{ℕ, zero, suc, ◌≤◌}
use mathlib.Core.Path.{◌≡◌}
use mathlib.Core.Bool.{Bool, ◌&&◌}
use mathlib.Core.List.{List, [], ◌∷◌}
use native.Mathlib.Omega.{arith}
use lib.Dec.{eqb}
use Rattle.schema.specs.Schema.{member, Kind, plain, inline, indirect, static, dynamic, Field, Group}
use Rattle.schema.specs.Table.{schema}
use Rattle.fields.specs.declared.FieldShape.{FieldShape}
use Rattle.fields.specs.Fields.{shape_in, shape_under, shape_after, field_shape}
use Rattle.settings.specs.Store.{store_verdict, setting_at, version_by, add_verdict}
use Rattle.message.specs.Walk.{Reading}
use Rattle.sheet.specs.Written.{Writing, stopped}
use Rattle.sheet.specs.Rewritten.{sheet_in}
use Rattle.sheet.specs.Rewritten as rewritten
use Rattle.reading.specs.declared.Number.{Number}
use Rattle.reading.specs.declared.Part.{Part}
use Rattle.reading.specs.Item.{Item, missing, item, sequence_item, value_item, field_item, item_from, item_of}
use Rattle.reading.specs.Number.{unsigned_types, signed_types, number_of, number_at}
use Rattle.reading.specs.Part.{part_of, part_at}
use Rattle.reading.specs.Part as parts
use Rattle.opening.specs.Opening.{Under, message_reading, verdict_of, message_verdict}
use Rattle.codec.specs.Answers.{to_sheet, to_message, rewriting, number_answer, part_answer, bytes_verdict, message_type, front_under, front_answer}
use Rattle.codec.specs.Demands.{Numbered as AllNumbered}
use Rattle.schema.proofs.Numbered.{in-need, in-cond, Numbered, accepts, refuses, not-zero, tested, numbered-also, table}
use Rattle.meaning.proofs.Numbered.{NumberedR, reads, refuses_r, read, message}
use Rattle.sheet.proofs.Numbered.{NumberedW, writes, stops, write, sheet}

-- ONE FIELD

abbrev NumberedI : Item → Type 0
NumberedI (missing n) = 1 ≤ n
NumberedI (item f p) = Unit

item-from : (sw : ℕ → ℕ) (fs : List Field) (b : List ℕ) (at n i : ℕ) → NumberedI (item_from sw fs b at n i)
unfolding item_from field_item value_item sequence_item
item-from sw [] b at n i = omega arith
item-from sw (f ∷ fs) b at zero i = in-need NumberedI _ (omega arith) (in-cond NumberedI f.sequence (in-need NumberedI _ (omega arith) tt) (in-need NumberedI _ (omega arith) tt))
item-from sw (f ∷ fs) b at (suc n) i = item-from sw fs b _ n i

number-at : (b : List ℕ) (x : Item) → NumberedI x → Numbered (number_at b x)
unfolding number_at number_of
number-at b (missing n) l = refuses _ l
number-at b (item f p) l =
    in-cond Numbered (member f.type unsigned_types) (accepts _) (in-cond Numbered (member f.type signed_types) (accepts _) (in-cond Numbered (eqb f.type 9) (accepts _)
    (in-cond Numbered (eqb f.type 10) (accepts _) (in-cond Numbered (eqb f.type 11) (accepts _) (refuses _ (omega arith))))))

part-at : (b : List ℕ) (x : Item) → NumberedI x → Numbered (part_at b x)
unfolding part_at
part-at b (missing n) l = refuses _ l
part-at b (item f p) l = go f.kind
  where
    go : (k : Kind) → Numbered (part_of f.type k b p)
    go (plain w x) = unfold part_of in in-cond Numbered (eqb f.type 19) (accepts _) (refuses (fault_at 48 0) (omega arith))
    go (inline u c) = unfold part_of in accepts _
    go (indirect u) = unfold part_of in accepts _
    go (static g) = unfold part_of in refuses (fault_at 48 0) (omega arith)
    go (dynamic g) = unfold part_of in accepts _

part-verdict : {x : Result Part Fault} → Numbered x → Numbered (parts.verdict_of x)
unfolding parts.verdict_of
part-verdict (accepts x) = accepts tt
part-verdict (refuses f l) = refuses f l

-- A GROUP'S FIELDS, AND A MESSAGE'S FIRST

shape-in : (fs : List Field) (n : ℕ) → Numbered (shape_in fs n)
unfolding shape_in
shape-in [] n = refuses _ (omega arith)
shape-in (f ∷ fs) zero = accepts _
shape-in (f ∷ fs) (suc n) = shape-in fs n

shape-after : (v : Verdict) {x : Result FieldShape Fault} → Numbered x → Numbered (shape_after v x)
unfolding shape_after
shape-after (Ok _) a = a
shape-after (Err f) a = refuses _ (omega arith)

front-under : {a : Result ℕ Fault} (id : ℕ) (has : Bool) (x : Result Part Fault) (y z w : Result Number Fault) → Numbered a → Numbered (front_under a id has x y z w)
unfolding front_under
front-under id has x y z w (accepts k) = in-need Numbered (eqb k id && has) (accepts _) (accepts _)
front-under id has x y z w (refuses f l) = refuses f l

-- THE QUESTIONS

of-reading : {r : Reading} → NumberedR r → Numbered (verdict_of r)
unfolding verdict_of
of-reading reads = accepts tt
of-reading (refuses_r l) = refuses _ l

sheet-in : (room : ℕ) {r : Reading} → NumberedR r → NumberedW (sheet_in room r)
unfolding sheet_in
sheet-in room reads = write _ 46 _ (omega arith) writes
sheet-in room (refuses_r l) = stops l

onto : (gs : List Group) (room : ℕ) {x : Writing} → NumberedW x → NumberedW (rewritten.onward gs room x)
unfolding rewritten.onward
onto gs room (writes {F = s}) = sheet gs room s
onto gs room (stops l) = stops l

version-by : (st : List ℕ) (n : ℕ) → Numbered (version_by st n)
unfolding version_by
version-by st zero = refuses _ (omega arith)
version-by st (suc k) = accepts _

not_stopped : {x : Writing} → NumberedW x → (p : ℕ) → x ≡ stopped 0 p → ⊥
not_stopped writes p e = let z : ◌≡◌ {A = ℕ} 0 1 = cc in omega (arith, z)
not_stopped (stops {n = n} l) p e = let z : n ≡ 0 = cc in omega (arith, z, l)

module _ (t b s : List ℕ) (u : Under) where
  reading : (v : Under) → NumberedR (message_reading t b v)
  unfolding message_reading
  reading v = read _ 20 _ (omega arith) (read _ 23 _ (omega arith) (read _ 21 _ (omega arith) (read _ 50 _ (omega arith) (message _ _ _))))

  verdict : Numbered (message_verdict t b u)
  unfolding message_verdict
  verdict = of-reading (reading u)

  type : Numbered (message_type t b u)
  unfolding message_type
  type = numbered-also verdict (accepts _)

  it : (field i : ℕ) → NumberedI (item_of (schema t) b field i)
  unfolding item_of
  it field i = item-from _ _ b 16 field i

  pub numbered : AllNumbered t b s u
  numbered = record {
    table = not-zero (table t);
    store = unfold store_verdict in not-zero (tested _ 50 _ (omega arith) (accepts tt));
    settings = λ c v. unfold setting_at in not-zero (tested _ 50 _ (omega arith) (version-by _ _));
    addition = λ c v absent pads unused. unfold add_verdict in not-zero (tested _ 50 _ (omega arith) (tested _ 51 _ (omega arith) (accepts tt)));
    message = not-zero verdict;
    number = λ field i. unfold number_answer in not-zero (numbered-also verdict (number-at b _ (it field i)));
    bytes = λ field i. unfold bytes_verdict in not-zero (numbered-also verdict (part-verdict (part-at b _ (it field i))));
    span = λ field i. unfold part_answer in not-zero (numbered-also verdict (part-at b _ (it field i)));
    shape = λ id n. unfold field_shape shape_under in not-zero (shape-after _ (in-need Numbered _ (refuses _ (omega arith)) (shape-in _ n)));
    type = not-zero type;
    front = λ id g. unfold front_answer in not-zero (front-under id _ _ _ _ _ type);
    to-sheet = λ room. unfold to_sheet in not_stopped (sheet-in room (reading u));
    to-message = λ room. unfold to_message in not_stopped (write _ 20 _ (omega arith) (sheet _ room s));
    rewrite = λ rooms. unfold rewriting to_sheet in not_stopped (onto _ _ (sheet-in _ (reading _)));
  }
