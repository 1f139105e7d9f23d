-- The claims of specs/Claims.antt, shown.
use Rattle.std.proofs.Common.{Ok}
use Prim.Native.Nat.{ℕ, ◌+◌, ◌<◌, ◌≤◌}
use mathlib.Core.Path.{◌≡◌, refl, sym, ap, ◌∙◌, subst}
use mathlib.Core.List.{List, []}
use lib.ListN.{length}
use Rattle.schema.specs.Schema.{fields_of, width, find}
use Rattle.schema.specs.Table.{schema, table_verdict}
use Rattle.schema.proofs.Forms.{alike-schema}
use Rattle.table.proofs.Claims.{accepted-tables}
use Rattle.fields.specs.Fields.{field_shape, has_fields}
use Rattle.settings.specs.declared.Ignored.{Ignored}
use Rattle.settings.specs.Store.{lax, store_verdict, governing}
use Rattle.store.proofs.Claims.{sound-of}
use Rattle.message.specs.Walk.{Reading, refused, done, walk}
use Rattle.meaning.specs.Conforms.{type_id}
use Rattle.meaning.proofs.Ignorable.{walk_same}
use Rattle.reading.specs.Item.{item_from, item_of}
use Rattle.reading.proofs.Items.{item-front}
use Rattle.reading.proofs.Alike.{walk-laxer, laxest}
use Rattle.reading.proofs.Done.{need-done}
use Rattle.reading.proofs.Found as found
use Rattle.reading.proofs.Listed as lists
use Rattle.reading.proofs.Opened.{OwnRead, item-read}
use Rattle.sheet.proofs.RoundTrip.{means-walk}
use Rattle.opening.specs.Opening.{Under, under, message_reading, message_verdict, verdict_of, scratch_after}
use Rattle.codec.specs.Answers.{to_sheet, to_message, rewriting, number_answer, part_answer, bytes_verdict, message_type, front_answer}
use Rattle.codec.specs.Demands.{Means}
use Rattle.opening.proofs.Laws.{reading-under}
use Rattle.codec.specs.Claims.{Below, SameAnswers, Reads, Claims}
use Rattle.codec.proofs.Demands.{opened}
use Rattle.codec.proofs.Laws.{number_read, part-read, part-refused, type-read}

same_item : (t b : List ℕ) → table_verdict t ≡ Ok tt → (a : ℕ) → Below t b a → (n i : ℕ) → n < length (fields_of (schema t) a)
    → item_of (schema t) b n i ≡ item_from (width (schema t) 4) (fields_of (schema t) a) b 16 n i
unfolding item_of
same_item t b e a u n i l =
    let begins = (accepted-tables.inherits t e).above a (find (schema t) (type_id b)) u in
    rw begins.1 (item-front (width (schema t) 4) (fields_of (schema t) a) begins.0 b 16 n i l)

-- what is accepted reads alike where all three faults are ignored
means-laxly : (t st b s : List ℕ) (c : ℕ) → table_verdict t ≡ Ok tt → store_verdict st ≡ Ok tt → Means t st c b s → walk lax (schema t) b ≡ done s []
means-laxly t st b s c e p M =
    let x = governing st c in
    walk-laxer x lax (laxest x) (schema t) b s [] (means-walk x (schema t) b s (λ scratch h. sym (reading-under t e (under st c scratch) (sound-of st p) b) ∙ M scratch h)).1

-- the questions know a table by its verdict and its schema alone
module _ (t u : List ℕ) (a : table_verdict t ≡ Ok tt) (b : table_verdict u ≡ Ok tt) (s : schema t ≡ schema u) where
  same-reading : (m : List ℕ) (x : Under) → message_reading t m x ≡ message_reading u m x
  unfolding message_reading
  same-reading m x = rw (a, b, s)

  same-verdict : (m : List ℕ) (x : Under) → message_verdict t m x ≡ message_verdict u m x
  unfolding message_verdict
  same-verdict m x = ap verdict_of (same-reading m x)

  same-type : (m : List ℕ) (x : Under) → message_type t m x ≡ message_type u m x
  unfolding message_type
  same-type m x = rw (same-verdict m x)

  same-fields : (id : ℕ) (g : List ℕ) → has_fields t id g ≡ has_fields u id g
  unfolding has_fields
  same-fields id g = rw (a, b, s)

  same-answers : SameAnswers t u
  same-answers = record {
    reading = same-reading;
    check = same-verdict;
    scratch = λ st m r. unfold scratch_after in rw (a, b);
    sheet = λ m x room. unfold to_sheet in rw (same-reading m x);
    message = λ m room. unfold to_message in rw (a, b, s);
    rewrite = λ m st c r. unfold rewriting to_sheet in rw (same-reading m (under st c r.scratch), s);
    number = λ m x f i. unfold number_answer in rw (same-verdict m x, s);
    bytes = λ m x f i. unfold part_answer in rw (same-verdict m x, s);
    bytes-verdict = λ m x f i. unfold bytes_verdict in rw (same-verdict m x, s);
    shape = λ id n. unfold field_shape in rw (a, b, s);
    fields = same-fields;
    type = same-type;
    front = λ m x id g. unfold front_answer part_answer number_answer in rw (same-type m x, same-fields id g, same-verdict m x, s);
  }

-- WHAT IS READ OF A MESSAGE THAT HAS A SHEET

abbrev setting : Under → Ignored
setting u = governing u.store u.customer

walks : (t b : List ℕ) (u : Under) (s m : List ℕ) → message_reading t b u ≡ done s m → walk (setting u) (schema t) b ≡ done s m
unfolding message_reading
walks t b u s m e = (need-done _ _ _ _ (need-done _ _ _ _ (need-done _ _ _ _ (need-done _ _ _ _ e).1).1).1).1

reads : (t b : List ℕ) (u : Under) (s : List ℕ) → message_reading t b u ≡ done s [] → Reads t b u s
reads t b u s e =
    let w = walks t b u s [] e in
    record {
      table = (opened t b u s [] e).0;
      type = type-read t b u s [] e;
      number = λ n i. number_read t b u n i s [] e;
      bytes = λ n i. part-read t b u n i s [] e;
      inside = λ n i f p x. (subst (OwnRead (setting u) (schema t) b) x (item-read (setting u) (schema t) b s [] w n i)).inside;
      listed = λ n i f p x. lists.listed (setting u) t b s [] w n i f p x;
    }

-- a refused message has no part
part-inside : (t b : List ℕ) (u : Under) (f i p n : ℕ) → part_answer t b u f i ≡ Ok (record { start = p; length = n }) → p + n ≤ length b
part-inside t b u f i p n e = go (message_reading t b u) refl
  where
    go : (r : Reading) → message_reading t b u ≡ r → p + n ≤ length b
    go (done s m) d = found.part-inside (setting u) t b (s, m, walks t b u s m d) f i (part_answer t b u f i) (part-read t b u f i s m d) p n e
    go (refused k q) d = let x = part-refused t b u f i k q d in absurd (cc)

pub claims : Claims
claims = record {
  ignored = λ t st st' b d s s' c c' e p p' M N v.
      let x = means-laxly t st b s c e p M in
      let y = means-laxly t st' d s' c' e p' N in
      let z = walk_same (schema t) b d v in
      cc;
  supers = λ t b e. record { same_item = same_item t b e };
  forms = λ t u a b e. same-answers t u a b (alike-schema t u e);
  reads = reads;
  part-inside = part-inside;
}
