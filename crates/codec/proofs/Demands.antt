-- The demands of specs/Demands.antt, shown.
use Rattle.schema.specs.declared.Fault.{Fault}
use Rattle.std.proofs.Common.{Ok, Err, Result}
use Prim.Native.Nat.{ℕ, ◌+◌, ◌≤◌}
use mathlib.Core.Path.{◌≡◌, refl, sym, ap, ◌∙◌, subst}
use mathlib.Core.Logic.{◌↔◌}
use mathlib.Core.Bool.{Bool, true, false, ◌&&◌, and-eq-true_iff}
use mathlib.Core.List.{List, []}
use native.Mathlib.Omega.{arith}
use lib.ListN.{length, take}
use lib.Dec.{leb}
use borrow.Author.Tests.{le-leb, eqb-true}
use Rattle.wire.specs.Bytes.{le}
use Rattle.wire.proofs.Laws.{part-splice}
use Rattle.schema.specs.Faults.{Verdict, fault_at, need, also}
use Rattle.schema.specs.Schema.{Group}
use Rattle.schema.specs.Table.{schema, table_verdict}
use Rattle.table.proofs.Accepted as table
use Rattle.settings.specs.declared.Ignored.{Ignored}
use Rattle.settings.specs.Store.{strict, sound, store_verdict, governing}
use Rattle.store.proofs.Claims.{claims, sound-of}
use Rattle.message.specs.Walk.{Reading, refused, done, walk, message_r}
use Rattle.meaning.specs.Proper.{Proper}
use Rattle.meaning.specs.Conforms.{Conforms}
use Rattle.meaning.proofs.Accepted.{accepted-conforms}
use Rattle.meaning.proofs.Sat.{Sat, sat-is, sat-all, sat-need}
use Rattle.meaning.specs.Packed.{Packed}
use Rattle.meaning.proofs.Lists.{walk-lists}
use Rattle.meaning.proofs.Packed.{no-pad}
use Rattle.meaning.proofs.Eleven.{eleven}
use Rattle.reading.specs.declared.Part.{Part}
use Rattle.reading.specs.Item.{item_of}
use Rattle.reading.specs.Number.{number_at}
use Rattle.reading.specs.Part.{part_at, bytes_in}
use Rattle.reading.specs.Part as part
use Rattle.reading.proofs.Alike.{walk-laxer}
use Rattle.reading.proofs.Done.{need-done}
use Rattle.reading.proofs.Listed as reads
use Rattle.sheet.specs.Written.{Writing, stopped, wrote, sheet_w, fitted, written}
use Rattle.sheet.specs.Rewritten.{Rooms, Enough, sheet_in, onward, rewritten}
use Rattle.sheet.specs.Canonical as canonical
use Rattle.sheet.proofs.RoundTrip as trip
use Rattle.opening.specs.Opening.{accepted, Under, under, message_reading, verdict_of, message_verdict}
use Rattle.codec.specs.Answers.{room_after, to_sheet, to_message, rewriting, number_answer, part_answer, bytes_verdict}
use Rattle.codec.specs.Demands.{Demand1, Means, Makes, Demand2, OneForm, Demand3, Demands}
use Rattle.codec.proofs.Numbered.{numbered}
use Rattle.opening.proofs.Laws.{sized, reading-under, strictest}
use Rattle.codec.proofs.Laws.{message-under}

-- DEMAND 1

refused-room : (x : Writing) (n p : ℕ) (room : List ℕ) → x ≡ stopped n p → room_after x room ≡ room
unfolding room_after
refused-room x n p room e = rw e

no_part : (v : Verdict) (x : Result Part Fault) (b : List ℕ) (f : Fault) → also v (part.verdict_of x) ≡ Err f → bytes_in b (also v x) ≡ []
unfolding also part.verdict_of bytes_in
no_part (Ok _) (Err g) b f e = refl
no_part (Ok _) (Ok x) b f e = absurd (cc)
no_part (Err g) x b f e = refl

-- a message that was read: its table passes, and so does the store
pub opened : (t b : List ℕ) (u : Under) (s m : List ℕ) → message_reading t b u ≡ done s m → (table_verdict t ≡ Ok tt) × (sound u.store ≡ true)
unfolding message_reading
opened t b u s m e =
    let q = need-done _ _ _ _ e in
    let r = need-done _ _ _ _ (need-done _ _ _ _ (need-done _ _ _ _ q.1).1).1 in
    (is-accepted _ q.0, r.0)
  where
    is-accepted : (v : Verdict) → accepted v ≡ true → v ≡ Ok tt
    is-accepted (Ok _) e = refl
    is-accepted (Err f) e = unfold accepted in absurd (cc)

sheet-done : (room : ℕ) (x : Reading) (s D r : List ℕ) → sheet_in room x ≡ wrote s D r → (m : List ℕ) × (x ≡ done s m)
unfolding sheet_in
sheet-done room (refused n p) s D r e = absurd (cc)
sheet-done room (done s' m) s D r e = go (leb (length s') room) e
  where
    go : (c : Bool) → need c (stopped 46 0) (wrote s' [] []) ≡ wrote s D r → (m' : List ℕ) × (done s' m ≡ done s m')
    go true e = unfold need in let q : s' ≡ s = cc in (m, ap (λ (y : List ℕ). done y m) q)
    go false e = unfold need in absurd (cc)

-- an allowed sheet is refused for room alone
only-47 : (gs : List Group) (s X : List ℕ) → sheet_w gs s ≡ wrote X [] [] → (room n p : ℕ) → written gs room s ≡ stopped n p → (n ≡ 47) × (p ≡ 0)
unfolding written fitted
only-47 gs s X m room n p w = go (leb (length X) room && leb (length X) 65536) (rw m at w)
  where
    go : (c : Bool) → need c (stopped 47 0) (wrote X [] []) ≡ stopped n p → (n ≡ 47) × (p ≡ 0)
    go true q = unfold need in absurd (cc)
    go false q = unfold need in let a : n ≡ 47 = cc in let b : p ≡ 0 = cc in (a, b)

then-room : (t b st : List ℕ) (c n p : ℕ) (rooms : Rooms) (s D r : List ℕ) → to_sheet t b (under st c rooms.scratch) rooms.sheet ≡ wrote s D r
    → rewriting t b st c rooms ≡ stopped n p → (n ≡ 47) × (p ≡ 0)
unfolding rewriting onward to_sheet
then-room t b st c n p rooms s D r e f =
    let u = under st c rooms.scratch in
    let (m, d) = sheet-done rooms.sheet (message_reading t b u) s D r e in
    let (a, g) = opened t b u s m d in
    let x = governing st c in
    let M = trip.message-means x (schema t) rooms.scratch b s m (sym (reading-under t a u g b) ∙ d) in
    let (X, made, l) = trip.read-write (schema t) (sized t a) x b s M in
    only-47 (schema t) s X made rooms.output n p (rw e at f)

demand1 : (t b s : List ℕ) (u : Under) → Demand1 t b s u
unfolding number_answer also bytes_verdict part_answer
demand1 t b s u = record {
  no_number = λ n p e field item. rw e;
  no_bytes = λ field item n p e. no_part (message_verdict t b u) _ b (fault_at n p) e;
  no-sheet = λ n p room e. refused-room _ n p room e;
  no-message = λ n p output e. refused-room _ n p output e;
  no-rewriting = λ st c n p rooms output e. refused-room _ n p output e;
  numbered = numbered t b s u;
  as-the-sheet = λ st c n p rooms e. unfold rewriting onward in rw e;
  then-room = then-room t b;
}

-- WHAT AN ACCEPTED TABLE GIVES

proper : (t : List ℕ) → table_verdict t ≡ Ok tt → Proper (schema t)
proper t e =
    let a = table.accepted t e in
    record { falls = a.supers; fresh = λ g x rest at has. a.fresh g x.id (record { it = x; rest = rest; at = at; has = has; is = refl }) }

done-is : (x : Reading) → verdict_of x ≡ Ok tt → (s : List ℕ) × (m : List ℕ) × (x ≡ done s m)
unfolding verdict_of
done-is (refused n p) e = absurd (cc)
done-is (done s m) e = (s, m, refl)

is-done : (x : Reading) → (s : List ℕ) × (m : List ℕ) × (x ≡ done s m) → verdict_of x ≡ Ok tt
unfolding verdict_of
is-done x (s, m, e) = rw e

-- "as long as 4 + its size word"
sat-size : (x : Ignored) (gs : List Group) (b : List ℕ) → Sat (λ s m. length b ≡ 4 + le (take 4 b)) (walk x gs b)
unfolding walk
sat-size x gs b = sat-need _ 22 0 (λ t. sat-all (λ s m. eqb-true _ _ ((and-eq-true_iff (leb 4 (length b)) _).0 t).1) _)

module _ (t st : List ℕ) (c : ℕ) (e : table_verdict t ≡ Ok tt) (pass : store_verdict st ≡ Ok tt) where
  abbrev x : Ignored
  x = governing st c

  abbrev gs : List Group
  gs = schema t

  reading : (b : List ℕ) (scratch : ℕ) → message_reading t b (under st c scratch) ≡ message_r x gs scratch b
  reading b scratch = reading-under t e (under st c scratch) (sound-of st pass) b

  rewrites : (b : List ℕ) (rooms : Rooms) → rewriting t b st c rooms ≡ rewritten x gs rooms b
  unfolding rewriting to_sheet rewritten
  rewrites b rooms = rw (reading b rooms.scratch)

  there : (b s : List ℕ) → Means t st c b s → canonical.Means x gs b s
  there b s M scratch h = sym (reading b scratch) ∙ M scratch h

  back : (b s : List ℕ) → canonical.Means x gs b s → Means t st c b s
  back b s M scratch h = reading b scratch ∙ M scratch h

  -- DEMAND 2

  accepted-exactly : (b : List ℕ) (scratch : ℕ) → length b ≤ scratch → (message_verdict t b (under st c scratch) ≡ Ok tt) ↔ Conforms x gs b
  unfolding message_verdict
  accepted-exactly b scratch room =
      let iff = accepted-conforms x gs (proper t e) scratch b room in
      (λ v. iff.0 (done-is _ (ap verdict_of (sym (reading b scratch)) ∙ v)), λ c. ap verdict_of (reading b scratch) ∙ is-done _ (iff.1 c))

  sheet : (b : List ℕ) (scratch : ℕ) → message_verdict t b (under st c scratch) ≡ Ok tt → (s : List ℕ) × Means t st c b s
  unfolding message_verdict
  sheet b scratch v = let (s, m, d) = done-is _ v in (s, back b s (trip.message-means x gs scratch b s m (sym (reading b scratch) ∙ d)))

  sheet-written : (b s : List ℕ) → Means t st c b s → (scratch room : ℕ) → length b ≤ scratch → length s ≤ room → to_sheet t b (under st c scratch) room ≡ wrote s [] []
  unfolding to_sheet sheet_in need
  sheet-written b s M scratch room h l = rw (M scratch h, le-leb _ _ l)

  answers : (b s : List ℕ) → Means t st c b s → (scratch : ℕ) → length b ≤ scratch → (n i : ℕ)
      → (number_answer t b (under st c scratch) n i ≡ number_at b (item_of gs b n i)) × (part_answer t b (under st c scratch) n i ≡ part_at b (item_of gs b n i))
  unfolding number_answer part_answer message_verdict verdict_of also
  answers b s M scratch h n i = rw (M scratch h) (refl, refl)

  reads-back : (s X Y r : List ℕ) (room : ℕ) → to_message t s room ≡ wrote X Y r → (length X ≤ room) × Means t st c X s
  reads-back s X Y r room w = let (l, M) = trip.written-means gs (sized t e) x room s X Y r (sym (message-under t e s room) ∙ w) in (l, back X s M)

  only-room : (s X : List ℕ) → Makes t s X → (room n p : ℕ) → to_message t s room ≡ stopped n p → (n ≡ 47) × (p ≡ 0)
  only-room s X m room n p w = only-47 gs s X m room n p (sym (message-under t e s room) ∙ w)

  room-exactly : (s X : List ℕ) → Makes t s X → (room : ℕ) → (to_message t s room ≡ stopped 47 0) ↔ ((d : List ℕ) → Means t st c d s → length d ≤ room → ⊥)
  room-exactly s X m room =
      let iff = trip.room-short gs (sized t e) x room s X [] [] m in
      (λ w c M l. iff.0 (sym (message-under t e s room) ∙ w) c (there c s M) l, λ f. message-under t e s room ∙ iff.1 (λ c M l. f c (back c s M) l))

  read-one-way : (s s' X Y Y' r r' : List ℕ) (room room' : ℕ) → to_message t s room ≡ wrote X Y r → to_message t s' room' ≡ wrote X Y' r' → s ≡ s'
  read-one-way s s' X Y Y' r r' room room' w w' =
      let u = (reads-back s X Y r room w).1 (length X) (omega arith) in
      let u' = (reads-back s' X Y' r' room' w').1 (length X) (omega arith) in
      cc

  demand2 : Demand2 t st c
  demand2 = record {
    accepted-exactly = accepted-exactly;
    sheet = λ b scratch h v. sheet b scratch v;
    lists = λ b s M. walk-lists x gs b s [] (trip.means-walk x gs b s (there b s M)).1;
    sheet-written = sheet-written;
    sheet-short = λ b s M. eleven gs (sized t e) x b s [] (trip.means-walk x gs b s (there b s M)).1;
    listed = λ b s M. reads.listed x t b s [] (trip.means-walk x gs b s (there b s M)).1;
    unlisted = reads.own-cases gs;
    answers = answers;
    reads-back = reads-back;
    only-room = only-room;
    room-exactly = room-exactly;
    allowed = λ b s M. let (X, m, l) = trip.read-write gs (sized t e) x b s (there b s M) in (X, m);
    read-one-way = read-one-way;
  }

  -- DEMAND 3

  -- what is accepted with nothing ignored is accepted under every setting
  anywhere : (b s : List ℕ) → canonical.Means strict gs b s → (st' : List ℕ) (c' : ℕ) → store_verdict st' ≡ Ok tt → Means t st' c' b s
  anywhere b s M st' c' p scratch h =
      let y = governing st' c' in
      let w = trip.means-walk strict gs b s M in
      reading-under t e (under st' c' scratch) (sound-of st' p) b ∙ trip.walk-means y gs b s w.0 (walk-laxer strict y (strictest y) gs b s [] w.1) scratch h

  one_form : (a s : List ℕ) → Means t st c a s → OneForm t st c a s
  unfolding room_after
  one_form a s M =
      let f = trip.canonical gs (sized t e) x a s (there a s M) in
      let succeeds : (rooms : Rooms) → Enough rooms a → rewriting t a st c rooms ≡ wrote f.form [] [] = λ rooms R. rewrites a rooms ∙ f.rewrites rooms R in
      record {
        form = f.form;
        succeeds = succeeds;
        stands = λ rooms R output l. ap (λ (x : Writing). take (length f.form) (room_after x output)) (succeeds rooms R)
            ∙ part-splice (length f.form) 0 f.form output (omega (arith, l, R.output, f.least a (there a s M))) refl;
        size = sat-is (rw (trip.means-walk x gs f.form s f.means-here).1 at (sat-size x gs f.form));
        in_order = f.made;
        packed = f.packed;
        keeps = back f.form s f.means-here;
        keeps-strictly = anywhere f.form s f.means [] 0 (claims.none 0);
        keeps-anywhere = anywhere f.form s f.means;
        again = λ rooms R. rewrites f.form rooms ∙ f.again-here rooms R;
        least = λ d N. f.least d (there d s N);
      }

  demand3 : Demand3 t st c
  unfolding one_form
  demand3 = record {
    one_form = one_form;
    same-form = λ a b s s' A B. trip.same-form gs (sized t e) x a b s s' (there a s A) (there b s' B);
    never-copied = λ a s A i u q. no-pad gs a (subst (Packed gs) q (one_form a s A).packed) i u;
  }

-- All of it.
pub demands : Demands
demands = record { first = demand1; second = demand2; third = demand3 }
