-- What is written reads back, what is read is written in no more bytes, and so one meaning has one form.
use mathlib.Core.Path.{◌≡◌, refl, sym, ap, ◌∙◌}
use mathlib.Core.Logic.{◌↔◌}
use mathlib.Core.Bool.{Bool, true, false, ◌&&◌, and-eq-true_iff}
use mathlib.Core.List.{List, [], ◌∷◌, ◌++◌, append-nil}
use Prim.Native.Nat.{ℕ, zero, suc, ◌+◌, ◌*◌, ◌≤◌, ◌<◌, ◌^◌}
use native.Mathlib.Omega.{arith}
use lib.ListN.{length}
use lib.Dec.{leb}
use borrow.Author.Tests.{eq-eqb, le-leb, leb-true, eqb-true}
use Rattle.wire.specs.Bytes.{part, le}
use Rattle.schema.specs.Faults.{need}
use Rattle.schema.specs.Schema.{Group, width, find}
use Rattle.message.specs.Sheet.{GB, mark_bytes}
use Rattle.settings.specs.declared.Ignored.{Ignored}
use Rattle.settings.specs.Store.{strict}
use Rattle.message.specs.Walk.{here, Reading, refused, done, prefixed, body_r, head_r, group_r, walk, message_r}
use Rattle.meaning.specs.Proper.{Sized}
use Rattle.meaning.specs.Packed.{Packed}
use Rattle.message.proofs.Count.{length-mark}
use Rattle.meaning.proofs.Sat.{Sat, sat-all, unsaid, said, sat-is, sat-need, sat-prefixed, sat-map, sat-padded}
use Rattle.meaning.proofs.Eleven.{eleven}
use Rattle.sheet.specs.Written.{Writing, stopped, wrote, group_w, ended, sheet_w, fitted, written}
use Rattle.sheet.specs.Rewritten.{Rooms, sheet_in, onward, rewritten, Enough}
use Rattle.sheet.specs.Canonical.{Means, Canonical}
use Rattle.sheet.proofs.Match.{SatW, said_w, unsaid_w, satw-is, satw-need, satw-map}
use Rattle.sheet.proofs.Layers.{due-eats, satw-due}
use Rattle.sheet.proofs.Bodies.{GroupFit, GroupAgain}
use Rattle.sheet.proofs.Groups.{match-group}
use Rattle.sheet.proofs.Packed.{packs-group}

-- ACCEPTED MESSAGES

-- no occupancy goes out of a group
group-leaves : (x : Ignored) (gs : List Group) (l n base : ℕ) (b : List ℕ) → Sat (λ s m. m ≡ []) (group_r x gs l n base b)
unfolding group_r head_r body_r
group-leaves x gs zero n base b = sat-need _ 1 _ (λ _. sat-need _ 2 _ (λ _. sat-need _ 25 _ (λ _. unsaid)))
group-leaves x gs (suc l) n base b =
    sat-need _ 1 _ (λ _. sat-need _ 2 _ (λ _. sat-need _ 25 _ (λ _. sat-need _ 14 _ (λ _. sat-padded (here x b base (16 + width gs 5 (find gs (le (part 8 4 b))))) (sat-all (λ s m. refl) _)))))

walk-leaves : (x : Ignored) (gs : List Group) (b : List ℕ) → Sat (λ s m. m ≡ []) (walk x gs b)
unfolding walk
walk-leaves x gs b = sat-need _ 22 _ (λ _. sat-prefixed (mark_bytes GB) (group-leaves x gs 8 0 0 b))

sat-self : (r : Reading) → Sat (λ s m. r ≡ done s m) r
sat-self (refused n p) = unsaid
sat-self (done s m) = said refl

message-walk : (x : Ignored) (gs : List Group) (scratch : ℕ) (b s m : List ℕ) → message_r x gs scratch b ≡ done s m → (length b ≤ 65536) × (walk x gs b ≡ done s m)
message-walk x gs scratch b s m e = sat-is (rw e at (inside x gs scratch b))
  where
    inside : (x : Ignored) (gs : List Group) (scratch : ℕ) (b : List ℕ) → Sat (λ s m. (length b ≤ 65536) × (walk x gs b ≡ done s m)) (message_r x gs scratch b)
    inside x gs scratch b = unfold message_r in sat-need (leb (length b) 65536) 23 0 (λ t. sat-need (leb (length b) scratch) 21 0 (λ _.
        sat-map (λ s m w. (leb-true _ _ t, w)) (sat-self (walk x gs b))))

pub means-walk : (x : Ignored) (gs : List Group) (b s : List ℕ) → Means x gs b s → (length b ≤ 65536) × (walk x gs b ≡ done s [])
means-walk x gs b s M = message-walk x gs (length b) b s [] (M (length b) (omega arith))

pub walk-means : (x : Ignored) (gs : List Group) (b s : List ℕ) → length b ≤ 65536 → walk x gs b ≡ done s [] → Means x gs b s
unfolding message_r need
walk-means x gs b s l e scratch h = rw (le-leb _ _ l, le-leb _ _ h) e

-- with any scratch that is long enough
pub message-means : (x : Ignored) (gs : List Group) (scratch : ℕ) (b s m : List ℕ) → message_r x gs scratch b ≡ done s m → Means x gs b s
message-means x gs scratch b s m e =
    let w = message-walk x gs scratch b s m e in
    walk-means x gs b s w.0 (rw (sat-is (rw w.1 at (walk-leaves x gs b))) at w.1)

-- WHAT IS WRITTEN READS BACK

pub record Good (x : Ignored) (gs : List Group) (s X Y r : List ℕ) : Type 0 where
  pub alone : Y ≡ []
  pub whole : r ≡ []
  pub reads : length X < 2 ^ 32 → walk x gs X ≡ done s []

no_more : (r : List ℕ) → length r ≡ 0 → r ≡ []
no_more [] e = refl
no_more (x ∷ xs) e = absurd (omega arith)

satw-ended : {Q : List ℕ → List ℕ → List ℕ → Type 0} (n : ℕ) {x : Writing} → SatW (λ X Y r. r ≡ [] → Q X Y r) x → SatW Q (ended n x)
unfolding ended
satw-ended n unsaid_w = unsaid_w
satw-ended n (said_w {r = r} q) = satw-need _ 43 _ (λ t. said_w (q (no_more r (eqb-true _ _ t))))

good : (x : Ignored) (gs : List Group) (s s' X Y r : List ℕ) → s ≡ mark_bytes GB ++ s' → r ≡ [] → GroupAgain gs (group_r x gs 8) 0 s' X Y r → Good x gs s X Y r
unfolding walk need prefixed
good x gs s s' X Y r e er a =
    let es : s ≡ mark_bytes GB ++ a.used = e ∙ ap (λ (y : List ℕ). mark_bytes GB ++ y) (a.split ∙ ap (λ (y : List ℕ). a.used ++ y) er ∙ append-nil a.used) in
    record {
      alone = a.none;
      whole = er;
      reads = λ l.
          let u = a.again l in
          rw (le-leb 4 (length X) (omega (arith, u.sixteen)), eq-eqb _ _ (sym u.size), u.reads 0, es);
    }

-- the written message with no rest, within the limit and the room
satw-fitted : {Q : List ℕ → List ℕ → List ℕ → Type 0} (room : ℕ) {x : Writing} → SatW (λ X Y r. length X ≤ room → length X ≤ 65536 → Q X Y r) x → SatW Q (fitted room x)
unfolding fitted
satw-fitted room unsaid_w = unsaid_w
satw-fitted room (said_w q) = satw-need _ 47 _ (λ t. let u = (and-eq-true_iff _ _).0 t in said_w (q (leb-true _ _ u.0) (leb-true _ _ u.1)))

module _ (gs : List Group) (ok : Sized gs) where
  sheet-good : (x : Ignored) (s : List ℕ) → SatW (λ X Y r. Good x gs s X Y r) (sheet_w gs s)
  unfolding sheet_w
  sheet-good x s = satw-need _ 42 _ (λ _. satw-ended (length s) (satw-due (mark_bytes GB) s _ (λ s' e. satw-map (λ X Y r a er. good x gs s s' X Y r e er a) ((match-group gs ok x 8).back 0 s'))))

  pub write_read : (x : Ignored) (s X Y r : List ℕ) → sheet_w gs s ≡ wrote X Y r → Good x gs s X Y r
  write_read x s X Y r e = satw-is (rw e at (sheet-good x s))

  -- and stands in document 01's writing order
  pub packed : (s X Y r : List ℕ) → sheet_w gs s ≡ wrote X Y r → length X < 2 ^ 32 → Packed gs X
  packed s X Y r e = satw-is (rw e at (inside s))
    where
      inside : (s : List ℕ) → SatW (λ X Y r. length X < 2 ^ 32 → Packed gs X) (sheet_w gs s)
      inside s = unfold sheet_w in satw-need _ 42 _ (λ _. satw-ended (length s) (satw-due (mark_bytes GB) s _ (λ s' e. satw-map (λ X Y r p er. p) (packs-group gs ok 8 0 s'))))

  -- WHAT IS READ IS WRITTEN, IN NO MORE BYTES

  fit : (b s : List ℕ) → GroupFit (group_w gs 8 0 (s ++ [])) [] (length b) → length b ≤ 65536 → length (mark_bytes GB ++ s) ≤ 11 * length b
      → (X : List ℕ) × (sheet_w gs (mark_bytes GB ++ s) ≡ wrote X [] []) × (length X ≤ length b)
  unfolding sheet_w ended need
  fit b s x l sl =
      let e : group_w gs 8 0 s ≡ wrote x.own [] [] = rw append-nil at x.is in
      (x.own, rw (le-leb (length (mark_bytes GB ++ s)) 1048576 (omega arith), due-eats (mark_bytes GB) s (λ r. group_w gs 8 0 r) (length-mark GB), e), x.small)

  sat-fits : (x : Ignored) (b : List ℕ) → length b ≤ 65536
      → Sat (λ s m. length s ≤ 11 * length b → (X : List ℕ) × (sheet_w gs s ≡ wrote X [] []) × (length X ≤ length b)) (walk x gs b)
  unfolding walk
  sat-fits x b l = sat-need _ 22 _ (λ _. sat-prefixed (mark_bytes GB) (sat-map (λ s m t sl. fit b s (t []) l sl) ((match-group gs ok x 8).forth 0 0 b)))

  pub read-write : (x : Ignored) (b s : List ℕ) → Means x gs b s → (X : List ℕ) × (sheet_w gs s ≡ wrote X [] []) × (length X ≤ length b)
  read-write x b s M =
      let w = means-walk x gs b s M in
      sat-is (rw w.1 at (sat-fits x b w.0)) (eleven gs ok x b s [] w.1)

  -- REWRITING

  written_is : (room : ℕ) (s X : List ℕ) → sheet_w gs s ≡ wrote X [] [] → length X ≤ room → length X ≤ 65536 → written gs room s ≡ wrote X [] []
  unfolding written fitted need
  written_is room s X e l h = rw (e, le-leb _ _ l, le-leb _ _ h)

  rewrite-is : (x : Ignored) (b s X : List ℕ) (rooms : Rooms) → Means x gs b s → Enough rooms b → sheet_w gs s ≡ wrote X [] [] → length X ≤ length b → rewritten x gs rooms b ≡ wrote X [] []
  unfolding rewritten sheet_in onward need
  rewrite-is x b s X rooms M R e l =
      let w = means-walk x gs b s M in
      let k = eleven gs ok x b s [] w.1 in
      rw (M rooms.scratch R.scratch, le-leb (length s) rooms.sheet (omega (arith, k, R.sheet)))
      (written_is rooms.output s X e (omega (arith, R.output, l)) (omega (arith, w.0, l)))

  pub canonical : (x : Ignored) (b s : List ℕ) → Means x gs b s → Canonical x gs b s
  canonical x b s M =
      let w = read-write x b s M in
      let l = (means-walk x gs b s M).0 in
      let back : (y : Ignored) → Means y gs w.0 s = λ y. walk-means y gs w.0 s (omega (arith, l, w.2)) ((write_read y s w.0 [] [] w.1).reads (omega (arith, l, w.2))) in
      record {
        form = w.0;
        made = w.1;
        packed = packed s w.0 [] [] w.1 (omega (arith, l, w.2));
        rewrites = λ rooms R. rewrite-is x b s w.0 rooms M R w.1 w.2;
        means = back strict;
        again = λ rooms R. rewrite-is strict w.0 s w.0 rooms (back strict) R w.1 (omega arith);
        means-here = back x;
        again-here = λ rooms R. rewrite-is x w.0 s w.0 rooms (back x) R w.1 (omega arith);
        least = λ c N.
            let z = read-write x c s N in
            let q : z.0 ≡ w.0 = let a = z.1 in let v = w.1 in cc in
            omega (arith, z.2, ap length q);
      }

  -- "A and B rewrite to equal bytes exactly when their sheets are equal."
  pub same-form : (x : Ignored) (b c s t : List ℕ) (M : Means x gs b s) (N : Means x gs c t) → (canonical x b s M).form ≡ (canonical x c t N).form ↔ s ≡ t
  same-form x b c s t M N =
      let f = canonical x b s M in
      let g = canonical x c t N in (
        (λ q. let u = f.means (length f.form) (omega arith) in let v = g.means (length g.form) (omega arith) in cc),
        (λ q. let u = f.made in let v = g.made in cc),
      )

  -- "Every sheet that document 01 allows is written as a message that reads back as that sheet"
  pub written-means : (x : Ignored) (room : ℕ) (s X Y r : List ℕ) → written gs room s ≡ wrote X Y r → (length X ≤ room) × Means x gs X s
  written-means x room s X Y r e = satw-is (rw e at (inside x room s))
    where
      inside : (x : Ignored) (room : ℕ) (s : List ℕ) → SatW (λ X Y r. (length X ≤ room) × Means x gs X s) (written gs room s)
      inside x room s = unfold written in satw-fitted room (satw-map (λ X Y r g l h. (l, walk-means x gs X s h (g.reads (omega (arith, h))))) (sheet-good x s))

  -- "or refused for room. It is refused for room exactly if no accepted message with that sheet fits the room."
  pub room-short : (x : Ignored) (room : ℕ) (s X Y r : List ℕ) → sheet_w gs s ≡ wrote X Y r
      → (written gs room s ≡ stopped 47 0) ↔ ((c : List ℕ) → Means x gs c s → length c ≤ room → ⊥)
  room-short x room s X Y r e =
      let g = write_read x s X Y r e in
      let e' : sheet_w gs s ≡ wrote X [] [] = let p = g.alone in let q = g.whole in cc in (
        (λ q c M l.
            let w = read-write x c s M in
            let i : w.0 ≡ X = let a = w.1 in cc in
            let k = (means-walk x gs c s M).0 in
            let u = written_is room s X e' (omega (arith, w.2, ap length i)) (omega (arith, w.2, ap length i)) in
            let z : ◌≡◌ {A = ℕ} 0 1 = cc in omega arith),
        (λ f. go e' g.reads f _ refl),
      )
    where
      go : sheet_w gs s ≡ wrote X [] [] → (length X < 2 ^ 32 → walk x gs X ≡ done s []) → ((c : List ℕ) → Means x gs c s → length c ≤ room → ⊥)
          → (c : Bool) → leb (length X) room && leb (length X) 65536 ≡ c → written gs room s ≡ stopped 47 0
      go e g f true t = let u = (and-eq-true_iff _ _).0 t in
          absurd (f X (walk-means x gs X s (leb-true _ _ u.1) (g (omega (arith, leb-true (length X) 65536 u.1)))) (leb-true _ _ u.0))
      go e g f false t = unfold written fitted need in rw (e, t)
