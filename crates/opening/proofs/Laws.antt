-- What the opening of a message answers, by what the crates below found.
use Rattle.schema.specs.declared.Fault.{Fault}
use Rattle.std.specs.Result.{result_and}
use Rattle.std.proofs.Common.{Ok, Err, Result}
use Prim.Native.Nat.{ℕ, ◌*◌, ◌<◌, ◌≤◌}
use mathlib.Core.Path.{◌≡◌, refl, sym, ap, ◌∙◌}
use mathlib.Core.Bool.{Bool, true, false}
use mathlib.Core.List.{List, [], ◌∷◌}
use native.Mathlib.Omega.{arith}
use lib.ListN.{length, replicate}
use borrow.Author.Tests.{le-leb, lt-leb, leb-true}
use Rattle.wire.specs.Bytes.{splice}
use Rattle.schema.specs.Faults.{fault_at, need}
use Rattle.schema.specs.Schema.{Kind, plain, inline, indirect, static, dynamic, Field}
use Rattle.schema.specs.Table.{schema, table_verdict}
use Rattle.schema.specs.Layout.{Layout}
use Rattle.schema.proofs.Depth.{and_both}
use Rattle.settings.specs.declared.Ignored.{Ignored}
use Rattle.settings.specs.Store.{strict, lax, records, sound, governing, setting_of}
use Rattle.table.specs.Measure.{sound_kind, sound_fields}
use Rattle.table.proofs.Accepted as table
use Rattle.message.specs.Walk.{Reading, refused, done, walk, message_r}
use Rattle.message.specs.Count.{count}
use Rattle.message.specs.Check.{count_of, after}
use Rattle.meaning.specs.Proper.{SizedKind, SizedFields, Sized}
use Rattle.meaning.proofs.CheckExact.{after-exact}
use Rattle.reading.proofs.Alike.{Laxer, walk-laxer, laxest}
use Rattle.opening.specs.Opening.{accepted, Under, under, message_reading, verdict_of, message_verdict, scratch_after, Opened}

-- a refusal opens nothing
pub opens-nothing : (t b : List ℕ) (u : Under) (k : List ℕ) (f : Fault) → message_reading t b u ≡ refused f.number f.place → Opened t b u k (Err f)
opens-nothing t b u k f r = record {
  refuses = λ g e. let a : f ≡ g = cc in rw a at r;
  opens = λ n e. (cc);
}

-- 20
module _ (t st b s : List ℕ) (f : Fault) (e : Err f ≡ table_verdict t) where
  pub reading-20 : (u : Under) → message_reading t b u ≡ refused 20 0
  unfolding message_reading accepted need
  reading-20 u = rw (← e)

  pub scratch-20 : scratch_after t st b s ≡ s
  unfolding scratch_after accepted
  scratch-20 = rw (← e)

-- No value of an accepted table has width 0, no capacity is over 255, and no static depth over 5.
sized-fields : (n own : ℕ) (fs : List Field) → sound_fields n own fs ≡ true → SizedFields fs
unfolding sound_fields
sized-fields n own [] e = tt
sized-fields n own (f ∷ fs) e = let x = and_both _ _ e in (sized-kind n own f.kind x.0, sized-fields n own fs x.1)
  where
    sized-kind : (n own : ℕ) (k : Kind) → sound_kind n own k ≡ true → SizedKind k
    sized-kind n own (plain w x) e = unfold sound_kind in leb-true _ _ e
    sized-kind n own (inline u c) e = unfold sound_kind in let x = and_both _ _ e in (leb-true 1 c x.0, omega (arith, leb-true c 255 x.1))
    sized-kind n own (indirect u) e = tt
    sized-kind n own (static g) e = tt
    sized-kind n own (dynamic g) e = tt

pub sized : (t : List ℕ) → table_verdict t ≡ Ok tt → Sized (schema t)
sized t e = let a = table.accepted t e in record { kinds = λ g. sized-fields _ g _ (a.sound g); shallows = a.shallows }

pub reading-under : (t : List ℕ) → table_verdict t ≡ Ok tt → (u : Under) → sound u.store ≡ true
    → (b : List ℕ) → message_reading t b u ≡ message_r (governing u.store u.customer) (schema t) u.scratch b
unfolding message_reading accepted need message_r
reading-under t e u f b = rw (e, f)

-- nothing ignores less than `strict`
pub strictest : (x : Ignored) → Laxer strict x
strictest x = record { absent = λ e. absurd (none e); pads = λ e. absurd (none e); unused = λ e. absurd (none e) }
  where
    none : false ≡ true → ⊥
    none e = let z : ◌≡◌ {A = ℕ} 0 1 = cc in omega arith

-- THE STORE

-- what the store says of a customer's settings
module _ (st : List ℕ) (c : ℕ) where
  pub settled : (x : Ignored) → Ok x ≡ setting_of st c → (sound st ≡ true) × (x ≡ governing st c)
  unfolding setting_of
  settled x e = go (sound st) e
    where
      go : (b : Bool) → Ok x ≡ need b (Err (fault_at 50 (9 * records st))) (Ok (governing st c)) → (b ≡ true) × (x ≡ governing st c)
      go true e = unfold need in let q : x ≡ governing st c = cc in (refl, q)
      go false e = unfold need in absurd (cc)

  pub unsettled : (f : Fault) → Err f ≡ setting_of st c → (sound st ≡ false) × (f ≡ fault_at 50 (9 * records st))
  unfolding setting_of
  unsettled f e = go (sound st) e
    where
      go : (b : Bool) → Err f ≡ need b (Err (fault_at 50 (9 * records st))) (Ok (governing st c)) → (b ≡ false) × (f ≡ fault_at 50 (9 * records st))
      go true e = unfold need in absurd (cc)
      go false e = unfold need in let q : f ≡ fault_at 50 (9 * records st) = cc in (refl, q)

-- what a check says of the walk
walked-refuses : (x : Reading) (f : Fault) → count_of (Err f) [] ≡ count x → x ≡ refused f.number f.place
unfolding count_of count
walked-refuses (refused n p) f e = cc
walked-refuses (done s m) f e = absurd (cc)

walked-means : (x : Reading) (n : ℕ) → count_of (Ok n) [] ≡ count x → (s : List ℕ) × (x ≡ done s []) × (length s ≡ n)
unfolding count_of count
walked-means (refused k p) n e = absurd (cc)
walked-means (done s m) n e = let l : length s ≡ n = cc in let i : m ≡ [] = cc in (s, ap (done s) i, l)

module _ (t st : List ℕ) (c : ℕ) (b s : List ℕ) (e : Ok tt ≡ table_verdict t) where
  abbrev asked : Under
  asked = under st c (length s)

  module _ (long : 65536 < length b) where
    pub reading-23 : message_reading t b asked ≡ refused 23 0
    unfolding message_reading accepted need
    reading-23 = rw (← e, lt-leb _ _ long)

    pub scratch-23 : scratch_after t st b s ≡ s
    unfolding scratch_after accepted
    scratch-23 = rw (← e, lt-leb _ _ long)

  module _ (fits : length b ≤ 65536) (short : length s < length b) where
    pub reading-21 : message_reading t b asked ≡ refused 21 0
    unfolding message_reading accepted need
    reading-21 = rw (← e, le-leb _ _ fits, lt-leb _ _ short)

    pub scratch-21 : scratch_after t st b s ≡ s
    unfolding scratch_after accepted
    scratch-21 = rw (← e, le-leb _ _ fits, lt-leb _ _ short)

  module _ (fits : length b ≤ 65536) (room : length b ≤ length s) where
    module _ (f : Fault) (g : Err f ≡ setting_of st c) where
      pub reading-50 : message_reading t b asked ≡ refused f.number f.place
      unfolding message_reading accepted need
      reading-50 = let u = unsettled st c f g in rw (← e, le-leb _ _ fits, le-leb _ _ room, u.0, u.1)

      pub scratch-50 : scratch_after t st b s ≡ s
      unfolding scratch_after accepted
      scratch-50 = rw (← e, le-leb _ _ fits, le-leb _ _ room, (unsettled st c f g).0)

    module _ (x : Ignored) (f : Ok x ≡ setting_of st c) where
      walked : message_reading t b asked ≡ walk x (schema t) b
      unfolding message_r need
      walked = let u = settled st c x f in reading-under t (sym e) asked u.0 b ∙ rw (le-leb _ _ fits, le-leb _ _ room, u.1)

      pub opened : (k : List ℕ) → Layout t k → (w : Result ℕ Fault) → count_of w [] ≡ after 0 (count (walk x (schema t) b)) → Opened t b asked k w
      opened k l w d =
          let exact : count_of w [] ≡ count (walk x (schema t) b) = d ∙ after-exact x (schema t) (sized t (sym e)) b fits in
          record {
            refuses = λ r g. walked ∙ walked-refuses _ r (ap (λ (v : Result ℕ Fault). count_of v []) (sym g) ∙ exact);
            opens = λ n g.
                let r = walked-means _ n (ap (λ (v : Result ℕ Fault). count_of v []) (sym g) ∙ exact) in
                record {
                  table = sym e;
                  layout = l;
                  small = fits;
                  store = (settled st c x f).0;
                  sheet = r.0;
                  walks = walk-laxer x lax (laxest x) (schema t) b _ _ r.1;
                  means = walked ∙ r.1;
                  long = r.2;
                };
          }

      pub scratch-cleared : scratch_after t st b s ≡ splice (length b) 0 (replicate (length b) 0) s
      unfolding scratch_after accepted
      scratch-cleared = rw (← e, le-leb _ _ fits, le-leb _ _ room, (settled st c x f).0)

-- THE VERDICT, BY THE READING

module _ (t b : List ℕ) (u : Under) where
  pub verdict-accepted : (s m : List ℕ) → message_reading t b u ≡ done s m → message_verdict t b u ≡ Ok tt
  unfolding message_verdict verdict_of
  verdict-accepted s m e = rw e

  pub verdict-refused : (n p : ℕ) → message_reading t b u ≡ refused n p → message_verdict t b u ≡ Err (fault_at n p)
  unfolding message_verdict verdict_of
  verdict-refused n p e = rw e

-- a check's answer without its count
pub opened-verdict : (t b k : List ℕ) (u : Under) (w : Result ℕ Fault) → Opened t b u k w → result_and w (Ok tt) ≡ message_verdict t b u
opened-verdict t b k u (Ok n) o = sym (verdict-accepted t b u _ _ (o.opens n refl).means)
opened-verdict t b k u (Err f) o = sym (verdict-refused t b u f.number f.place (o.refuses f refl))
