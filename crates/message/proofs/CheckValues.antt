-- The values that hold no other, each way through them.
use Rattle.std.proofs.Common.{Ok, Err, ◌≡◌, ℕ, zero, suc, ◌+◌, ◌-◌, ◌*◌, ◌<◌, ◌≤◌, Bool, true, false, ◌||◌, ltb, List, [], ◌++◌, length, get_or, take, drop, sym, refl, ap, ◌∙◌, mul-one, arith, length-append, eq-eqb, ne_eqb, le-leb}
use borrow.Author.Tests.{lt-leb}
use Rattle.wire.specs.Bytes.{part, bytes_of, all_zero, zeros}
use Rattle.wire.proofs.Laws.{length_part, length-bytes}
use Rattle.schema.specs.declared.Fault.{Fault}
use Rattle.schema.specs.Faults.{fault_at, judged, need}
use Rattle.schema.specs.Schema.{Test, any, flag, below, symbol, passes, test_fault, text_ok, plain, inline, kind_width}
use Rattle.schema.specs.FieldKinds.{tested_kind, kind_fault}
use Rattle.schema.specs.declared.Tested.{Tested}
use Rattle.schema.specs.declared.Tested.TheVariants.{Flag, Millis, Nanos, Symbol}
use Rattle.message.specs.Sheet.{Mark, ST, kind_mark}
use Rattle.settings.specs.declared.Ignored.{Ignored}
use Rattle.message.specs.Walk.{here, Reader, Inner, word, byte, optional_r, plain_r, inline_r, in_area, extension_in, locate, indirect_r, text_r, kind_r, marked_r}
use Rattle.message.specs.Count.{failed, counted, count, more}
use Rattle.message.specs.Check.{place_by, item_r}
use Rattle.message.specs.declared.failure.Failure.{Failure}
use Rattle.message.specs.declared.Found.{Found}
use Rattle.message.proofs.Count.{count-marked, count-lost, count-found}

-- NUMBERS

module _ (y : Ignored) (w : ℕ) (x : Test) (b : List ℕ) (base area at : ℕ) (m : List ℕ) where
  plain_passes : passes x (part w at b) ≡ true → at + w ≤ length b → count (plain_r w x (here y b base area) at m) ≡ counted w m
  unfolding plain_r need count
  plain_passes e l = rw e (ap (λ (j : ℕ). counted j m) (length_part w at b l))

  plain-fails : passes x (part w at b) ≡ false → count (plain_r w x (here y b base area) at m) ≡ failed (test_fault x) (base + at)
  unfolding plain_r need count
  plain-fails e = rw e

-- what a test's answer says of its fault's number
pub judged-passes : (n p : ℕ) → Ok tt ≡ judged n p → n ≡ 0
unfolding judged
judged-passes zero p e = refl
judged-passes (suc n) p e = cc

pub judged-fails : (f : Fault) (n p : ℕ) → Err f ≡ judged n p → (n ≡ 0 → ⊥) × (f ≡ fault_at n p)
unfolding judged
judged-fails f zero p e = cc
judged-fails f (suc n) p e = ((λ z. omega arith), (cc))

-- the fault of a test, and what it tells of the value
module _ (w : ℕ) (x : Test) (s : List ℕ) where
  no-fault : kind_fault (plain w x) s ≡ 0 → passes x (take w s) ≡ true
  unfolding kind_fault passes test_fault
  no-fault h = go (passes x (take w s)) refl
    where
      quiet : (x : Test) → passes x (take w s) ≡ false → test_fault x ≡ 0 → true ≡ false
      quiet any e z = e
      quiet flag e z = absurd (omega arith)
      quiet (below n) e z = absurd (omega arith)
      quiet (symbol vs) e z = absurd (omega arith)

      go : (t : Bool) → passes x (take w s) ≡ t → passes x (take w s) ≡ true
      go true e = e
      go false e = e ∙ sym (quiet x e (rw e at h))

  a-fault : (kind_fault (plain w x) s ≡ 0 → ⊥) → (passes x (take w s) ≡ false) × (test_fault x ≡ kind_fault (plain w x) s)
  unfolding kind_fault
  a-fault h = go (passes x (take w s)) refl
    where
      go : (t : Bool) → passes x (take w s) ≡ t → (passes x (take w s) ≡ false) × (test_fault x ≡ kind_fault (plain w x) s)
      go true e = absurd (h (rw e))
      go false e = (e, rw e)

module _ (y : Ignored) (I : Inner) (S : ℕ → Reader) (b : List ℕ) (base area at : ℕ) (m : List ℕ) where
  pub plain-counts : (w : ℕ) → at + w ≤ length b → count (item_r I S (plain w any) (here y b base area) at m) ≡ counted (2 + w) m
  unfolding kind_mark kind_r passes more
  plain-counts w l = count-marked (here y b base area) at m _ (plain_r w any) ∙ ap (more 2) (plain_passes y w any b base area at m refl l)

  module _ (sw : ℕ → ℕ) (es : List (List ℕ)) where
    number-passes : (w : ℕ) (x : Test) → kind_fault (plain w x) (drop at b) ≡ 0 → at + w ≤ length b → count (item_r I S (plain w x) (here y b base area) at m) ≡ counted (2 + w) m
    unfolding kind_mark kind_r more
    number-passes w x z l = count-marked (here y b base area) at m _ (plain_r w x) ∙ ap (more 2) (plain_passes y w x b base area at m (no-fault w x (drop at b) z) l)

    number-fails : (w : ℕ) (x : Test) → (kind_fault (plain w x) (drop at b) ≡ 0 → ⊥) → count (item_r I S (plain w x) (here y b base area) at m) ≡ failed (kind_fault (plain w x) (drop at b)) (base + at)
    unfolding kind_mark kind_r more
    number-fails w x z =
        let f = a-fault w x (drop at b) z in
        count-marked (here y b base area) at m _ (plain_r w x) ∙ ap (more 2) (plain-fails y w x b base area at m f.0) ∙ ap (λ (n : ℕ). failed n (base + at)) f.1

    pub tested-passes : (x : Tested) → kind_fault (tested_kind es x) (drop at b) ≡ 0 → at + kind_width sw (tested_kind es x) ≤ length b
        → count (item_r I S (tested_kind es x) (here y b base area) at m) ≡ counted (2 + kind_width sw (tested_kind es x)) m
    unfolding tested_kind kind_width
    tested-passes Flag z l = number-passes 1 flag z l
    tested-passes Millis z l = number-passes 4 (below 86400000) z l
    tested-passes Nanos z l = number-passes 8 (below 86400000000000) z l
    tested-passes (Symbol e) z l = number-passes 4 (symbol (get_or es e [])) z l

    pub tested-fails : (x : Tested) → (kind_fault (tested_kind es x) (drop at b) ≡ 0 → ⊥)
        → count (item_r I S (tested_kind es x) (here y b base area) at m) ≡ failed (kind_fault (tested_kind es x) (drop at b)) (base + at)
    unfolding tested_kind
    tested-fails Flag z = number-fails 1 flag z
    tested-fails Millis z = number-fails 4 (below 86400000) z
    tested-fails Nanos z = number-fails 8 (below 86400000000000) z
    tested-fails (Symbol e) z = number-fails 4 (symbol (get_or es e [])) z

  -- INLINE TEXT

  module _ (u : Bool) (c n : ℕ) (is : n ≡ byte at b) where
    pub inline-over : c < n → count (item_r I S (inline u c) (here y b base area) at m) ≡ failed 7 (base + at)
    unfolding kind_r inline_r need count more
    inline-over l = count-marked (here y b base area) at m _ (kind_r I S (inline u c)) ∙ rw (← is, lt-leb n c l)

    module _ (l : n ≤ c) where
      pub inline-dirty : (z : ℕ) → z ≡ zeros (part (c - n) (at + 1 + n) b) → y.unused || all_zero (part (c - n) (at + 1 + n) b) ≡ false
          → count (item_r I S (inline u c) (here y b base area) at m) ≡ failed 8 (base + (at + 1 + n) + z)
      unfolding kind_r inline_r need count more
      inline-dirty z iz e = count-marked (here y b base area) at m _ (kind_r I S (inline u c)) ∙ rw (← is, le-leb n c l, e, ← iz)

      module _ (e : y.unused || all_zero (part (c - n) (at + 1 + n) b) ≡ true) where
        pub inline-bad : text_ok u (part n (at + 1) b) ≡ false → count (item_r I S (inline u c) (here y b base area) at m) ≡ failed 9 (base + (at + 1))
        unfolding kind_r inline_r need count more
        inline-bad o = count-marked (here y b base area) at m _ (kind_r I S (inline u c)) ∙ rw (← is, le-leb n c l, e, o)

        pub inline-counts : text_ok u (part n (at + 1) b) ≡ true → at + 1 + n ≤ length b → count (item_r I S (inline u c) (here y b base area) at m) ≡ counted (6 + n) m
        unfolding kind_r inline_r need count more
        inline-counts o h =
            let q : length (bytes_of 4 n ++ part n (at + 1) b) ≡ 4 + n = length-append (bytes_of 4 n) (part n (at + 1) b) ∙ rw (length-bytes 4 n, length_part n (at + 1) b h) in
            count-marked (here y b base area) at m _ (kind_r I S (inline u c)) ∙ rw (← is, le-leb n c l, e, o, q) (ap (λ (j : ℕ). counted j m) (let r : 2 + (4 + n) ≡ 6 + n = omega arith in r))

-- INDIRECT TEXT

module _ (y : Ignored) (u : Bool) (b : List ℕ) (base area at : ℕ) (m : List ℕ) (F : ℕ → List ℕ) where
  pub text-lost : (f : Failure) → place_by F (Err f) ≡ locate 26 1 (here y b base area) at m → count (marked_r ST (indirect_r 26 1 (text_r u)) (here y b base area) at m) ≡ failed f.number f.place
  unfolding place_by more
  text-lost f s =
      count-marked (here y b base area) at m ST (indirect_r 26 1 (text_r u))
      ∙ ap (more 2) (count-lost (here y b base area) at m 26 1 (text_r u) f.number f.place (sym s))

  module _ (f : Found) (s : place_by F (Ok f) ≡ locate 26 1 (here y b base area) at m) where
    text-open : count (marked_r ST (indirect_r 26 1 (text_r u)) (here y b base area) at m) ≡ more 2 (count (text_r u f.count (here y b base area) f.place (F f.taken)))
    unfolding place_by
    text-open =
        count-marked (here y b base area) at m ST (indirect_r 26 1 (text_r u))
        ∙ ap (more 2) (count-found (here y b base area) at m 26 1 (text_r u) f.place f.count (F f.taken) (sym s))

    pub text-bad : text_ok u (part f.count (f.place + 4) b) ≡ false → count (marked_r ST (indirect_r 26 1 (text_r u)) (here y b base area) at m) ≡ failed 9 (base + (f.place + 4))
    unfolding text_r need count more
    text-bad o = text-open ∙ rw o

    pub text-counts : text_ok u (part f.count (f.place + 4) b) ≡ true → f.place + (4 + f.count * 1) ≤ length b → count (marked_r ST (indirect_r 26 1 (text_r u)) (here y b base area) at m) ≡ counted (6 + f.count) (F f.taken)
    unfolding text_r need count more
    text-counts o h = let k = rw mul-one at h in text-open ∙ rw (o, length_part (4 + f.count) f.place b k) (ap (λ (j : ℕ). counted j (F f.taken)) (let r : 2 + (4 + f.count) ≡ 6 + f.count = omega arith in r))

-- AN OPTIONAL FIELD THAT IS NOT THERE

module _ (y : Ignored) (k : Mark) (w : ℕ) (R : Reader) (b : List ℕ) (base area at : ℕ) (m : List ℕ) (v : ℕ) (is : v ≡ byte at b) (no : v ≡ 1 → ⊥) where
  pub flag-wrong : (v ≡ 0 → ⊥) → count (optional_r k w R (here y b base area) at m) ≡ failed 11 (base + at)
  unfolding optional_r need count
  flag-wrong z = rw (← is, ne_eqb _ _ no, ne_eqb _ _ z)

  pub absent-dirty : v ≡ 0 → (x : ℕ) → x ≡ zeros (part w (at + 1) b) → y.absent || all_zero (part w (at + 1) b) ≡ false → count (optional_r k w R (here y b base area) at m) ≡ failed 4 (base + (at + 1) + x)
  unfolding optional_r need count
  absent-dirty z x ix a = rw (← is, ne_eqb _ _ no, eq-eqb _ _ z, a, ← ix)

  pub absent-counts : v ≡ 0 → y.absent || all_zero (part w (at + 1) b) ≡ true → count (optional_r k w R (here y b base area) at m) ≡ counted 2 m
  unfolding optional_r need count
  absent-counts z a = rw (← is, ne_eqb _ _ no, eq-eqb _ _ z, a)

-- THE EXTENSION'S LOCATION

module _ (y : Ignored) (b : List ℕ) (base area o : ℕ) (is : o ≡ word 12 b) where
  pub extension-none : o ≡ 0 → true ≡ extension_in (here y b base area) 12
  unfolding extension_in
  extension-none z = rw (← is, eq-eqb _ _ z)

  pub extension-low : (o ≡ 0 → ⊥) → 12 + o < area → false ≡ extension_in (here y b base area) 12
  unfolding extension_in in_area
  extension-low z l = rw (← is, ne_eqb _ _ z, lt-leb area (12 + o) l)

  pub extension-at : (o ≡ 0 → ⊥) → area ≤ 12 + o → ltb (12 + o) (length b) ≡ extension_in (here y b base area) 12
  unfolding extension_in in_area
  extension-at z l = rw (← is, ne_eqb _ _ z, le-leb area (12 + o) l)
