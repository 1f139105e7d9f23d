-- A group is read alike in another place, with more levels left and where more is ignored: only the places of faults differ, and the faults 24, 4, 6 and 8.
use mathlib.Core.Path.{◌≡◌, refl}
use mathlib.Core.Bool.{Bool, true, false, cond, ◌&&◌, ◌||◌}
use mathlib.Core.List.{List, [], ◌∷◌}
use Prim.Native.Nat.{ℕ, zero, suc, ◌+◌, ◌-◌, ◌*◌}
use native.Mathlib.Omega.{arith}
use lib.ListN.{length, drop, replicate}
use lib.Dec.{leb, eqb}
use Rattle.wire.specs.Bytes.{part, le, all_zero, zeros}
use Rattle.schema.specs.Faults.{need}
use Rattle.schema.specs.Schema.{Test, passes, test_fault, text_ok, Kind, plain, inline, indirect, static, dynamic, Field, Group, kind_width, value_width, field_width, fields_of, width, find, known, allows}
use Rattle.message.specs.Occupancy.{free, pads_zero, pads_before}
use Rattle.message.specs.Sheet.{Mark, mark_bytes, kind_mark, field_mark}
use Rattle.settings.specs.declared.Ignored.{Ignored}
use Rattle.settings.specs.Store.{lax}
use Rattle.message.specs.Walk.{Here, here, Reading, refused, done, Reader, Inner, byte, word, prefixed, next, none_r, then_r, marked_r, optional_r, plain_r, inline_r, in_area, Place, lost, found, locate, onward, indirect_r, text_r, inner_r, items_r, list_r, kind_r, value_r, field_r, fields_r, static_r, extending_r, groups_r, extension_r, extension_in, behind_r, padded, body_r, head_r, group_r, walk}

-- where the first is done, the second is done with the same sheet and occupancy
pub data Alike : Reading → Reading → Type 0 where
  fault : {n p : ℕ} {r : Reading} → Alike (refused n p) r
  same : {s m : List ℕ} → Alike (done s m) (done s m)

pub alike-done : {r r' : Reading} {s m : List ℕ} → Alike r r' → r ≡ done s m → r' ≡ done s m
alike-done fault e = let z : ◌≡◌ {A = ℕ} 0 1 = cc in absurd (omega arith)
alike-done same e = e

alike-need : (c : Bool) (n p n' p' : ℕ) {r r' : Reading} → Alike r r' → Alike (need c (refused n p) r) (need c (refused n' p') r')
unfolding need
alike-need true n p n' p' x = x
alike-need false n p n' p' x = fault

-- y ignores all that x does
pub record Laxer (x y : Ignored) : Type 0 where
  pub absent : x.absent ≡ true → y.absent ≡ true
  pub pads : x.pads ≡ true → y.pads ≡ true
  pub unused : x.unused ≡ true → y.unused ≡ true

alike-laxer : (c c' d : Bool) → (c ≡ true → c' ≡ true) → (n p n' p' : ℕ) {r r' : Reading} → Alike r r' → Alike (need (c || d) (refused n p) r) (need (c' || d) (refused n' p') r')
unfolding need
alike-laxer true c' d f n p n' p' x = rw (f refl) x
alike-laxer false true true f n p n' p' x = x
alike-laxer false true false f n p n' p' x = fault
alike-laxer false false d f n p n' p' x = alike-need d n p n' p' x

alike_refl : (r : Reading) → Alike r r
alike_refl (refused n p) = fault
alike_refl (done s m) = same

need-any : (c : Bool) (n p : ℕ) (r : Reading) → Alike (need c (refused n p) r) r
unfolding need
need-any true n p r = alike_refl r
need-any false n p r = fault

alike-cond : (c : Bool) {r r' q q' : Reading} → Alike r r' → Alike q q' → Alike (cond c r q) (cond c r' q')
alike-cond true x y = x
alike-cond false x y = y

alike-prefixed : (s : List ℕ) {r r' : Reading} → Alike r r' → Alike (prefixed s r) (prefixed s r')
unfolding prefixed
alike-prefixed s fault = fault
alike-prefixed s same = same

alike_next : (f f' : List ℕ → Reading) {r r' : Reading} → Alike r r' → ((m : List ℕ) → Alike (f m) (f' m)) → Alike (next r f) (next r' f')
unfolding next
alike_next f f' fault g = fault
alike_next f f' (same {s = s} {m = m}) g = alike-prefixed s (g m)

data AlikePlace : Place → Place → Type 0 where
  gone : {n p : ℕ} {x : Place} → AlikePlace (lost n p) x
  led : {p n : ℕ} {m : List ℕ} → AlikePlace (found p n m) (found p n m)

place-need : (c : Bool) (n p n' p' : ℕ) {x x' : Place} → AlikePlace x x' → AlikePlace (need c (lost n p) x) (need c (lost n' p') x')
unfolding need
place-need true n p n' p' x = x
place-need false n p n' p' x = gone

alike-onward : {x x' : Place} (h h' : Here) (inside inside' : ℕ → Reader) → AlikePlace x x' → ((n p : ℕ) (m : List ℕ) → Alike (inside n h p m) (inside' n h' p m))
    → Alike (onward x h inside) (onward x' h' inside')
unfolding onward
alike-onward h h' inside inside' gone f = fault
alike-onward h h' inside inside' (led {p = p} {n = n} {m = m}) f = f n p m

-- READERS OF THE SAME BYTES IN TWO PLACES

module _ (x y : Ignored) (more : Laxer x y) (b : List ℕ) (base base' area : ℕ) where
  abbrev h : Here
  h = here x b base area

  abbrev h' : Here
  h' = here y b base' area

  abbrev Readers : Reader → Reader → Type 0
  Readers R R' = (at : ℕ) (m : List ℕ) → Alike (R h at m) (R' h' at m)

  none_alike : Readers none_r none_r
  unfolding none_r
  none_alike at m = same

  marked-alike : (k : Mark) (R R' : Reader) → Readers R R' → Readers (marked_r k R) (marked_r k R')
  unfolding marked_r
  marked-alike k R R' f at m = alike-prefixed (mark_bytes k) (f at m)

  optional-alike : (k : Mark) (w : ℕ) (R R' : Reader) → Readers R R' → Readers (optional_r k w R) (optional_r k w R')
  unfolding optional_r
  optional-alike k w R R' f at m =
      let z : List ℕ = part w (at + 1) b in
      alike-cond (eqb (byte at b) 1) (marked-alike k R R' f (at + 1) m)
      (alike-need (eqb (byte at b) 0) 11 (base + at) 11 (base' + at)
      (alike-laxer x.absent y.absent (all_zero z) more.absent 4 (base + (at + 1) + zeros z) 4 (base' + (at + 1) + zeros z) same))

  plain-alike : (w : ℕ) (t : Test) → Readers (plain_r w t) (plain_r w t)
  unfolding plain_r
  plain-alike w t at m = alike-need (passes t (part w at b)) (test_fault t) (base + at) (test_fault t) (base' + at) same

  inline-alike : (u : Bool) (c : ℕ) → Readers (inline_r u c) (inline_r u c)
  unfolding inline_r
  inline-alike u c at m =
      let n : ℕ = byte at b in
      let z : List ℕ = part (c - n) (at + 1 + n) b in
      alike-need (leb n c) 7 (base + at) 7 (base' + at)
      (alike-laxer x.unused y.unused (all_zero z) more.unused 8 (base + (at + 1 + n) + zeros z) 8 (base' + (at + 1 + n) + zeros z)
      (alike-need (text_ok u (part n (at + 1) b)) 9 (base + (at + 1)) 9 (base' + (at + 1)) same))

  indirect-alike : (past w : ℕ) (inside inside' : ℕ → Reader) → ((n : ℕ) → Readers (inside n) (inside' n)) → Readers (indirect_r past w inside) (indirect_r past w inside')
  unfolding indirect_r locate in_area
  indirect-alike past w inside inside' f at m =
      let p : ℕ = at + word at b in
      let n : ℕ = word p b in
      alike-onward h h' inside inside'
      (place-need (in_area h p) 5 (base + at) 5 (base' + at)
      (place-need (leb (p + 4) (length b)) 26 (base + p) 26 (base' + p)
      (place-need (leb (p + (4 + n * w)) (length b)) past (base + p) past (base' + p)
      (place-need (free p (4 + n * w) m) 27 (base + p) 27 (base' + p) led)))) f

  text-alike : (u : Bool) (n : ℕ) → Readers (text_r u n) (text_r u n)
  unfolding text_r
  text-alike u n p m = alike-need (text_ok u (part n (p + 4) b)) 9 (base + (p + 4)) 9 (base' + (p + 4)) same

  items_alike : (w : ℕ) (R R' : Reader) → Readers R R' → (n : ℕ) → Readers (items_r w R n) (items_r w R' n)
  unfolding items_r
  items_alike w R R' f zero at m = none_alike at m
  items_alike w R R' f (suc n) at m = alike_next _ _ (f at m) (λ m₁. items_alike w R R' f n (at + w) m₁)

  list-alike : (w : ℕ) (R R' : Reader) → Readers R R' → (n : ℕ) → Readers (list_r w R n) (list_r w R' n)
  unfolding list_r
  list-alike w R R' f n p m = alike-prefixed (part 4 p b) (items_alike w R R' f n (p + 4) m)

  -- I' reads a dynamic group like I, wherever it starts
  module _ (I I' : Inner) (alike : (a q q' : ℕ) (c : List ℕ) → Alike (I a q c) (I' a q' c)) where
    inner-alike : (g n : ℕ) → Readers (inner_r I g n) (inner_r I' g n)
    unfolding inner_r
    inner-alike g n p m = alike_next _ _ (alike g (base + p) (base' + p) (part (4 + n) p b)) (λ _. same)

    module _ (sw : ℕ → ℕ) (S S' : ℕ → Reader) (statics : (g : ℕ) → Readers (S g) (S' g)) where
      kind-alike : (k : Kind) → Readers (kind_r I S k) (kind_r I' S' k)
      unfolding kind_r
      kind-alike (plain w t) at m = plain-alike w t at m
      kind-alike (inline u c) at m = inline-alike u c at m
      kind-alike (indirect u) at m = indirect-alike 26 1 (text_r u) (text_r u) (text-alike u) at m
      kind-alike (static g) at m = statics g at m
      kind-alike (dynamic g) at m = indirect-alike 26 1 (inner_r I g) (inner_r I' g) (inner-alike g) at m

      value-alike : (f : Field) → Readers (value_r I sw S f) (value_r I' sw S' f)
      unfolding value_r
      value-alike f at m = go f.sequence
        where
          go : (c : Bool) → Alike (cond c (indirect_r 13 (kind_width sw f.kind) (list_r (kind_width sw f.kind) (marked_r (kind_mark f.kind) (kind_r I S f.kind)))) (kind_r I S f.kind) h at m)
              (cond c (indirect_r 13 (kind_width sw f.kind) (list_r (kind_width sw f.kind) (marked_r (kind_mark f.kind) (kind_r I' S' f.kind)))) (kind_r I' S' f.kind) h' at m)
          go true = indirect-alike 13 _ _ _ (list-alike (kind_width sw f.kind) _ _ (marked-alike (kind_mark f.kind) _ _ (kind-alike f.kind))) at m
          go false = kind-alike f.kind at m

      field_alike : (f : Field) → Readers (field_r I sw S f) (field_r I' sw S' f)
      unfolding field_r
      field_alike f at m = go f.optional
        where
          go : (c : Bool) → Alike (cond c (optional_r (field_mark f) (value_width sw f) (value_r I sw S f)) (marked_r (field_mark f) (value_r I sw S f)) h at m)
              (cond c (optional_r (field_mark f) (value_width sw f) (value_r I' sw S' f)) (marked_r (field_mark f) (value_r I' sw S' f)) h' at m)
          go true = optional-alike (field_mark f) (value_width sw f) _ _ (value-alike f) at m
          go false = marked-alike (field_mark f) _ _ (value-alike f) at m

      fields-alike : (fs : List Field) → Readers (fields_r I sw S fs) (fields_r I' sw S' fs)
      unfolding fields_r then_r
      fields-alike [] at m = none_alike at m
      fields-alike (f ∷ fs) at m = alike_next _ _ (field_alike f at m) (λ m₁. fields-alike fs (at + field_width sw f) m₁)

    module _ (gs : List Group) where
      static-alike : (d g : ℕ) → Readers (static_r gs I d g) (static_r gs I' d g)
      unfolding static_r
      static-alike zero g at m = none_alike at m
      static-alike (suc d) g at m = fields-alike (width gs d) _ _ (static-alike d) (fields_of gs g) at m

      extending-alike : (n : ℕ) → Readers (extending_r gs I n) (extending_r gs I' n)
      unfolding extending_r
      extending-alike n p m =
          alike-need (leb 12 n) 1 (base + p) 1 (base' + p)
          (alike-cond (known gs (le (part 8 (p + 4) b))) (marked-alike _ _ _ (inner-alike 0 n) p m) (marked-alike _ _ _ (text-alike false n) p m))

      groups-alike : (n : ℕ) → Readers (groups_r gs I n) (groups_r gs I' n)
      unfolding groups_r
      groups-alike n p m = alike-cond (eqb n 0) same (marked-alike _ _ _ (list-alike 4 _ _ (indirect-alike 26 1 _ _ extending-alike) n) p m)

      extension-alike : Readers (extension_r gs I) (extension_r gs I')
      unfolding extension_r
      extension-alike at m = alike-cond (eqb (word at b) 0) same (indirect-alike 13 4 _ _ groups-alike at m)

  behind-alike : (R R' S S' : Reader) → Readers R R' → Readers S S' → Readers (behind_r R S) (behind_r R' S')
  unfolding behind_r extension_in in_area
  behind-alike R R' S S' f g at m = alike-need (extension_in h at) 3 (base + at) 3 (base' + at) (alike_next _ _ (f (at + 4) m) (λ m₁. g at m₁))

  padded-alike : {r r' : Reading} → Alike r r' → Alike (padded h r) (padded h' r')
  unfolding padded
  padded-alike fault = fault
  padded-alike (same {s = s} {m = m}) =
      let u : List ℕ = drop area m in
      let v : List ℕ = drop area b in
      alike-laxer x.pads y.pads (pads_zero u v) more.pads 6 (base + area + pads_before u v) 6 (base' + area + pads_before u v) same

-- GROUPS

module _ (x y : Ignored) (more : Laxer x y) (gs : List Group) where
  body_alike : (I I' : Inner) → ((a q q' : ℕ) (c : List ℕ) → Alike (I a q c) (I' a q' c)) → (g base base' : ℕ) (b : List ℕ) → Alike (body_r x gs I g base b) (body_r y gs I' g base' b)
  unfolding body_r
  body_alike I I' f g base base' b =
      let area : ℕ = 16 + width gs 5 g in
      alike-need (leb area (length b)) 14 base 14 base'
      (padded-alike x y more b base base' area
      (alike-prefixed (part 8 4 b) (alike_next _ _
      (behind-alike x y more b base base' area _ _ _ _ (static-alike x y more b base base' area I I' f gs 5 g) (extension-alike x y more b base base' area I I' f gs) 12 (replicate (length b) 0)) (λ _. same))))

  head-alike : (B B' : ℕ → ℕ → List ℕ → Reading) → ((g q q' : ℕ) (c : List ℕ) → Alike (B g q c) (B' g q' c)) → (a base base' : ℕ) (b : List ℕ) → Alike (head_r gs B a base b) (head_r gs B' a base' b)
  unfolding head_r
  head-alike B B' f a base base' b =
      let g : ℕ = find gs (le (part 8 4 b)) in
      alike-need (leb 16 (length b)) 1 base 1 base'
      (alike-need (known gs (le (part 8 4 b))) 2 base 2 base'
      (alike-need (allows gs a g) 25 base 25 base' (f g base base' b)))

  -- where more is ignored
  pub group-laxer : (l a base base' : ℕ) (b : List ℕ) → Alike (group_r x gs l a base b) (group_r y gs l a base' b)
  unfolding group_r
  group-laxer zero a base base' b = head-alike _ _ (λ g q q' c. fault) a base base' b
  group-laxer (suc l) a base base' b = head-alike _ _ (body_alike (group_r x gs l) (group_r y gs l) (group-laxer l)) a base base' b

  pub walk-laxer : (b s m : List ℕ) → walk x gs b ≡ done s m → walk y gs b ≡ done s m
  unfolding walk
  walk-laxer b s m e = alike-done (alike-need (leb 4 (length b) && eqb (length b) (4 + word 0 b)) 22 0 22 0 (alike-prefixed _ (group-laxer 8 0 0 0 b))) e

itself : (x : Ignored) → Laxer x x
itself x = record { absent = λ e. e; pads = λ e. e; unused = λ e. e }

-- all that can be is ignored
pub laxest : (x : Ignored) → Laxer x lax
laxest x = record { absent = λ e. refl; pads = λ e. refl; unused = λ e. refl }

module _ (x : Ignored) (gs : List Group) where
  -- one level more
  pub deeper_alike : (l a base base' : ℕ) (b : List ℕ) → Alike (group_r x gs l a base b) (group_r x gs (suc l) a base' b)
  unfolding group_r
  deeper_alike zero a base base' b = head-alike x x (itself x) gs _ _ (λ g q q' c. fault) a base base' b
  deeper_alike (suc l) a base base' b = head-alike x x (itself x) gs _ _ (body_alike x x (itself x) gs (group_r x gs l) (group_r x gs (suc l)) (deeper_alike l)) a base base' b

  -- where no group is named, any is allowed
  head-any : (B : ℕ → ℕ → List ℕ → Reading) (a base : ℕ) (b : List ℕ) → Alike (head_r gs B a base b) (head_r gs B 0 base b)
  unfolding head_r allows need
  head-any B a base b =
      alike-need (leb 16 (length b)) 1 base 1 base
      (alike-need (known gs (le (part 8 4 b))) 2 base 2 base (need-any (allows gs a (find gs (le (part 8 4 b)))) 25 base (B (find gs (le (part 8 4 b))) base b)))

  pub any-alike : (l a base : ℕ) (b : List ℕ) → Alike (group_r x gs l a base b) (group_r x gs l 0 base b)
  unfolding group_r
  any-alike zero a base b = head-any _ a base b
  any-alike (suc l) a base b = head-any _ a base b
