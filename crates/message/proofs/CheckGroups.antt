-- Dynamic groups, the extension and the whole message: each way through them.
use Rattle.std.proofs.Common.{Ok, Err, ◌≡◌, ℕ, zero, suc, ◌+◌, ◌-◌, ◌*◌, ◌%◌, ◌^◌, ◌<◌, ◌≤◌, min, Bool, true, false, ◌||◌, List, [], ◌++◌, length, drop, replicate, refl, ap, ◌∙◌, append-nil, mul-one, arith, length-append, drop_of_length-le, le-ltb, lt-ltb, eq-eqb, ne_eqb, le-leb}
use borrow.Author.Tests.{lt-leb}
use Rattle.wire.specs.Bytes.{part, splice, le}
use Rattle.wire.proofs.Laws.{length_part, splice-nil}
use Rattle.schema.specs.Faults.{need}
use Rattle.schema.specs.Schema.{Group, text_ok, width, find, known, allows}
use Rattle.message.specs.Occupancy.{pads_zero, pads_before, occupy}
use Rattle.message.specs.Sheet.{GB, XT, XU, GE}
use Rattle.settings.specs.declared.Ignored.{Ignored}
use Rattle.message.specs.Walk.{Reading, refused, done, prefixed, next, Here, here, Inner, word, locate, indirect_r, inner_r, items_r, list_r, text_r, static_r, extending_r, groups_r, extension_r, extension_in, behind_r, padded, body_r, head_r, group_r, walk}
use Rattle.message.specs.Count.{Count, failed, counted, count, more, and_then}
use Rattle.message.specs.declared.failure.Failure.{Failure}
use Rattle.message.specs.Check.{packed, occupancy_of, closing, count_by, after, place_by}
use Rattle.message.specs.declared.Step.{Step}
use Rattle.message.specs.declared.Found.{Found}
use Rattle.message.proofs.Tests.{or_right}
use Rattle.message.proofs.Count.{more-zero, more-more, then-then, then-passed, count_next, count-prefixed, count-marked, count-list, count-inner, length-mark}
use Rattle.message.proofs.CheckOccupancy.{packed-is, not-scattered}
use Rattle.message.proofs.CheckAnswers.{stays, goes_on, passed, bounded}
use Rattle.message.proofs.CheckFields.{leads-nowhere, leads-to}

-- A NESTED GROUP

pub nested-passed : (F : ℕ → List ℕ) (k : ℕ) (c : Count) (s : Step) (y : ℕ) (m : List ℕ) → count_by (λ _. []) (Ok s) ≡ after k c → F y ≡ m
    → count_by F (Ok (record { length = s.length; taken = y })) ≡ after k (and_then c (λ _. counted 0 m))
nested-passed F k c s y m e o =
    rw (passed (λ _. []) k c s (λ _. counted 0 m) e) (stays F s.length (counted 0 m) _ (rw o refl) refl (bounded (λ _. []) k c s e))

-- THE EXTENSION

module _ (gs : List Group) (I : Inner) (h : Here) (at : ℕ) (m : List ℕ) where
  pub extension-zero : word at h.bytes ≡ 0 → count (extension_r gs I h at m) ≡ counted 0 m
  unfolding extension_r count
  extension-zero e = rw (eq-eqb _ _ e)

  module _ (e : word at h.bytes ≡ 0 → ⊥) (F : ℕ → List ℕ) where
    extension-is : extension_r gs I h at m ≡ indirect_r 13 4 (groups_r gs I) h at m
    unfolding extension_r
    extension-is = rw (ne_eqb _ _ e)

    pub extension-nowhere : (f : Failure) → place_by F (Err f) ≡ locate 13 4 h at m → count (extension_r gs I h at m) ≡ failed f.number f.place
    extension-nowhere f s = ap count extension-is ∙ leads-nowhere 13 4 (groups_r gs I) h at m F f s

    module _ (f : Found) (s : place_by F (Ok f) ≡ locate 13 4 h at m) where
      pub extension-empty : f.count ≡ 0 → count (extension_r gs I h at m) ≡ counted 0 (F f.taken)
      unfolding groups_r count
      extension-empty z = ap count extension-is ∙ leads-to 13 4 (groups_r gs I) h at m F f s ∙ rw (eq-eqb _ _ z)

      pub extension-some : (f.count ≡ 0 → ⊥) → f.place + 4 ≤ length h.bytes → count (extension_r gs I h at m) ≡ more 6 (count (items_r 4 (indirect_r 26 1 (extending_r gs I)) f.count h (f.place + 4) (F f.taken)))
      unfolding groups_r
      extension-some z g =
          ap count extension-is ∙ leads-to 13 4 (groups_r gs I) h at m F f s
          ∙ rw (ne_eqb _ _ z) (count-marked h f.place (F f.taken) XT (list_r 4 (indirect_r 26 1 (extending_r gs I)) f.count)
          ∙ ap (more 2) (count-list h f.place (F f.taken) 4 (indirect_r 26 1 (extending_r gs I)) f.count g) ∙ more-more 2 4 _)

  -- one of its groups
  module _ (F : ℕ → List ℕ) (f : Found) (s : place_by F (Ok f) ≡ locate 26 1 h at m) where
    pub extending-short : f.count < 12 → count (indirect_r 26 1 (extending_r gs I) h at m) ≡ failed 1 (h.base + f.place)
    unfolding extending_r need count
    extending-short z = leads-to 26 1 (extending_r gs I) h at m F f s ∙ rw (lt-leb 12 f.count z)

    pub extending-known : 12 ≤ f.count → known gs (le (part 8 (f.place + 4) h.bytes)) ≡ true
        → count (indirect_r 26 1 (extending_r gs I) h at m) ≡ more 2 (and_then (count (I 0 (h.base + f.place) (part (4 + f.count) f.place h.bytes))) (λ _. counted 0 (F f.taken)))
    unfolding extending_r need
    extending-known z u =
        leads-to 26 1 (extending_r gs I) h at m F f s
        ∙ rw (le-leb 12 f.count z, u) (count-marked h f.place (F f.taken) GB (inner_r I 0 f.count) ∙ ap (more 2) (count-inner h f.place (F f.taken) I 0 f.count))

    pub extending-kept : 12 ≤ f.count → known gs (le (part 8 (f.place + 4) h.bytes)) ≡ false → f.place + (4 + f.count * 1) ≤ length h.bytes → count (indirect_r 26 1 (extending_r gs I) h at m) ≡ counted (6 + f.count) (F f.taken)
    unfolding extending_r need text_r text_ok count more
    extending-kept z u g =
        let k = rw mul-one at g in
        leads-to 26 1 (extending_r gs I) h at m F f s
        ∙ rw (le-leb 12 f.count z, u) (count-marked h f.place (F f.taken) XU (text_r false f.count) ∙ rw (length_part (4 + f.count) f.place h.bytes k) (ap (λ (j : ℕ). counted j (F f.taken)) (let r : 2 + (4 + f.count) ≡ 6 + f.count = omega arith in r)))

-- THE BODY

close-is : (y : Ignored) (s u b m : List ℕ) (base area : ℕ) → length s ≡ 8
    → count (padded (here y b base area) (prefixed s (next (done u m) (λ m. done GE m)))) ≡ more 8 (and_then (counted (length u) m) (closing (here y b base area)))
unfolding padded prefixed next and_then more closing count need
close-is y s u b m base area e = go (y.pads || pads_zero (drop area m) (drop area b))
  where
    go : (c : Bool) → count (need c (refused 6 (base + area + pads_before (drop area m) (drop area b))) (done (s ++ (u ++ GE)) []))
        ≡ more 8 (more (length u) (need c (failed 6 (base + area + pads_before (drop area m) (drop area b))) (counted 2 [])))
    go true = rw (length-append s (u ++ GE), length-append u GE, e)
    go false = refl

closes : (y : Ignored) (s b : List ℕ) (base area : ℕ) (r : Reading) → length s ≡ 8
    → count (padded (here y b base area) (prefixed s (next r (λ m. done GE m)))) ≡ more 8 (and_then (count r) (closing (here y b base area)))
unfolding count and_then more next prefixed padded
closes y s b base area (done u m) e = close-is y s u b m base area e
closes y s b base area (refused n p) e = refl

module _ (y : Ignored) (gs : List Group) (I : Inner) (g base : ℕ) (b : List ℕ) (a : ℕ) (ia : a ≡ 16 + width gs 5 g) where
  pub body-narrow : length b < a → count (body_r y gs I g base b) ≡ failed 14 base
  unfolding body_r need count
  body-narrow h = rw (← ia, lt-leb a (length b) h)

  module _ (l : a ≤ length b) (sixteen : 16 ≤ length b) where
    pub body-loose : extension_in (here y b base a) 12 ≡ false → count (body_r y gs I g base b) ≡ failed 3 (base + 12)
    unfolding body_r behind_r need next prefixed padded count
    body-loose e = rw (← ia, le-leb a (length b) l, e)

    body_is : extension_in (here y b base a) 12 ≡ true → count (body_r y gs I g base b)
        ≡ more 8 (and_then (count (next (static_r gs I 5 g (here y b base a) 16 (replicate (length b) 0)) (λ m. extension_r gs I (here y b base a) 12 m))) (closing (here y b base a)))
    unfolding body_r behind_r need
    body_is e = rw (← ia, le-leb a (length b) l, e) (closes y (part 8 4 b) b base a _ (length_part 8 4 b (omega arith)))

    -- the fields and what is behind them, on an occupancy of zeros and behind the eight bytes of the id
    pub body-begins : extension_in (here y b base a) 12 ≡ true → (k j : ℕ) → j ≡ (k + 8) % 2 ^ 64 → (o : List ℕ) → o ≡ replicate (length b) 0
        → after k (count (body_r y gs I g base b))
        ≡ after j (and_then (count (static_r gs I 5 g (here y b base a) 16 o)) (λ m. and_then (count (extension_r gs I (here y b base a) 12 m)) (closing (here y b base a))))
    body-begins e k j q o z =
        let r : Reading = static_r gs I 5 g (here y b base a) 16 (replicate (length b) 0) in
        let f : List ℕ → Count = λ m. count (extension_r gs I (here y b base a) 12 m) in
        rw z (goes_on k 8 j _ _ (body_is e) q ∙ ap (after j) (ap (λ (c : Count). and_then c (closing (here y b base a))) (count_next r (λ m. extension_r gs I (here y b base a) 12 m)) ∙ then-then (count r) f (closing (here y b base a))))

-- behind the fields, where there is no extension
pub rest_plain : (y : Ignored) (gs : List Group) (I : Inner) (b : List ℕ) (base a : ℕ) (m : List ℕ) → word 12 b ≡ 0
    → and_then (count (extension_r gs I (here y b base a) 12 m)) (closing (here y b base a)) ≡ closing (here y b base a) m
rest_plain y gs I b base a m e = then-passed _ 0 m (closing (here y b base a)) (extension-zero gs I (here y b base a) 12 m e) ∙ more-zero _

module _ (y : Ignored) (b : List ℕ) (base a : ℕ) (m : List ℕ) where
  pub closing-clean : y.pads || pads_zero (drop a m) (drop a b) ≡ true → closing (here y b base a) m ≡ counted 2 []
  unfolding closing need
  closing-clean e = rw e

  pub closing-filled : pads_zero (drop a m) (drop a b) ≡ true → closing (here y b base a) m ≡ counted 2 []
  closing-filled e = closing-clean (or_right y.pads _ e)

  pub closing-dirty : (z : ℕ) → z ≡ pads_before (drop a m) (drop a b) → y.pads || pads_zero (drop a m) (drop a b) ≡ false → closing (here y b base a) m ≡ failed 6 (base + a + z)
  unfolding closing need
  closing-dirty z iz e = rw (e, ← iz)

-- THE HEAD

module _ (gs : List Group) (B : ℕ → ℕ → List ℕ → Reading) (al base : ℕ) (b : List ℕ) where
  head-short : length b < 16 → head_r gs B al base b ≡ refused 1 base
  unfolding head_r need
  head-short h = rw (lt-leb 16 (length b) h)

  module _ (h : 16 ≤ length b) (g : ℕ) (is : g ≡ find gs (le (part 8 4 b))) where
    head-unknown : length gs ≤ g → head_r gs B al base b ≡ refused 2 base
    unfolding head_r need known
    head-unknown k = rw (← is, le-leb 16 (length b) h, le-ltb g (length gs) k)

    module _ (k : g < length gs) where
      head-other : allows gs al g ≡ false → head_r gs B al base b ≡ refused 25 base
      unfolding head_r need known
      head-other a = rw (← is, le-leb 16 (length b) h, lt-ltb g (length gs) k, a)

      head-body : allows gs al g ≡ true → head_r gs B al base b ≡ B g base b
      unfolding head_r need known
      head-body a = rw (← is, le-leb 16 (length b) h, lt-ltb g (length gs) k, a)

module _ (y : Ignored) (gs : List Group) (al base : ℕ) (b : List ℕ) where
  -- the body at a level: none where no level is left
  abbrev body_at : ℕ → ℕ → ℕ → List ℕ → Reading
  body_at zero g base b = refused 24 base
  body_at (suc l) g base b = body_r y gs (group_r y gs l) g base b

  group-is : (l : ℕ) → group_r y gs l al base b ≡ head_r gs (body_at l) al base b
  unfolding group_r
  group-is zero = refl
  group-is (suc l) = refl

  pub group-short : (l : ℕ) → length b < 16 → count (group_r y gs l al base b) ≡ failed 1 base
  unfolding count
  group-short l h = ap count (group-is l ∙ head-short gs (body_at l) al base b h)

  module _ (l : ℕ) (h : 16 ≤ length b) (g : ℕ) (is : g ≡ find gs (le (part 8 4 b))) where
    pub group-unknown : length gs ≤ g → count (group_r y gs l al base b) ≡ failed 2 base
    unfolding count
    group-unknown k = ap count (group-is l ∙ head-unknown gs (body_at l) al base b h g is k)

    module _ (k : g < length gs) where
      pub group-other : allows gs al g ≡ false → count (group_r y gs l al base b) ≡ failed 25 base
      unfolding count
      group-other a = ap count (group-is l ∙ head-other gs (body_at l) al base b h g is k a)

      pub group-deep : l ≡ 0 → allows gs al g ≡ true → count (group_r y gs l al base b) ≡ failed 24 base
      unfolding count
      group-deep z a = ap count (group-is l ∙ head-body gs (body_at l) al base b h g is k a) ∙ rw z

      pub group-body : (l ≡ 0 → ⊥) → allows gs al g ≡ true → group_r y gs l al base b ≡ body_r y gs (group_r y gs (l - 1)) g base b
      group-body z a = group-is l ∙ head-body gs (body_at l) al base b h g is k a ∙ go l z
        where
          go : (l : ℕ) → (l ≡ 0 → ⊥) → body_at l g base b ≡ body_r y gs (group_r y gs (l - 1)) g base b
          go zero z = absurd (z refl)
          go (suc l) z = let e : suc l - 1 ≡ l = omega arith in rw e

-- MARKS

pub cleared : (m : List ℕ) (n : ℕ) → n ≡ length m → splice n 0 (replicate n 0) m ≡ replicate n 0
cleared m n e = let h : length m ≤ n = omega arith in rw (drop_of_length-le m h) (append-nil _)

-- nothing is taken yet
pub nothing-taken : (a : ℕ) (m b : List ℕ) → length m ≡ length b → a < 131072 → occupancy_of a a m ≡ replicate (length b) 0
unfolding occupancy_of occupy
nothing-taken a m b e h =
    let k : min (packed a) (length m) - a ≡ 0 = omega (arith, packed-is a h) in
    rw (k, not-scattered a h, splice-nil a (replicate (length m) 0), e)

-- THE MESSAGE

module _ (y : Ignored) (gs : List Group) (b : List ℕ) where
  pub message-short : length b < 4 → count (walk y gs b) ≡ failed 22 0
  unfolding walk need count
  message-short h = rw (lt-leb 4 (length b) h)

  pub message-other : 4 ≤ length b → (length b ≡ 4 + word 0 b → ⊥) → count (walk y gs b) ≡ failed 22 0
  unfolding walk need count
  message-other h e = rw (le-leb 4 (length b) h, ne_eqb _ _ e)

  pub message-group : 4 ≤ length b → length b ≡ 4 + word 0 b → count (walk y gs b) ≡ more 2 (count (group_r y gs 8 0 0 b))
  unfolding walk need
  message-group h e = rw (le-leb 4 (length b) h, eq-eqb _ _ e) (count-prefixed _ (group_r y gs 8 0 0 b) ∙ rw (length-mark GB))
