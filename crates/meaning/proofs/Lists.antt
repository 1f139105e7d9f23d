-- A message's sheet is the records of its values.
use mathlib.Core.Path.{◌≡◌, refl, sym, ap, ◌∙◌}
use mathlib.Core.Bool.{Bool, true, false, cond, ◌||◌}
use mathlib.Core.List.{List, [], ◌∷◌, ◌++◌, append-nil, append_assoc}
use Prim.Native.Nat.{ℕ, zero, suc, ◌+◌}
use lib.ListN.{length, replicate}
use lib.Dec.{eqb}
use borrow.Author.Tests.{eqb-true}
use Rattle.wire.specs.Bytes.{part, le, all_zero, zeros}
use Rattle.schema.specs.Faults.{need}
use Rattle.schema.specs.Schema.{Test, Kind, plain, inline, indirect, static, dynamic, Field, Group, kind_width, value_width, field_width, fields_of, width, find, known}
use Rattle.message.specs.Sheet.{Mark, VA, ST, SG, SQ, GB, XT, XU, mark_bytes, NO, GE, kind_mark, field_mark}
use Rattle.settings.specs.declared.Ignored.{Ignored}
use Rattle.message.specs.Walk.{Here, here, Reading, refused, done, Reader, Inner, Place, lost, word, byte, next, none_r, then_r, marked_r, optional_r, plain_r, inline_r, locate, onward, indirect_r, text_r, inner_r, items_r, list_r, kind_r, value_r, field_r, fields_r, static_r, extending_r, groups_r, extension_r, behind_r, body_r, head_r, group_r, walk}
use Rattle.meaning.specs.Conforms.{Value, number, presence, inline_text, text, list, group, extending, Values, target, count_at, items_v, kind_v, value_v, field_v, fields_v, static_v, groups_v, extension_v, type_id}
use Rattle.meaning.specs.Lists.{record_of, records, group_records, sheet_of}
use Rattle.meaning.proofs.Sat.{Sat, unsaid, said, sat-is, sat-need, sat-prefixed, sat-next, sat-map, sat-padded}

onward-sat : {Q : List ℕ → List ℕ → Type 0} (c : Bool) (n p : ℕ) (x : Place) (h : Here) (inside : ℕ → Reader) → Sat Q (onward x h inside) → Sat Q (onward (need c (lost n p) x) h inside)
unfolding need onward
onward-sat true n p x h inside s = s
onward-sat false n p x h inside s = unsaid

sat-leads : {Q : List ℕ → List ℕ → Type 0} (past w : ℕ) (inside : ℕ → Reader) (h : Here) (at : ℕ) (m : List ℕ)
    → ((m' : List ℕ) → Sat Q (inside (count_at h.bytes at) h (target h.bytes at) m')) → Sat Q (indirect_r past w inside h at m)
unfolding indirect_r locate onward
sat-leads past w inside h at m f = onward-sat _ 5 _ _ h inside (onward-sat _ 26 _ _ h inside (onward-sat _ past _ _ h inside (onward-sat _ 27 _ _ h inside (f _))))

pub records-both : (G : List ℕ → List ℕ) (gs : List Group) (b : List ℕ) (vs ws : List Value) → records G gs b vs ++ records G gs b ws ≡ records G gs b (vs ++ ws)
unfolding records
records-both G gs b [] ws = refl
records-both G gs b (v ∷ vs) ws = append_assoc (record_of G gs b v) (records G gs b vs) (records G gs b ws) ∙ ap (λ y. record_of G gs b v ++ y) (records-both G gs b vs ws)

module _ (gs : List Group) (G : List ℕ → List ℕ) (I : Inner) (inner : (n base : ℕ) (b : List ℕ) → Sat (λ s m. s ≡ G b) (I n base b)) where
  abbrev shown : Here → List Value → List ℕ
  shown h vs = records G gs h.bytes vs

  record Lists (R : Reader) (v : Values) : Type 0 where
    says : (h : Here) (at : ℕ) (m : List ℕ) → Sat (λ s m'. s ≡ shown h (v h.bytes at)) (R h at m)

  one : (h : Here) (v : Value) → record_of G gs h.bytes v ≡ shown h (v ∷ [])
  unfolding records
  one h v = sym (append-nil (record_of G gs h.bytes v))

  both : (h : Here) (vs ws : List Value) {r : Reading} {f : List ℕ → Reading} → Sat (λ s m. s ≡ shown h vs) r
      → ((m : List ℕ) → Sat (λ s m'. s ≡ shown h ws) (f m)) → Sat (λ s m. s ≡ shown h (vs ++ ws)) (next r f)
  both h vs ws x y = sat-next (sat-map (λ s m p. sat-map (λ t m' q. ap (λ y. y ++ t) p ∙ ap (λ y. shown h vs ++ y) q ∙ records-both G gs h.bytes vs ws) (y m)) x)

  lists-items : (w : ℕ) (R : Reader) (v : Values) → Lists R v → (n : ℕ) → Lists (items_r w R n) (items_v w v n)
  unfolding items_r items_v none_r records
  lists-items w R v A zero = record { says = λ h at m. said {s = []} {m = m} refl }
  lists-items w R v A (suc n) = record { says = λ h at m. both h (v h.bytes at) (items_v w v n h.bytes (at + w)) (A.says h at m) (λ m'. (lists-items w R v A n).says h (at + w) m') }

  -- VALUES WITH THEIR MARKS

  lists-plain : (w : ℕ) (t : Test) → Lists (marked_r VA (plain_r w t)) (λ b at. number w t at ∷ [])
  unfolding marked_r plain_r record_of
  lists-plain w t = record { says = λ h at m. sat-prefixed (mark_bytes VA) (sat-need _ _ _ (λ _. said {m = m} (one h (number w t at)))) }

  lists-inline : (u : Bool) (c : ℕ) → Lists (marked_r ST (inline_r u c)) (λ b at. inline_text u c at ∷ [])
  unfolding marked_r inline_r record_of
  lists-inline u c = record { says = λ h at m. sat-prefixed (mark_bytes ST) (sat-need _ 7 _ (λ _. sat-need _ 8 _ (λ _. sat-need _ 9 _ (λ _. said {m = m} (one h (inline_text u c at)))))) }

  lists-text : (u : Bool) → Lists (marked_r ST (indirect_r 26 1 (text_r u))) (λ b at. text u at ∷ [])
  unfolding marked_r text_r record_of
  lists-text u = record { says = λ h at m. sat-prefixed (mark_bytes ST) (sat-leads 26 1 (text_r u) h at m (λ m'. sat-need _ 9 _ (λ _. said {m = m'} (one h (text u at))))) }

  lists-inner : (g : ℕ) → Lists (marked_r GB (indirect_r 26 1 (inner_r I g))) (λ b at. group g at ∷ [])
  unfolding marked_r inner_r record_of
  lists-inner g = record {
    says = λ h at m. sat-prefixed (mark_bytes GB) (sat-leads 26 1 (inner_r I g) h at m (λ m'. sat-next (sat-map (λ s _ p. said {s = []} {m = m'}
        (ap (λ y. mark_bytes GB ++ y) (append-nil s ∙ p) ∙ one h (group g at))) (inner g _ _))));
  }

  lists-list : (w : ℕ) (R : Reader) (v : Values) → Lists R v → Lists (marked_r SQ (indirect_r 13 w (list_r w R))) (λ b at. list w at ∷ items_v w v (count_at b at) b (target b at + 4))
  unfolding marked_r list_r record_of records
  lists-list w R v A = record {
    says = λ h at m. sat-prefixed (mark_bytes SQ) (sat-leads 13 w (list_r w R) h at m (λ m'. sat-prefixed _ (sat-map (λ s _ p. ap (λ y. mark_bytes SQ ++ (part 4 (target h.bytes at) h.bytes ++ y)) p ∙ sym (append_assoc (mark_bytes SQ) _ _))
        ((lists-items w R v A (count_at h.bytes at)).says h (target h.bytes at + 4) m'))));
  }

  -- FIELDS

  optional : (k : Mark) (w : ℕ) (R : Reader) (v : Values) → Lists (marked_r k R) v → (h : Here) (at : ℕ) (m : List ℕ) (c : Bool)
      → Sat (λ s m'. s ≡ cond c [] NO ++ shown h (cond c (v h.bytes (at + 1)) []))
      (cond c (marked_r k R h (at + 1) m) (need (eqb (byte at h.bytes) 0) (refused 11 (h.base + at))
      (need (h.ignored.absent || all_zero (part w (at + 1) h.bytes)) (refused 4 (h.base + (at + 1) + zeros (part w (at + 1) h.bytes))) (done NO m))))
  unfolding records
  optional k w R v A h at m true = A.says h (at + 1) m
  optional k w R v A h at m false = sat-need _ 11 _ (λ _. sat-need _ 4 _ (λ _. said {s = NO} {m = m} refl))

  lists-optional : (k : Mark) (w : ℕ) (R : Reader) (v : Values) → Lists (marked_r k R) v → Lists (optional_r k w R) (λ b at. presence w at ∷ cond (eqb (byte at b) 1) (v b (at + 1)) [])
  unfolding optional_r record_of records
  lists-optional k w R v A = record { says = λ h at m. optional k w R v A h at m (eqb (byte at h.bytes) 1) }

  module _ (sw : ℕ → ℕ) (S : ℕ → Reader) (T : ℕ → Values) (st : (g : ℕ) → Lists (S g) (T g)) where
    lists-kind : (k : Kind) → Lists (marked_r (kind_mark k) (kind_r I S k)) (kind_v T k)
    unfolding kind_r kind_v kind_mark records record_of marked_r
    lists-kind (plain w t) = record { says = λ h at m. (lists-plain w t).says h at m }
    lists-kind (inline u c) = record { says = λ h at m. (lists-inline u c).says h at m }
    lists-kind (indirect u) = record { says = λ h at m. (lists-text u).says h at m }
    lists-kind (static g) = record { says = λ h at m. sat-prefixed (mark_bytes SG) (sat-map (λ s _ p. ap (λ y. mark_bytes SG ++ y) p) ((st g).says h at m)) }
    lists-kind (dynamic g) = record { says = λ h at m. (lists-inner g).says h at m }

    value : (k : Kind) (c : Bool) → Lists (marked_r (cond c SQ (kind_mark k)) (cond c (indirect_r 13 (kind_width sw k) (list_r (kind_width sw k) (marked_r (kind_mark k) (kind_r I S k)))) (kind_r I S k)))
        (λ b at. cond c (list (kind_width sw k) at ∷ items_v (kind_width sw k) (kind_v T k) (count_at b at) b (target b at + 4)) (kind_v T k b at))
    value k true = lists-list (kind_width sw k) _ _ (lists-kind k)
    value k false = record { says = λ h at m. (lists-kind k).says h at m }

    lists-value : (f : Field) → Lists (marked_r (field_mark f) (value_r I sw S f)) (value_v sw T f)
    unfolding field_mark value_r value_v
    lists-value f = record { says = λ h at m. (value f.kind f.sequence).says h at m }

    field : (f : Field) (c : Bool) → Lists (cond c (optional_r (field_mark f) (value_width sw f) (value_r I sw S f)) (marked_r (field_mark f) (value_r I sw S f)))
        (λ b at. cond c (presence (value_width sw f) at ∷ cond (eqb (byte at b) 1) (value_v sw T f b (at + 1)) []) (value_v sw T f b at))
    field f true = lists-optional (field_mark f) (value_width sw f) (value_r I sw S f) (value_v sw T f) (lists-value f)
    field f false = record { says = λ h at m. (lists-value f).says h at m }

    lists-field : (f : Field) → Lists (field_r I sw S f) (field_v sw T f)
    unfolding field_r field_v
    lists-field f = record { says = λ h at m. (field f f.optional).says h at m }

    lists-fields : (fs : List Field) → Lists (fields_r I sw S fs) (fields_v sw T fs)
    unfolding fields_r fields_v none_r then_r records
    lists-fields [] = record { says = λ h at m. said {s = []} {m = m} refl }
    lists-fields (f ∷ fs) = record { says = λ h at m. both h (field_v sw T f h.bytes at) (fields_v sw T fs h.bytes (at + field_width sw f)) ((lists-field f).says h at m) (λ m'. (lists-fields fs).says h (at + field_width sw f) m') }

  lists-static : (d g : ℕ) → Lists (static_r gs I d g) (static_v gs d g)
  unfolding static_r static_v none_r records
  lists-static zero g = record { says = λ h at m. said {s = []} {m = m} refl }
  lists-static (suc d) g = record { says = λ h at m. (lists-fields (width gs d) (static_r gs I d) (static_v gs d) (lists-static d) (fields_of gs g)).says h at m }

  -- THE EXTENSION

  kept : (h : Here) (at : ℕ) (m : List ℕ) (c : Bool)
      → Sat (λ s m'. s ≡ cond c (mark_bytes GB ++ G (part (4 + count_at h.bytes at) (target h.bytes at) h.bytes)) (mark_bytes XU ++ part (4 + count_at h.bytes at) (target h.bytes at) h.bytes))
      (cond c (marked_r GB (inner_r I 0 (count_at h.bytes at)) h (target h.bytes at) m) (marked_r XU (text_r false (count_at h.bytes at)) h (target h.bytes at) m))
  unfolding marked_r inner_r text_r
  kept h at m true = sat-prefixed (mark_bytes GB) (sat-next (sat-map (λ s _ p. said {s = []} {m = m} (ap (λ y. mark_bytes GB ++ y) (append-nil s ∙ p))) (inner 0 _ _)))
  kept h at m false = sat-prefixed (mark_bytes XU) (sat-need _ 9 _ (λ _. said {m = m} refl))

  lists-extending : Lists (indirect_r 26 1 (extending_r gs I)) (λ b at. extending at ∷ [])
  unfolding extending_r record_of
  lists-extending = record {
    says = λ h at m. sat-leads 26 1 (extending_r gs I) h at m (λ m'. sat-need _ 1 _ (λ _. sat-map (λ s _ p. p ∙ one h (extending at)) (kept h at m' (known gs (le (part 8 (target h.bytes at + 4) h.bytes))))));
  }

  groups : (n : ℕ) (h : Here) (p : ℕ) (m : List ℕ) (c : Bool) → eqb n 0 ≡ c
      → Sat (λ s m'. s ≡ cond c [] (mark_bytes XT ++ part 4 p h.bytes) ++ shown h (items_v 4 (λ b q. extending q ∷ []) n h.bytes (p + 4)))
      (cond c (done [] m) (marked_r XT (list_r 4 (indirect_r 26 1 (extending_r gs I)) n) h p m))
  unfolding items_v marked_r list_r records
  groups n h p m true e = said {s = []} {m = m} (sym (ap (λ (k : ℕ). shown h (items_v 4 (λ b q. extending q ∷ []) k h.bytes (p + 4))) (eqb-true n 0 e)))
  groups n h p m false e = sat-prefixed (mark_bytes XT) (sat-prefixed _ (sat-map (λ s _ q. ap (λ y. mark_bytes XT ++ (part 4 p h.bytes ++ y)) q ∙ sym (append_assoc (mark_bytes XT) _ _))
      ((lists-items 4 (indirect_r 26 1 (extending_r gs I)) (λ b q. extending q ∷ []) lists-extending n).says h (p + 4) m)))

  extended : (h : Here) (at : ℕ) (m : List ℕ) (c : Bool) → Sat (λ s m'. s ≡ shown h (cond c [] (groups_v h.bytes at))) (cond c (done [] m) (indirect_r 13 4 (groups_r gs I) h at m))
  unfolding records record_of groups_r
  extended h at m true = said {s = []} {m = m} refl
  extended h at m false = sat-leads 13 4 (groups_r gs I) h at m (λ m'. groups (count_at h.bytes at) h (target h.bytes at) m' _ refl)

  lists-behind : (R : Reader) (v : Values) → Lists R v → Lists (behind_r R (extension_r gs I)) (λ b at. v b (at + 4) ++ extension_v b at)
  unfolding behind_r extension_r extension_v
  lists-behind R v A = record { says = λ h at m. sat-need _ 3 _ (λ _. both h (v h.bytes (at + 4)) (extension_v h.bytes at) (A.says h (at + 4) m) (λ m'. extended h at m' (eqb (word at h.bytes) 0))) }

-- A GROUP, AND THE MESSAGE

module _ (x : Ignored) (gs : List Group) where
  lists-group : (l n base : ℕ) (b : List ℕ) → Sat (λ s m. s ≡ group_records gs l b) (group_r x gs l n base b)
  unfolding group_r head_r body_r group_records
  lists-group zero n base b = sat-need _ 1 _ (λ _. sat-need _ 2 _ (λ _. sat-need _ 25 _ (λ _. unsaid)))
  lists-group (suc l) n base b =
      let g : ℕ = find gs (type_id b) in
      sat-need _ 1 _ (λ _. sat-need _ 2 _ (λ _. sat-need _ 25 _ (λ _. sat-need _ 14 _ (λ _.
      sat-padded _ (sat-prefixed (part 8 4 b) (sat-next (sat-map (λ s m p. said {s = GE} {m = m} (ap (λ y. part 8 4 b ++ (y ++ GE)) p))
      ((lists-behind gs (group_records gs l) (group_r x gs l) (lists-group l) _ _ (lists-static gs (group_records gs l) (group_r x gs l) (lists-group l) 5 g)).says (here x b base (16 + width gs 5 g)) 12 (replicate (length b) 0)))))))))

  lists-walk : (b : List ℕ) → Sat (λ s m. s ≡ sheet_of gs b) (walk x gs b)
  unfolding walk sheet_of
  lists-walk b = sat-need _ 22 _ (λ _. sat-prefixed (mark_bytes GB) (sat-map (λ s m p. ap (λ y. mark_bytes GB ++ y) p) (lists-group 8 0 0 b)))

  -- The records of a group that is read are those of its values.
  pub group-lists : (l n base : ℕ) (b s m : List ℕ) → group_r x gs l n base b ≡ done s m → s ≡ group_records gs l b
  group-lists l n base b s m e = sat-is (rw e at (lists-group l n base b))

  -- The sheet of an accepted message lists its values, and nothing else.
  pub walk-lists : (b s m : List ℕ) → walk x gs b ≡ done s m → s ≡ sheet_of gs b
  walk-lists b s m e = sat-is (rw e at (lists-walk b))
