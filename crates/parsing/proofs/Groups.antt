-- Dynamic groups, the extension and the whole sheet: each way through them.
use Rattle.std.proofs.Common.{Ok, Err}
use mathlib.Core.Path.{◌≡◌, refl, sym, ap, ◌∙◌}
use mathlib.Core.Bool.{Bool, true, false}
use mathlib.Core.List.{List, [], ◌++◌, append-nil}
use Prim.Native.Nat.{ℕ, zero, suc, ◌+◌, ◌-◌, ◌*◌, ◌<◌, ◌≤◌}
use native.Mathlib.Omega.{arith}
use native.Mathlib.Nat.{add_assoc}
use lib.ListN.{length, take, drop, length-append, length-drop}
use lib.Dec.{leb}
use borrow.Author.Tests.{le-leb, lt-leb, lt-ltb, le-ltb, eq-eqb, ne_eqb}
use Rattle.wire.specs.Bytes.{part, le, bytes_of, same}
use Rattle.schema.specs.Faults.{fault_at, judged, need}
use Rattle.schema.specs.declared.Fault.{Fault}
use Rattle.schema.specs.Schema.{Group, width, find, known, allows}
use Rattle.message.specs.Sheet.{GB, XT, XU, GE, mark_bytes}
use Rattle.sheet.specs.Written.{Writing, stopped, wrote, Writer, InnerW, joined, next_w, placed, grab, due, then_w, marked_w, indirect_w, inner_b, items_w, list_b, static_w, extending_b, extension_w, swapped, back_w, behind_w, framed, closed, body_w, head_w, group_w, ended, sheet_w}
use Rattle.sheet.proofs.Match.{SatW, said_w, unsaid_w, satw-is, satw-need, satw-all}
use Rattle.sheet.proofs.Layers.{satw-grab, satw-due}
use Rattle.sheet.proofs.Writers.{placed-wrote}
use Rattle.sheet.proofs.Groups.{framed-length, satw-closed}
use Rattle.sheet.proofs.Widths.{Wide, wide_is, wides-indirect, wides-static, wides-extension}
use Rattle.parsing.specs.Count.{Count, count, capped, after}
use Rattle.parsing.specs.Parse.{passed, refused, parsed_of, Counts, Finds, record_fault, end_w, Ready}
use Rattle.parsing.specs.declared.Step.{Step}
use Rattle.parsing.proofs.Answers.{refuses, stays, went, halted, fails, capped-more, count-as}
use Rattle.parsing.proofs.Records.{halts, record-inside, record-good, record-bad, at_mark, behind-mark}
use Rattle.parsing.proofs.Values.{marked-indirect}
use Rattle.parsing.proofs.Fields.{list-bad, list-empty, list-good}

-- THE EXTENSION

module _ (s : List ℕ) (pos d : ℕ) (R : Ready s pos d) (gs : List Group) (I : InnerW) where
  pub extension-none : same (part 2 pos s) (mark_bytes XT) ≡ false → Finds s d (extension_w gs I) pos (passed pos d)
  unfolding extension_w
  extension-none m at fr = stays s d _ pos (bytes_of 4 0) (rw m) R.inside R.low

  module _ (m : same (part 2 pos s) (mark_bytes XT) ≡ true) where
    extension-is : (c : Count) → Counts s d (marked_w XT (indirect_w (list_b 1 4 (indirect_w (extending_b gs I))))) pos c → Counts s d (extension_w gs I) pos c
    unfolding extension_w marked_w
    extension-is c g at fr = rw m (g at fr)

    pub extension-bad : (f : Fault) → Err f ≡ judged (record_fault (mark_bytes XT) 4 (drop pos s)) pos → Finds s d (extension_w gs I) pos (Err f)
    extension-bad f e = extension-is _ (list-bad s pos d R XT 1 4 (indirect_w (extending_b gs I)) f e)

    module _ (z : record_fault (mark_bytes XT) 4 (drop pos s) ≡ 0) (n : ℕ) (ic : n ≡ le (part 4 (pos + 2) s)) where
      pub extension-empty : n ≡ 0 → Finds s d (extension_w gs I) pos (refused 44 pos)
      extension-empty o = extension-is _ (list-empty s pos d R XT 1 4 (indirect_w (extending_b gs I)) z n ic (omega arith))

      pub extension-some : (n ≡ 0 → ⊥) → (e : ℕ) → e ≡ capped (d + (4 + n * 4)) → (c : Count) → Counts s e (items_w 4 (indirect_w (extending_b gs I)) n) (pos + 6) c → Counts s d (extension_w gs I) pos c
      extension-some o e q c g = extension-is c (list-good s pos d R XT 1 4 (indirect_w (extending_b gs I)) z n ic (omega arith) (wides-indirect (extending_b gs I)) e q c g)

-- one of its groups
pub extending-group : (s : List ℕ) (pos d : ℕ) (gs : List Group) (I : InnerW) → same (part 2 pos s) (mark_bytes XU) ≡ false → (c : Count)
    → Counts s d (marked_w GB (indirect_w (inner_b I 0))) pos c → Counts s d (indirect_w (extending_b gs I)) pos c
unfolding indirect_w extending_b inner_b
extending-group s pos d gs I m c g at fr = count-as _ _ (kept at fr ∙ sym (marked-indirect GB (inner_b I 0) at fr (drop pos s))) (g at fr)
  where
    kept : (at fr : ℕ) → indirect_w (extending_b gs I) at fr (drop pos s) ≡ placed (fr - at) (due (mark_bytes GB) (drop pos s) (λ r. inner_b I 0 fr r))
    kept at fr = rw m

-- THE BODY

-- what follows the mark that closes a group, in two ways of counting it
due-counts : (N d e o : ℕ) (k r F D : List ℕ) (f g : List ℕ → Writing) → ((r' : List ℕ) → after e (count N (joined F D (f r'))) ≡ after d (count N (placed o (g r'))))
    → after e (count N (joined F D (due k r f))) ≡ after d (count N (placed o (due k r g)))
unfolding due grab need after count joined placed
due-counts N d e o k r F D f g h = go (leb 2 (length r)) (same (take 2 r) k)
  where
    go : (a b : Bool) → after e (count N (joined F D (need a (stopped 40 (length r)) (need b (stopped 41 (length r)) (f (drop 2 r))))))
        ≡ after d (count N (placed o (need a (stopped 40 (length r)) (need b (stopped 41 (length r)) (g (drop 2 r))))))
    go false b = refl
    go true false = refl
    go true true = h (drop 2 r)

-- the group's bytes: the head of 12, the extension's offset, the fields, and the data of both
module _ (N d e t o w : ℕ) (id F D : List ℕ) (l8 : length id ≡ 8) (lw : length F ≡ w) (ie : e ≡ capped (d + (16 + w))) (it : t ≡ capped (e + length D)) where
  group-length : (F' D' : List ℕ) → length F' ≡ 4
      → capped (t + length (D' ++ [])) ≡ capped (d + length (framed id (F' ++ F) (D ++ D') ++ []))
  group-length F' D' l4 =
      let q : length (framed id (F' ++ F) (D ++ D')) ≡ 16 + w + length D + length D' = framed-length id (F' ++ F) (D ++ D') l8 ∙ rw (length-append F' F, length-append D D') (omega (arith, lw, l4)) in
      let sum : capped (e + length D + length D') ≡ capped (d + (16 + w + length D + length D')) =
      ap capped (add_assoc e (length D) (length D')) ∙ ap (λ (n : ℕ). capped (n + (length D + length D'))) ie ∙ capped-more (d + (16 + w)) (length D + length D') ∙ ap capped (omega arith) in
      rw (append-nil, append-nil, q, it, capped-more) sum

  closing : (y : Writing) (a f : ℕ) → Wide 4 y
      → after t (count N (next_w y (λ D' r. end_w a (f + length D') r))) ≡ after d (count N (placed o (closed id (swapped F D y))))
  unfolding next_w swapped closed end_w after count placed joined
  closing y a f unsaid_w = refl
  closing y a f (said_w {F = F'} {D = D'} {r = r} l4) = due-counts N d t o GE r F' D' (λ r'. wrote [] [] r') (λ r'. wrote (framed id (F' ++ F) (D ++ D')) [] r')
      (λ r'. rw (group-length F' D' l4))

module _ (s : List ℕ) (pos d : ℕ) (gs : List Group) (I : InnerW) (g : ℕ) (id : List ℕ) (l8 : length id ≡ 8) (w : ℕ) (iw : w ≡ width gs 5 g) (e : ℕ) (ie : e ≡ capped (d + (16 + w))) where
  abbrev area : ℕ
  area = 16 + width gs 5 g

  abbrev fields : Writing
  fields = static_w gs I 5 g 16 area (drop pos s)

  body_is : (at fr : ℕ) → indirect_w (λ p r. body_w gs I g id r) at fr (drop pos s) ≡ placed (fr - at) (closed id (back_w fields (λ D r. extension_w gs I 12 (area + length D) r)))
  unfolding indirect_w body_w behind_w
  body_is at fr = refl

  abbrev Body : Writer
  Body = indirect_w (λ p r. body_w gs I g id r)

  pub body-stopped : (v : Fault) → Finds s e (static_w gs I 5 g) pos (Err v) → Finds s d Body pos (Err v)
  unfolding back_w closed placed
  body-stopped v f at fr =
      let h = halted s e fields v (f 16 area) in
      fails s d _ v h.0 (body_is at fr ∙ ap (λ (x : Writing). placed (fr - at) (closed id (back_w x (λ D r. extension_w gs I 12 (area + length D) r)))) h.1) h.2

  pub body-passed : (v : Step) → Finds s e (static_w gs I 5 g) pos (Ok v) → (c : Count) → Counts s v.length (then_w 4 (extension_w gs I) end_w) v.next c → Counts s d Body pos c
  unfolding back_w then_w
  body-passed v f c h at fr =
      let x = went s e fields v (f 16 area) in
      let D = x.values in
      let lw = wide_is (wides-static gs I 5 g 16 area (drop pos s)) x.is ∙ sym iw in
      count-as _ _ (body_is at fr ∙ ap (λ (x : Writing). placed (fr - at) (closed id (back_w x (λ D r. extension_w gs I 12 (area + length D) r)))) x.is) (h 12 (area + length D)
      ∙ closing (length s) d e v.length (fr - at) w id x.fixed D l8 lw ie x.sum (extension_w gs I 12 (area + length D) (drop v.next s)) (12 + 4) (area + length D) (wides-extension gs I 12 (area + length D) (drop v.next s)))

-- THE HEAD

module _ (s : List ℕ) (pos d : ℕ) (R : Ready s pos d) (gs : List Group) (a l : ℕ) where
  abbrev Marked : Writer
  Marked = marked_w GB (indirect_w (inner_b (group_w gs l) a))

  -- the body at a level: none where no level is left
  abbrev body_at : ℕ → ℕ → List ℕ → List ℕ → Writing
  body_at zero g id r = stopped 24 (10 + length r)
  body_at (suc l) g id r = body_w gs (group_w gs l) g id r

  abbrev head : List ℕ → List ℕ → List ℕ → Writing
  head r id r' = need (known gs (le id)) (stopped 2 (2 + length r)) (need (allows gs a (find gs (le id))) (stopped 25 (2 + length r)) (body_at l (find gs (le id)) id r'))

  opened-is : (at fr : ℕ) → Marked at fr (drop pos s) ≡ placed (fr - at) (due (mark_bytes GB) (drop pos s) (λ r. grab (2 + length r) 8 r (head r)))
  unfolding group_w head_w inner_b
  opened-is at fr = marked-indirect GB (inner_b (group_w gs l) a) at fr (drop pos s) ∙ go l
    where
      go : (l : ℕ) → placed (fr - at) (due (mark_bytes GB) (drop pos s) (λ r. inner_b (group_w gs l) a fr r)) ≡ placed (fr - at) (due (mark_bytes GB) (drop pos s) (λ r. grab (2 + length r) 8 r
          (λ id r'. need (known gs (le id)) (stopped 2 (2 + length r)) (need (allows gs a (find gs (le id))) (stopped 25 (2 + length r)) (body_at l (find gs (le id)) id r')))))
      go zero = refl
      go (suc l) = refl

  pub group-bad : (f : Fault) → Err f ≡ judged (record_fault (mark_bytes GB) 8 (drop pos s)) pos → Finds s d Marked pos (Err f)
  unfolding placed
  group-bad = halts s pos d Marked _ _ (λ z at fr. opened-is at fr ∙ ap (placed (fr - at)) (record-bad s pos R.inside _ 8 head z)) (at_mark s pos R.inside)

  module _ (z : record_fault (mark_bytes GB) 8 (drop pos s) ≡ 0) (g : ℕ) (ig : g ≡ find gs (le (part 8 (pos + 2) s))) where
    abbrev id : List ℕ
    id = part 8 (pos + 2) s

    opened-at : (at fr : ℕ) → Marked at fr (drop pos s) ≡ placed (fr - at) (need (known gs (le id)) (stopped 2 (2 + length (drop (pos + 2) s))) (need (allows gs a g) (stopped 25 (2 + length (drop (pos + 2) s))) (body_at l g id (drop (pos + 10) s))))
    opened-at at fr = opened-is at fr ∙ ap (placed (fr - at)) (record-good s pos R.inside _ 8 head z ∙ rw (← ig))

    whole : pos + 10 ≤ length s
    whole = record-inside s pos R.inside _ 8 z

    pub group-unknown : length gs ≤ g → Finds s d Marked pos (refused 2 pos)
    unfolding placed need known
    group-unknown h at fr =
        let u = whole in
        refuses s d _ 2 pos _ (opened-at at fr ∙ rw (← ig, le-ltb g (length gs) h)) (behind-mark s pos (omega (arith, u)))

    module _ (h : g < length gs) where
      its-known : known gs (le id) ≡ true
      unfolding known
      its-known = rw (← ig) (lt-ltb g (length gs) h)

      pub group-other : allows gs a g ≡ false → Finds s d Marked pos (refused 25 pos)
      unfolding placed need
      group-other e at fr =
          let u = whole in
          refuses s d _ 25 pos _ (opened-at at fr ∙ rw (its-known, e)) (behind-mark s pos (omega (arith, u)))

      module _ (e : allows gs a g ≡ true) where
        opened-body : (at fr : ℕ) → Marked at fr (drop pos s) ≡ placed (fr - at) (body_at l g id (drop (pos + 10) s))
        unfolding need
        opened-body at fr = opened-at at fr ∙ rw (its-known, e)

        pub group-deep : l ≡ 0 → Finds s d Marked pos (refused 24 pos)
        unfolding placed
        group-deep o at fr =
            let u = whole in
            refuses s d _ 24 pos (10 + length (drop (pos + 10) s)) (opened-body at fr ∙ ap (λ (j : ℕ). placed (fr - at) (body_at j g id (drop (pos + 10) s))) o) (omega (arith, u, length-drop (pos + 10) s))

        pub group-body : (l ≡ 0 → ⊥) → (c : Count) → Counts s d (indirect_w (λ p r. body_w gs (group_w gs (l - 1)) g id r)) (pos + 10) c → Counts s d Marked pos c
        unfolding indirect_w
        group-body o c f at fr = count-as _ _ (opened-body at fr ∙ go l o) (f at fr)
          where
            go : (l : ℕ) → (l ≡ 0 → ⊥) → placed (fr - at) (body_at l g id (drop (pos + 10) s)) ≡ indirect_w (λ p r. body_w gs (group_w gs (l - 1)) g id r) at fr (drop (pos + 10) s)
            go zero o = absurd (o refl)
            go (suc l) o = let q : suc l - 1 ≡ l = omega arith in rw q

-- THE SHEET

-- a group hangs nothing behind itself
group-alone : (gs : List Group) (l a : ℕ) (s : List ℕ) → SatW (λ X Y r. Y ≡ []) (group_w gs l a s)
unfolding group_w head_w body_w
group-alone gs zero a s = satw-grab _ 8 s _ (λ i r e l. satw-need _ 2 _ (λ _. satw-need _ 25 _ (λ _. unsaid_w)))
group-alone gs (suc l) a s = satw-grab _ 8 s _ (λ i r e l. satw-need _ 2 _ (λ _. satw-need _ 25 _ (λ _. satw-closed i (satw-all (λ F D r r' q. refl) _))))

placed-stopped : (o : ℕ) (x : Writing) (k p : ℕ) → placed o x ≡ stopped k p → x ≡ stopped k p
unfolding placed
placed-stopped o (stopped j q) k p e = e
placed-stopped o (wrote X Y r) k p e = absurd (let z : ◌≡◌ {A = ℕ} 0 1 = cc in omega arith)

module _ (gs : List Group) (s : List ℕ) where
  pub sheet-long : 1048576 < length s → Err (fault_at 42 0) ≡ parsed_of (sheet_w gs s)
  unfolding sheet_w need parsed_of
  sheet-long h = rw (lt-leb (length s) 1048576 h)

  abbrev message : Writing
  message = due (mark_bytes GB) s (λ r. group_w gs 8 0 r)

  sheet-is : length s ≤ 1048576 → sheet_w gs s ≡ ended (length s) message
  unfolding sheet_w need
  sheet-is h = rw (le-leb (length s) 1048576 h)

  module _ (h : length s ≤ 1048576) where
    message-is : marked_w GB (indirect_w (inner_b (group_w gs 8) 0)) 0 0 (drop 0 s) ≡ placed 0 message
    unfolding inner_b
    message-is = marked-indirect GB (inner_b (group_w gs 8) 0) 0 0 s

    pub sheet-stopped : (v : Fault) → Finds s 0 (marked_w GB (indirect_w (inner_b (group_w gs 8) 0))) 0 (Err v) → Err v ≡ parsed_of (sheet_w gs s)
    unfolding ended parsed_of
    sheet-stopped v f =
        let x = halted s 0 _ v (f 0 0) in
        let e = placed-stopped 0 message v.number x.0 (sym message-is ∙ x.1) in
        rw (sheet-is h, e, ← x.2)

    message-alone : SatW (λ X Y r. Y ≡ []) message
    message-alone = satw-due (mark_bytes GB) s _ (λ r e. group-alone gs 8 0 r)

    module _ (v : Step) (f : Finds s 0 (marked_w GB (indirect_w (inner_b (group_w gs 8) 0))) 0 (Ok v)) where
      its : (X : List ℕ) × (message ≡ wrote X [] (drop v.next s)) × (v.length ≡ capped (length X))
      its =
          let x = went s 0 _ v (f 0 0) in
          let p = placed-wrote 0 message x.fixed x.values (drop v.next s) (sym message-is ∙ x.is) in
          let n : p.1 ≡ [] = satw-is (rw p.2 at message-alone) in
          (p.0, p.2 ∙ ap (λ (Y : List ℕ). wrote p.0 Y (drop v.next s)) n, x.sum ∙ ap capped (omega (arith, ap length p.4 ∙ length-append p.0 p.1, ap length n)))

      pub sheet-more : v.next < length s → Err (fault_at 43 v.next) ≡ parsed_of (sheet_w gs s)
      unfolding ended parsed_of need
      sheet-more l =
          let m = length-drop v.next s in
          let p : length s - length (drop v.next s) ≡ v.next = omega arith in
          rw (sheet-is h, its.1, ne_eqb (length (drop v.next s)) 0 (omega arith), p)

      pub sheet-whole : length s ≤ v.next → Ok v.length ≡ parsed_of (sheet_w gs s)
      unfolding ended parsed_of need
      sheet-whole l =
          let m = length-drop v.next s in
          ap Ok its.2 ∙ rw (sheet-is h, its.1, eq-eqb (length (drop v.next s)) 0 (omega arith))
