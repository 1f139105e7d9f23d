-- How many bytes in place each writer gives, where it gives something: as many as the schema says.
use mathlib.Core.Path.{◌≡◌, refl, ◌∙◌}
use mathlib.Core.Bool.{Bool, true, false, cond}
use mathlib.Core.List.{List, [], ◌∷◌}
use Prim.Native.Nat.{ℕ, zero, suc, ◌+◌, ◌-◌, ◌*◌}
use native.Mathlib.Omega.{arith}
use native.Mathlib.Nat.{add-mul}
use lib.ListN.{length, take, length-append, length-replicate}
use borrow.Author.Tests.{leb-true}
use Rattle.wire.specs.Bytes.{le, same}
use Rattle.wire.proofs.Laws.{length-bytes}
use Rattle.schema.specs.Schema.{Test, Kind, plain, inline, indirect, static, dynamic, Field, Group, kind_width, value_width, field_width, fields_width, fields_of, width}
use Rattle.message.specs.Sheet.{Mark, XT, mark_bytes, NO, field_mark}
use Rattle.sheet.specs.Written.{Writing, wrote, Writer, InnerW, Body, headed, next_w, none_w, then_w, marked_w, optional_w, plain_w, inline_w, indirect_w, items_w, kind_w, value_w, field_w, fields_w, static_w, extension_w}
use Rattle.sheet.proofs.Match.{SatW, said_w, satw-is, satw-need, satw-cond, satw-headed, satw-next, satw-placed, satw-all, satw-map}
use Rattle.sheet.proofs.Layers.{satw-grab, satw-due, satw-counted}

-- WRITINGS

abbrev pub Wide : ℕ → Writing → Type 0
Wide w x = SatW (λ F D r. length F ≡ w) x

pub wide_is : {w : ℕ} {x : Writing} {F D r : List ℕ} → Wide w x → x ≡ wrote F D r → length F ≡ w
wide_is u e = satw-is (rw e at u)

pub wide-headed : (n w : ℕ) (c : List ℕ) (x : Writing) → length c ≡ n → Wide w x → Wide (n + w) (headed c x)
wide-headed n w c x l u = satw-headed c (satw-map (λ F D r e. omega (arith, length-append c F, l, e)) u)

wide-next : (w v : ℕ) (x : Writing) (k : List ℕ → List ℕ → Writing) → Wide w x → ((D r : List ℕ) → Wide v (k D r)) → Wide (w + v) (next_w x k)
wide-next w v x k u f = satw-next (satw-map (λ F D r e. satw-map (λ F' D' r' e'. omega (arith, length-append F F', e, e')) (f D r)) u)

-- VALUES

abbrev pub Wides : ℕ → Writer → Type 0
Wides w W = (at fr : ℕ) (s : List ℕ) → Wide w (W at fr s)

pub wides-indirect : (B : Body) → Wides 4 (indirect_w B)
unfolding indirect_w
wides-indirect B at fr s = satw-placed (fr - at) (satw-all (λ X Y r. length-bytes 4 (fr - at)) (B fr s))

pub wides-marked : (k : Mark) (w : ℕ) (W : Writer) → Wides w W → Wides w (marked_w k W)
unfolding marked_w
wides-marked k w W u at fr s = satw-due (mark_bytes k) s _ (λ r e. u at fr r)

wides-optional : (k : Mark) (w : ℕ) (W : Writer) → Wides w W → Wides (w + 1) (optional_w k w W)
unfolding optional_w
wides-optional k w W u at fr s = satw-cond (same (take 2 s) NO)
    (λ _. said_w (omega (arith, length-replicate {A = ℕ} w 0)))
    (λ _. satw-headed (1 ∷ []) (satw-map (λ F D r e. omega (arith, e)) (wides-marked k w W u (at + 1) fr s)))

pub wides-plain : (w : ℕ) (t : Test) → Wides w (plain_w w t)
unfolding plain_w
wides-plain w t at fr s = satw-grab _ w s _ (λ v r e l. satw-need _ _ _ (λ _. said_w l))

wides-inline : (u : Bool) (c : ℕ) → Wides (c + 1) (inline_w u c)
unfolding inline_w
wides-inline u c at fr s = satw-counted s _ (λ x v r e lx lv. satw-need _ 7 _ (λ y. satw-need _ 9 _ (λ _.
    let l = leb-true (le x) c y in said_w (simp (length-append, length-replicate) (omega (arith, l, lv))))))

pub wides-items : (w : ℕ) (W : Writer) → Wides w W → (n : ℕ) → Wides (n * w) (items_w w W n)
unfolding items_w none_w
wides-items w W u zero at fr s = said_w {F = []} {D = []} {r = s} (omega arith)
wides-items w W u (suc n) at fr s =
    let e : w + n * w ≡ suc n * w = omega (arith, add-mul 1 n w) in
    satw-map (λ F D r l. l ∙ e) (wide-next w (n * w) (W at fr s) _ (u at fr s) (λ D r. wides-items w W u n (at + w) (fr + length D) r))

-- FIELDS

wides-cond : (c : Bool) {w v : ℕ} {U W : Writer} → Wides w U → Wides v W → Wides (cond c w v) (cond c U W)
wides-cond true A B = A
wides-cond false A B = B

module _ (I : InnerW) (sw : ℕ → ℕ) (S : ℕ → Writer) (A : (g : ℕ) → Wides (sw g) (S g)) where
  pub wides-kind : (k : Kind) → Wides (kind_width sw k) (kind_w I S k)
  unfolding kind_width kind_w
  wides-kind (plain w t) = wides-plain w t
  wides-kind (inline u c) = wides-inline u c
  wides-kind (indirect u) = wides-indirect _
  wides-kind (static g) = A g
  wides-kind (dynamic g) = wides-indirect _

  wides-value : (f : Field) → Wides (value_width sw f) (value_w I sw S f)
  unfolding value_width value_w
  wides-value f = wides-cond f.sequence (wides-indirect _) (wides-kind f.kind)

  pub wides-field : (f : Field) → Wides (field_width sw f) (field_w I sw S f)
  unfolding field_width field_w value_w
  wides-field f = wides-cond f.optional (wides-optional (field_mark f) _ _ (wides-value f)) (wides-marked (field_mark f) _ _ (wides-value f))

  wides-fields : (fs : List Field) → Wides (fields_width sw fs) (fields_w I sw S fs)
  unfolding fields_width fields_w then_w none_w
  wides-fields [] at fr s = said_w refl
  wides-fields (f ∷ fs) at fr s = wide-next _ _ _ _ (wides-field f at fr s) (λ D r. wides-fields fs _ _ r)

pub wides-static : (gs : List Group) (I : InnerW) (d g : ℕ) → Wides (width gs d g) (static_w gs I d g)
unfolding width static_w none_w
wides-static gs I zero g at fr s = said_w refl
wides-static gs I (suc d) g at fr s = wides-fields I (width gs d) (static_w gs I d) (wides-static gs I d) (fields_of gs g) at fr s

pub wides-extension : (gs : List Group) (I : InnerW) → Wides 4 (extension_w gs I)
unfolding extension_w
wides-extension gs I at fr s = satw-cond (same (take 2 s) (mark_bytes XT))
    (λ _. satw-due (mark_bytes XT) s _ (λ r e. wides-indirect _ at fr r))
    (λ _. said_w (length-bytes 4 0))
