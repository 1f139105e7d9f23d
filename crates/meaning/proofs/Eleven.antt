-- "A sheet is never longer than eleven times its message."
-- A reader has a budget: what it adds to the sheet beyond eleven times the bytes that it takes in the data area.
use mathlib.Core.Path.{◌≡◌, refl, sym, ◌∙◌}
use mathlib.Core.Bool.{Bool, true, false, cond, and-eq-true_iff}
use mathlib.Core.List.{List, [], ◌∷◌, ◌++◌}
use Prim.Native.Nat.{ℕ, zero, suc, ◌+◌, ◌*◌, ◌≤◌}
use native.Mathlib.Omega.{arith}
use native.Mathlib.Nat.{mul-le-mul_left, mul-le-mul_right}
use lib.ListN.{length, drop, replicate, length-append, length-take, length-replicate}
use lib.Dec.{leb, eqb}
use borrow.Author.Tests.{leb-true}
use Rattle.wire.specs.Bytes.{part, le, bytes_of}
use Rattle.wire.proofs.Laws.{length-bytes}
use Rattle.schema.specs.Schema.{Test, Kind, plain, inline, indirect, static, dynamic, Field, Group, kind_width, value_width, field_width, fields_width, fields_of, width, shallow_kind, shallow_fields, shallow, find, known}
use Rattle.message.specs.Sheet.{Mark, GB, XT, XU, mark_bytes, NO, GE}
use Rattle.settings.specs.declared.Ignored.{Ignored}
use Rattle.message.specs.Walk.{Here, here, done, Reader, Inner, word, byte, none_r, then_r, marked_r, optional_r, plain_r, inline_r, indirect_r, text_r, inner_r, items_r, list_r, kind_r, value_r, field_r, fields_r, static_r, extending_r, groups_r, extension_r, behind_r, body_r, head_r, group_r, walk}
use Rattle.meaning.specs.Proper.{SizedKind, SizedFields, Sized}
use Rattle.meaning.proofs.Occupying.{taken, taken-le, taken_more}
use Rattle.message.proofs.Count.{length-mark}
use Rattle.meaning.proofs.Sat.{Sat, unsaid, said, sat-is, sat-need, sat-cond, sat-prefixed, sat-next, sat-map, sat-padded, sat-indirect}

-- READERS

pub record Within (k a : ℕ) (m s m' : List ℕ) : Type 0 where
  pub same : length m' ≡ length m
  pub less : length s + 11 * taken a m ≤ k + 11 * taken a m'

pub record Budget (k : ℕ) (R : Reader) : Type 0 where
  pub keeps : (h : Here) (at : ℕ) (m : List ℕ) → length m ≡ length h.bytes → Sat (λ s m'. Within k h.area m s m') (R h at m)

-- what stands behind an offset: eleven times its own bytes
pub record BodyBudget (w : ℕ) (inside : ℕ → Reader) : Type 0 where
  pub keeps : (h : Here) (p : ℕ) (m : List ℕ) → length m ≡ length h.bytes
      → Sat (λ s m'. Within (11 * (4 + word p h.bytes * w)) h.area m s m') (inside (word p h.bytes) h p m)

-- a dynamic group, with the mark before it
pub record GroupBudget (I : Inner) : Type 0 where
  pub keeps : (n base : ℕ) (b : List ℕ) → Sat (λ s m. length s + 2 ≤ 11 * length b) (I n base b)

part-le : (n p : ℕ) (b : List ℕ) → length (part n p b) ≤ n
part-le n p b = rw (length-take n (drop p b)) (omega arith)

budget-more : (k l : ℕ) (R : Reader) → k ≤ l → Budget k R → Budget l R
budget-more k l R h A = record { keeps = λ hh at m e. sat-map (λ s m' t. record { same = t.same; less = omega (arith, t.less) }) (A.keeps hh at m e) }

budget-none : Budget 0 none_r
unfolding none_r
budget-none = record { keeps = λ h at m e. said {s = []} {m = m} (record { same = refl; less = omega arith }) }

module _ (k l : ℕ) (R S : Reader) (A : Budget k R) (B : Budget l S) where
  two : (a : ℕ) (m s m' t m'' : List ℕ) → Within k a m s m' → Within l a m' t m'' → Within (k + l) a m (s ++ t) m''
  two a m s m' t m'' p q = record { same = q.same ∙ p.same; less = omega (arith, p.less, q.less, length-append s t) }

  budget-then : (w : ℕ) → Budget (k + l) (then_r w R S)
  unfolding then_r
  budget-then w = record { keeps = λ h at m e. sat-next (sat-map (λ s m' p. sat-map (λ t m'' q. two h.area m s m' t m'' p q) (B.keeps h (at + w) m' (p.same ∙ e))) (A.keeps h at m e)) }

  budget-behind : Budget (k + l) (behind_r R S)
  unfolding behind_r
  budget-behind = record { keeps = λ h at m e. sat-need _ 3 _ (λ _. sat-next (sat-map (λ s m' p. sat-map (λ t m'' q. two h.area m s m' t m'' p q) (B.keeps h at m' (p.same ∙ e))) (A.keeps h (at + 4) m e))) }

longer : (x : List ℕ) (n k a : ℕ) (m s m' : List ℕ) → length x ≡ n → Within k a m s m' → Within (n + k) a m (x ++ s) m'
longer x n k a m s m' e t = record { same = t.same; less = omega (arith, t.less, length-append x s) }

budget-marked : (x : Mark) (k : ℕ) (R : Reader) → Budget k R → Budget (2 + k) (marked_r x R)
unfolding marked_r
budget-marked x k R A = record { keeps = λ h at m e. sat-prefixed (mark_bytes x) (sat-map (λ s m' t. longer (mark_bytes x) 2 k h.area m s m' (length-mark x) t) (A.keeps h at m e)) }

budget-optional : (x : Mark) (w k : ℕ) (R : Reader) → Budget k R → Budget (2 + k) (optional_r x w R)
unfolding optional_r
budget-optional x w k R A = record {
  keeps = λ h at m e. sat-cond (eqb (byte at h.bytes) 1)
      (λ _. (budget-marked x k R A).keeps h (at + 1) m e)
      (λ _. sat-need _ 11 _ (λ _. sat-need _ 4 _ (λ _. said {s = NO} {m = m} (record { same = refl; less = omega arith }))));
}

budget-plain : (w : ℕ) (t : Test) → Budget w (plain_r w t)
unfolding plain_r
budget-plain w t = record { keeps = λ h at m e. sat-need _ _ _ (λ _. said {s = part w at h.bytes} {m = m} (record { same = refl; less = omega (arith, part-le w at h.bytes) })) }

budget-inline : (u : Bool) (c : ℕ) → Budget (4 + c) (inline_r u c)
unfolding inline_r
budget-inline u c = record {
  keeps = λ h at m e.
      let n : ℕ = byte at h.bytes in
      sat-need _ 7 _ (λ t. sat-need _ 8 _ (λ _. sat-need _ 9 _ (λ _. said {m = m} (longer (bytes_of 4 n) 4 c h.area m (part n (at + 1) h.bytes) m (length-bytes 4 n)
      (record { same = refl; less = omega (arith, part-le n (at + 1) h.bytes, leb-true n c t) })))));
}

-- VALUES IN THE DATA AREA

budget-indirect : (past w : ℕ) (inside : ℕ → Reader) → BodyBudget w inside → Budget 0 (indirect_r past w inside)
budget-indirect past w inside A = record {
  keeps = λ h at m e. sat-indirect past w inside h at m e (λ p L.
      sat-map (λ s m' t. record {
        same = t.same ∙ L.same ∙ sym e;
        less = omega (arith, t.less, taken_more h.area p _ m L.clear L.behind (omega (arith, L.whole, e)));
      }) (A.keeps h p _ L.same));
}

budget-text : (u : Bool) → BodyBudget 1 (text_r u)
unfolding text_r
budget-text u = record {
  keeps = λ h p m e. sat-need _ 9 _ (λ _. said {s = part (4 + word p h.bytes) p h.bytes} {m = m}
      (record { same = refl; less = omega (arith, part-le (4 + word p h.bytes) p h.bytes) }));
}

budget-inner : (I : Inner) (g : ℕ) → GroupBudget I → BodyBudget 1 (inner_r I g)
unfolding inner_r
budget-inner I g G = record {
  keeps = λ h p m e. sat-next (sat-map (λ s _ t. said {s = []} {m = m} (record {
    same = refl;
    less = omega (arith, t, length-append s [], part-le (4 + word p h.bytes) p h.bytes);
  })) (G.keeps g (h.base + p) (part (4 + word p h.bytes) p h.bytes)));
}

budget-items : (k w : ℕ) (R : Reader) → Budget k R → (n : ℕ) → Budget (n * k) (items_r w R n)
unfolding items_r then_r
budget-items k w R A zero = budget-more 0 (0 * k) none_r (omega arith) budget-none
budget-items k w R A (suc n) = budget-more (k + n * k) (suc n * k) _ (omega arith) (budget-then k (n * k) R (items_r w R n) A (budget-items k w R A n) w)

budget-counted : (k w : ℕ) (R : Reader) (n : ℕ) → Budget k R → Budget (4 + n * k) (list_r w R n)
unfolding list_r
budget-counted k w R n A = record {
  keeps = λ h p m e. sat-prefixed (part 4 p h.bytes) (sat-map (λ s m' t. record {
    same = t.same;
    less = omega (arith, t.less, length-append (part 4 p h.bytes) s, part-le 4 p h.bytes);
  }) ((budget-items k w R A n).keeps h (p + 4) m e));
}

budget-list : (k w : ℕ) (R : Reader) → k ≤ 11 * w → Budget k R → BodyBudget w (list_r w R)
budget-list k w R l A = record {
  keeps = λ h p m e.
      let n : ℕ = word p h.bytes in
      sat-map (λ s m' t. record { same = t.same; less = omega (arith, t.less, mul-le-mul_left n l) }) ((budget-counted k w R n A).keeps h p m e);
}

-- THE EXTENSION

budget-extending : (gs : List Group) (I : Inner) → GroupBudget I → BodyBudget 1 (extending_r gs I)
unfolding extending_r marked_r text_r inner_r
budget-extending gs I G = record {
  keeps = λ h p m e. sat-need _ 1 _ (λ _. sat-cond (known gs (le (part 8 (p + 4) h.bytes)))
      (λ _. sat-prefixed (mark_bytes GB) (sat-next (sat-map (λ s _ t. said {s = []} {m = m} (record {
        same = refl;
        less = simp (length-append, length-mark GB) (omega (arith, t, part-le (4 + word p h.bytes) p h.bytes));
      })) (G.keeps 0 (h.base + p) (part (4 + word p h.bytes) p h.bytes)))))
      (λ _. sat-prefixed (mark_bytes XU) (sat-need _ 9 _ (λ _. said {s = part (4 + word p h.bytes) p h.bytes} {m = m} (record {
        same = refl;
        less = simp (length-append, length-mark XU) (omega (arith, part-le (4 + word p h.bytes) p h.bytes));
      })))));
}

budget-groups : (gs : List Group) (I : Inner) → GroupBudget I → BodyBudget 4 (groups_r gs I)
unfolding groups_r
budget-groups gs I G = record {
  keeps = λ h p m e. sat-cond (eqb (word p h.bytes) 0) (λ _. said {s = []} {m = m} (record { same = refl; less = omega arith }))
      (λ _. sat-map (λ s m' t. record { same = t.same; less = omega (arith, t.less) }) ((budget-marked XT _ _ (counted (word p h.bytes))).keeps h p m e));
}
  where
    counted : (n : ℕ) → Budget (4 + n * 0) (list_r 4 (indirect_r 26 1 (extending_r gs I)) n)
    counted n = budget-counted 0 4 (indirect_r 26 1 (extending_r gs I)) n (budget-indirect _ _ _ (budget-extending gs I G))

budget-extension : (gs : List Group) (I : Inner) → GroupBudget I → Budget 0 (extension_r gs I)
unfolding extension_r
budget-extension gs I G = record {
  keeps = λ h at m e. sat-cond (eqb (word at h.bytes) 0) (λ _. said {s = []} {m = m} (record { same = refl; less = omega arith }))
      (λ _. (budget-indirect 13 4 (groups_r gs I) (budget-groups gs I G)).keeps h at m e);
}

-- FIELDS: what each adds to the sheet beyond what lies behind its offset

pub kind_budget : (ℕ → ℕ) → Kind → ℕ
kind_budget sb (plain w t) = w
kind_budget sb (inline u c) = 4 + c
kind_budget sb (indirect u) = 0
kind_budget sb (static g) = sb g
kind_budget sb (dynamic g) = 0

pub value_budget : (ℕ → ℕ) → Field → ℕ
value_budget sb f = cond f.sequence 0 (kind_budget sb f.kind)

pub fields_budget : (ℕ → ℕ) → List Field → ℕ
fields_budget sb [] = 0
fields_budget sb (f ∷ fs) = 2 + value_budget sb f + fields_budget sb fs

pub static_budget : List Group → ℕ → ℕ → ℕ
static_budget gs zero g = 0
static_budget gs (suc d) g = fields_budget (static_budget gs d) (fields_of gs g)

-- Twice the budget is at most q' times the width, where it is at most q times the width one depth below. 7 sheet bytes on 2 are an inline text of capacity 1.
module _ (sb sw : ℕ → ℕ) (D : ℕ → Bool) (q q' : ℕ) (small : (g : ℕ) → D g ≡ true → 2 * sb g ≤ q * sw g)
    (step : (B W : ℕ) → 1 ≤ W → 2 * B ≤ q * W → 2 * (2 + B) ≤ q' * W) (seven : 7 ≤ q') where
  kind-bound : (k : Kind) → SizedKind k → shallow_kind D sw k ≡ true → 2 * (2 + kind_budget sb k) ≤ q' * kind_width sw k
  unfolding kind_budget kind_width shallow_kind
  kind-bound (plain w t) e d = omega (arith, e, mul-le-mul_right w seven)
  kind-bound (inline u c) e d = omega (arith, e.0, mul-le-mul_right (c + 1) seven)
  kind-bound (indirect u) e d = omega arith
  kind-bound (static g) e d = let h = (and-eq-true_iff _ _).0 d in step (sb g) (sw g) (leb-true 1 (sw g) h.0) (small g h.1)
  kind-bound (dynamic g) e d = omega arith

  field_bound : (f : Field) → SizedKind f.kind → shallow_kind D sw f.kind ≡ true → 2 * (2 + value_budget sb f) ≤ q' * field_width sw f
  unfolding value_budget field_width value_width
  field_bound f e d = opt f.optional _ _ (seq f.sequence)
    where
      seq : (c : Bool) → 2 * (2 + cond c 0 (kind_budget sb f.kind)) ≤ q' * cond c 4 (kind_width sw f.kind)
      seq true = omega arith
      seq false = kind-bound f.kind e d

      opt : (c : Bool) (B W : ℕ) → 2 * (2 + B) ≤ q' * W → 2 * (2 + B) ≤ q' * cond c (W + 1) W
      opt true B W h = omega arith
      opt false B W h = h

  fields-bound : (fs : List Field) → SizedFields fs → shallow_fields D sw fs ≡ true → 2 * fields_budget sb fs ≤ q' * fields_width sw fs
  unfolding fields_budget fields_width shallow_fields
  fields-bound [] e d = omega arith
  fields-bound (f ∷ fs) e d =
      let g = (and-eq-true_iff _ _).0 d in
      omega (arith, field_bound f e.0 g.0, fields-bound fs e.1 g.1)

module _ (gs : List Group) (ok : Sized gs) where
  static-bound : (q q' d : ℕ) → ((g : ℕ) → shallow gs d g ≡ true → 2 * static_budget gs d g ≤ q * width gs d g)
      → ((B W : ℕ) → 1 ≤ W → 2 * B ≤ q * W → 2 * (2 + B) ≤ q' * W) → 7 ≤ q'
      → (g : ℕ) → shallow gs (suc d) g ≡ true → 2 * static_budget gs (suc d) g ≤ q' * width gs (suc d) g
  unfolding shallow static_budget width
  static-bound q q' d A step seven g e = fields-bound (static_budget gs d) (width gs d) (shallow gs d) q q' A step seven (fields_of gs g) (ok.kinds g) e

  b0 : (g : ℕ) → shallow gs 0 g ≡ true → 2 * static_budget gs 0 g ≤ 0 * width gs 0 g
  unfolding static_budget
  b0 g e = omega arith

  b1 : (g : ℕ) → shallow gs 1 g ≡ true → 2 * static_budget gs 1 g ≤ 7 * width gs 1 g
  b1 = static-bound 0 7 0 b0 (λ B W l h. omega arith) (omega arith)

  b2 : (g : ℕ) → shallow gs 2 g ≡ true → 2 * static_budget gs 2 g ≤ 10 * width gs 2 g
  b2 = static-bound 7 10 1 b1 (λ B W l h. omega arith) (omega arith)

  b3 : (g : ℕ) → shallow gs 3 g ≡ true → 2 * static_budget gs 3 g ≤ 14 * width gs 3 g
  b3 = static-bound 10 14 2 b2 (λ B W l h. omega arith) (omega arith)

  bounds : (d : ℕ) → d ≤ 4 → (g : ℕ) → shallow gs d g ≡ true → 2 * static_budget gs d g ≤ 18 * width gs d g
  bounds zero l g e = omega (arith, b0 g e)
  bounds (suc zero) l g e = omega (arith, b1 g e)
  bounds (suc (suc zero)) l g e = omega (arith, b2 g e)
  bounds (suc (suc (suc zero))) l g e = omega (arith, b3 g e)
  bounds (suc (suc (suc (suc zero)))) l g e = static-bound 14 18 3 b3 (λ B W l h. omega arith) (omega arith) g e
  bounds (suc (suc (suc (suc (suc d))))) l g e = absurd (omega arith)

  kinds : (d : ℕ) → d ≤ 4 → (k : Kind) → SizedKind k → shallow_kind (shallow gs d) (width gs d) k ≡ true
      → 2 + kind_budget (static_budget gs d) k ≤ 11 * kind_width (width gs d) k
  kinds d l k e f = omega (arith, kind-bound (static_budget gs d) (width gs d) (shallow gs d) 18 22 (bounds d l) (λ B W l h. omega arith) (omega arith) k e f)

  total : (g : ℕ) → shallow gs 5 g ≡ true → static_budget gs 5 g ≤ 11 * width gs 5 g
  total g e = omega (arith, static-bound 18 22 4 (bounds 4 (omega arith)) (λ B W l h. omega arith) (omega arith) g e)

budget-cond : (c : Bool) {k l : ℕ} {R S : Reader} → Budget k R → Budget l S → Budget (cond c k l) (cond c R S)
budget-cond true A B = A
budget-cond false A B = B

-- sb: the budgets of static groups whose depth D allows
module _ (I : Inner) (G : GroupBudget I) (sb sw : ℕ → ℕ) (D : ℕ → Bool) (S : ℕ → Reader) (A : (g : ℕ) → D g ≡ true → Budget (sb g) (S g))
    (K : (k : Kind) → SizedKind k → shallow_kind D sw k ≡ true → 2 + kind_budget sb k ≤ 11 * kind_width sw k) where
  pub budget-kind : (k : Kind) → shallow_kind D sw k ≡ true → Budget (kind_budget sb k) (kind_r I S k)
  unfolding kind_budget kind_r shallow_kind
  budget-kind (plain w t) e = budget-plain w t
  budget-kind (inline u c) e = budget-inline u c
  budget-kind (indirect u) e = budget-indirect _ _ _ (budget-text u)
  budget-kind (static g) e = A g ((and-eq-true_iff (leb 1 (sw g)) (D g)).0 e).1
  budget-kind (dynamic g) e = budget-indirect _ _ _ (budget-inner I g G)

  pub budget-value : (f : Field) → SizedKind f.kind → shallow_kind D sw f.kind ≡ true → Budget (value_budget sb f) (value_r I sw S f)
  unfolding value_budget value_r
  budget-value f e d = budget-cond f.sequence (budget-indirect _ _ _ (budget-list _ _ _ (K f.kind e d) (budget-marked _ _ _ (budget-kind f.kind d)))) (budget-kind f.kind d)

  budget-either : (c : Bool) (k : ℕ) (R T : Reader) → Budget k R → Budget k T → Budget k (cond c R T)
  budget-either true k R T A B = A
  budget-either false k R T A B = B

  pub budget-fields : (fs : List Field) → SizedFields fs → shallow_fields D sw fs ≡ true → Budget (fields_budget sb fs) (fields_r I sw S fs)
  unfolding fields_budget fields_r field_r shallow_fields
  budget-fields [] e d = budget-none
  budget-fields (f ∷ fs) e d =
      let g = (and-eq-true_iff _ _).0 d in
      let r = budget-value f e.0 g.0 in
      budget-then (2 + value_budget sb f) (fields_budget sb fs) _ _ (budget-either f.optional _ _ _ (budget-optional _ _ _ _ r) (budget-marked _ _ _ r)) (budget-fields fs e.1 g.1) _

-- GROUPS

module _ (gs : List Group) (ok : Sized gs) (x : Ignored) where
  pub budget-static : (I : Inner) → GroupBudget I → (d : ℕ) → d ≤ 5 → (g : ℕ) → shallow gs d g ≡ true → Budget (static_budget gs d g) (static_r gs I d g)
  unfolding static_budget static_r shallow
  budget-static I G zero l g e = record { keeps = λ h at m i. budget-none.keeps h at m i }
  budget-static I G (suc d) l g e = record {
    keeps = λ h at m i. (budget-fields I G (static_budget gs d) (width gs d) (shallow gs d) (static_r gs I d)
        (λ g e. budget-static I G d (omega arith) g e) (kinds gs ok d (omega arith)) (fields_of gs g) (ok.kinds g) e).keeps h at m i;
  }

  sum : (g : ℕ) (b s m' : List ℕ) → 16 + width gs 5 g ≤ length b → Within (static_budget gs 5 g + 0) (16 + width gs 5 g) (replicate (length b) 0) s m' → length (part 8 4 b ++ (s ++ GE)) + 2 ≤ 11 * length b
  sum g b s m' l t = simp length-append (omega (arith, part-le 8 4 b, t.less, t.same, length-replicate {A = ℕ} (length b) 0, taken-le (16 + width gs 5 g) m', total gs ok g (ok.shallows g)))

  pub budget-group : (l : ℕ) → GroupBudget (group_r x gs l)
  unfolding group_r head_r body_r
  budget-group zero = record { keeps = λ n base b. sat-need _ 1 _ (λ _. sat-need _ 2 _ (λ _. sat-need _ 25 _ (λ _. unsaid))) }
  budget-group (suc l) = record {
    keeps = λ n base b.
        let g : ℕ = find gs (le (part 8 4 b)) in
        let h : Here = here x b base (16 + width gs 5 g) in
        let I = group_r x gs l in
        sat-need _ 1 _ (λ t₁. sat-need _ 2 _ (λ t₂. sat-need _ 25 _ (λ t₃. sat-need _ 14 _ (λ t₄.
        sat-padded h (sat-prefixed (part 8 4 b) (sat-next (sat-map
        (λ s m' t. said {s = GE} {m = m'} (sum g b s m' (leb-true _ _ t₄) t))
        ((budget-behind _ _ _ _ (budget-static I (budget-group l) 5 (omega arith) g (ok.shallows g)) (budget-extension gs I (budget-group l))).keeps h 12 (replicate (length b) 0) (length-replicate {A = ℕ} (length b) 0)))))))));
  }

  sat-walk : (b : List ℕ) → Sat (λ s m. length s ≤ 11 * length b) (walk x gs b)
  unfolding walk
  sat-walk b = sat-need _ 22 _ (λ _. sat-prefixed (mark_bytes GB) (sat-map (λ s m t. simp (length-append, length-mark GB) (omega (arith, t))) ((budget-group 8).keeps 0 0 b)))

  pub eleven : (b s m : List ℕ) → walk x gs b ≡ done s m → length s ≤ 11 * length b
  eleven b s m e = sat-is (rw e at (sat-walk b))
