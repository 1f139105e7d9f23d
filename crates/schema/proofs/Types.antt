-- The kind of each type, as the code sees it, and its width.
use Rattle.std.proofs.Common.{Ok, Err, ◌≡◌, ℕ, suc, ◌+◌, ◌<◌, ◌≤◌, Bool, true, false, cond, ◌||◌, eqb, ltb, leb, List, [], length, get_or, take, drop, refl, sym, ap, ◌∙◌, arith, ne_eqb, le-leb, leb-false}
use lib.ListN.{get_or-eq_default}
use borrow.Author.Tests.{lt-leb, eqb-false}
use Rattle.schema.specs.Schema.{Test, flag, below, symbol, plain, passes, test_fault, member, Field, kind_width, value_width, field_width}
use Rattle.schema.specs.Faults.{fault_at, judged}
use Rattle.wire.specs.Bytes.{part, le}
use Rattle.wire.proofs.Laws.{drop_more}
use Rattle.schema.specs.Table.{kind_of, field_at, field_type, scalar_width}
use Rattle.schema.specs.FieldKinds.{kind_from, text_kind, tested_kind, kind_fault, plain_field, plain_width}
use Rattle.schema.specs.declared.FieldKind.TheVariants.{Plain, Number, Static, Dynamic}
use Rattle.schema.specs.declared.Tested.TheVariants.{Flag, Millis, Nanos, Symbol}

module _ (es : List (List ℕ)) (type size ref : ℕ) where
  pub kind-flag : type ≡ 11 → kind_from es (Number Flag) ≡ kind_of es type size ref
  unfolding kind_of kind_from tested_kind
  kind-flag e = rw e

  pub kind-millis : type ≡ 15 → kind_from es (Number Millis) ≡ kind_of es type size ref
  unfolding kind_of kind_from tested_kind
  kind-millis e = rw e

  pub kind-nanos : type ≡ 16 → kind_from es (Number Nanos) ≡ kind_of es type size ref
  unfolding kind_of kind_from tested_kind
  kind-nanos e = rw e

  pub kind-string : type ≡ 17 → text_kind true size ≡ kind_of es type size ref
  unfolding kind_of text_kind
  kind-string e = rw e

  pub kind-binary : type ≡ 18 → text_kind false size ≡ kind_of es type size ref
  unfolding kind_of text_kind
  kind-binary e = rw e

  pub kind-fixed : type ≡ 19 → kind_from es (Plain size) ≡ kind_of es type size ref
  unfolding kind_of kind_from
  kind-fixed e = rw e

  pub kind-symbol : type ≡ 20 → kind_from es (Number (Symbol ref)) ≡ kind_of es type size ref
  unfolding kind_of kind_from tested_kind
  kind-symbol e = rw e

  pub kind-static : type ≡ 21 → kind_from es (Static ref) ≡ kind_of es type size ref
  unfolding kind_of kind_from
  kind-static e = rw e

  pub kind-dynamic : type ≡ 22 → kind_from es (Dynamic (ref + 1)) ≡ kind_of es type size ref
  unfolding kind_of kind_from
  kind-dynamic e = rw e

  pub kind-plain : (w : ℕ) → w ≡ scalar_width type → (type ≡ 11 → ⊥) → (type ≡ 15 → ⊥) → (type ≡ 16 → ⊥) → type < 17 → kind_from es (Plain w) ≡ kind_of es type size ref
  unfolding kind_of kind_from
  kind-plain w e a b c l = rw (ne_eqb _ _ a, ne_eqb _ _ b, ne_eqb _ _ c, le-leb type 16 (omega arith), e)

  pub kind-any : 23 ≤ type → kind_from es (Dynamic 0) ≡ kind_of es type size ref
  unfolding kind_of kind_from
  kind-any l =
      rw (ne_eqb type 11 (omega arith), ne_eqb type 15 (omega arith), ne_eqb type 16 (omega arith), lt-leb type 16 (omega arith), ne_eqb type 17 (omega arith))
      (rw (ne_eqb type 18 (omega arith), ne_eqb type 19 (omega arith), ne_eqb type 20 (omega arith), ne_eqb type 21 (omega arith), ne_eqb type 22 (omega arith)))

-- one number less of those that `type` may be: a `match` on numbers says what it is not, one by one
pub above : (type n : ℕ) → n ≤ type → (type ≡ n → ⊥) → n + 1 ≤ type
above type n h d = omega arith

module _ (sw : ℕ → ℕ) (f : Field) where
  pub width-sequence : f.sequence ≡ true → 4 ≡ value_width sw f
  unfolding value_width
  width-sequence e = rw e

  pub width_one : f.sequence ≡ false → kind_width sw f.kind ≡ value_width sw f
  unfolding value_width
  width_one e = rw e

  pub width-optional : f.optional ≡ true → value_width sw f + 1 ≡ field_width sw f
  unfolding field_width value_width
  width-optional e = rw e

  pub width-required : f.optional ≡ false → value_width sw f ≡ field_width sw f
  unfolding field_width value_width
  width-required e = rw e

-- a required field of a type without a test
module _ (es : List (List ℕ)) (s : List ℕ) where
  plain-field : (w : ℕ) → w ≡ scalar_width (field_type s) → (field_at es s).optional ≡ false → (field_at es s).sequence ≡ false
      → (field_type s ≡ 11 → ⊥) → field_type s < 15 → field_at es s ≡ plain_field (field_type s) w
  unfolding field_at kind_of
  plain-field w e o q a l =
      rw (o, q, ne_eqb _ _ a, ne_eqb (field_type s) 15 (omega arith), ne_eqb (field_type s) 16 (omega arith), le-leb (field_type s) 16 (omega arith), e)

  pub plain-is : (w : ℕ) → w ≡ plain_width (field_at es s) → (w ≡ 0 → ⊥) → field_at es s ≡ plain_field (field_type s) w
  unfolding field_at plain_width
  plain-is w e z = go (field_at es s).optional refl (field_at es s).sequence refl (eqb (field_type s) 11) refl (leb 15 (field_type s)) refl e
    where
      go : (o : Bool) → (field_at es s).optional ≡ o → (q : Bool) → (field_at es s).sequence ≡ q → (a : Bool) → eqb (field_type s) 11 ≡ a → (l : Bool) → leb 15 (field_type s) ≡ l
          → w ≡ cond (o || (q || (a || l))) 0 (scalar_width (field_type s)) → field_at es s ≡ plain_field (field_type s) w
      go true o q qe a ae l le e = absurd (z e)
      go false o true qe a ae l le e = absurd (z e)
      go false o false qe true ae l le e = absurd (z e)
      go false o false qe false ae true le e = absurd (z e)
      go false o false qe false ae false le e = plain-field w e o qe (eqb-false _ _ ae) (leb-false _ _ le)

  pub plain-optional : (field_at es s).optional ≡ true → 0 ≡ plain_width (field_at es s)
  unfolding plain_width
  plain-optional o = rw o

  module _ (o : (field_at es s).optional ≡ false) where
    pub plain-sequence : (field_at es s).sequence ≡ true → 0 ≡ plain_width (field_at es s)
    unfolding plain_width
    plain-sequence q = rw (o, q)

    module _ (type : ℕ) (is : type ≡ field_type s) (q : (field_at es s).sequence ≡ false) where
      pub plain-flag : type ≡ 11 → 0 ≡ plain_width (field_at es s)
      unfolding field_at plain_width
      plain-flag a = rw (o, q, ← is, a)

      pub plain-high : (type ≡ 11 → ⊥) → 15 ≤ type → 0 ≡ plain_width (field_at es s)
      unfolding field_at plain_width
      plain-high a l = rw (o, q, ← is, ne_eqb _ _ a, le-leb _ _ l)

      pub plain-scalar : (w : ℕ) → w ≡ scalar_width type → (type ≡ 11 → ⊥) → type < 15 → w ≡ plain_width (field_at es s)
      unfolding field_at plain_width
      plain-scalar w e a l = rw (o, q, ← is, ne_eqb _ _ a, lt-leb _ _ l, e)

-- TESTS

pub le-one : (s : List ℕ) (at : ℕ) → at + 1 ≤ length s → le (part 1 at s) ≡ get_or s at 0
unfolding le
le-one s at h = rw (drop_more s at (omega arith)) (omega arith)

-- Whether the w bytes at s pass, with the number of the fault where they do not.
abbrev pub judgement : ℕ → Test → List ℕ → Bool × ℕ
judgement w x s = (passes x (take w s), test_fault x)

module _ (w : ℕ) (x : Test) (s : List ℕ) (place : ℕ) (j : Bool × ℕ) (e : j ≡ judgement w x s) where
  passing : Bool × ℕ → Bool
  passing (b, n) = b

  number : Bool × ℕ → ℕ
  number (b, n) = n

  pub accepted : j.0 ≡ true → Ok tt ≡ judged (kind_fault (plain w x) s) place
  unfolding kind_fault judged passing
  accepted z = let h : passes x (take w s) ≡ true = sym (ap passing e) ∙ z in rw h

  pub refused : (n : ℕ) → j.0 ≡ false → j.1 ≡ suc n → Err (fault_at j.1 place) ≡ judged (kind_fault (plain w x) s) place
  unfolding kind_fault judged passing number
  refused n z m = let h : passes x (take w s) ≡ false = sym (ap passing e) ∙ z in let k : test_fault x ≡ suc n = sym (ap number e) ∙ m in rw (h, k, m)

pub judge-flag : (s : List ℕ) (at : ℕ) → at + 1 ≤ length s → ◌≡◌ {A = Bool × ℕ} (ltb (get_or s at 0) 2, 11) (judgement 1 flag (drop at s))
unfolding passes test_fault
judge-flag s at h = rw (le-one s at h)

pub judge-below : (w n x : ℕ) (s : List ℕ) → x ≡ le (take w s) → ◌≡◌ {A = Bool × ℕ} (ltb x n, 12) (judgement w (below n) s)
unfolding passes test_fault
judge-below w n x s e = rw e

pub judge-symbol : (vs s : List ℕ) (b : Bool) → b ≡ member (le (take 4 s)) vs → ◌≡◌ {A = Bool × ℕ} (b, 10) (judgement 4 (symbol vs) s)
unfolding passes test_fault
judge-symbol vs s b e = rw e

-- an enumeration past the last has no symbol
pub judge-past : (es : List (List ℕ)) (e : ℕ) (s : List ℕ) → length es ≤ e → ◌≡◌ {A = Bool × ℕ} (false, 10) (judgement 4 (symbol (get_or es e [])) s)
unfolding passes test_fault member
judge-past es e s h = rw (get_or-eq_default es [] h)
