-- What `add_line` answers and leaves, case by case.
use Rattle.schema.specs.declared.Fault.{Fault}
use Rattle.std.proofs.Common.{Ok, Err, Some, None, Result, Option}
use Prim.Native.Nat.{ℕ, ◌+◌, ◌-◌, ◌≤◌, ◌<◌}
use mathlib.Core.Path.{◌≡◌, refl, sym, ap, ◌∙◌}
use mathlib.Core.Bool.{Bool, true, false, ◌&&◌, and-false}
use mathlib.Core.List.{List, [], ◌∷◌, ◌++◌, append_assoc}
use native.Mathlib.Omega.{arith}
use lib.ListN.{length, replicate, length-replicate, length-append}
use lib.Dec.{eqb}
use borrow.Author.Tests.{le-leb, lt-leb}
use Rattle.wire.specs.Bytes.{part, splice, bytes_of}
use Rattle.wire.proofs.Laws.{length_part, splice-append, length-bytes}
use Rattle.schema.specs.Faults.{fault_at, need}
use Rattle.fields.specs.Fields.{has_fields}
use Rattle.reading.specs.declared.Number.{Number}
use Rattle.reading.specs.declared.Part.{Part}
use Rattle.reading.specs.Part.{bytes_in}
use Rattle.codec.specs.declared.Front.{Front}
use Rattle.codec.proofs.Claims.{claims}
use Rattle.codec.specs.Answers.{number_answer, part_answer, message_type, front_under, front_answer}
use Rattle.ledger.specs.Ledger.{Blank, word_of, LB, barcode_with, line_with, Call, barcode_of, field_of, Line, unfit, line, line_from, line_under, line_of, lines, enters, entered, Enters}

-- THE LINE, BY THE MESSAGE'S FRONT

module _ (c : Call) where
  abbrev text : Result Part Fault
  text = part_answer c.table c.message c.reads 0 0

  abbrev number : ℕ → Result Number Fault
  number n = number_answer c.table c.message c.reads n 0

  abbrev has : Bool
  has = has_fields c.table c.blank Blank

  -- the line where the front is this
  line_by : Result (Option Front) Fault → Line
  line_by (Ok (Some x)) = line_from (bytes_in c.message x.first) (bytes_of 4 (word_of x.second)) (bytes_of 4 (word_of x.third)) (bytes_of 4 (word_of x.fourth))
  line_by (Ok None) = unfit 54 0
  line_by (Err f) = unfit f.number f.place

  by_front : (a : Result ℕ Fault) → line_under c a ≡ line_by (front_under a c.blank has text (number 1) (number 2) (number 3))
  unfolding line_under front_under line_by
  by_front (Err f) = refl
  by_front (Ok k) = go (eqb k c.blank && has)
    where
      go : (v : Bool) → need v (unfit 54 0) (line_from (barcode_of c) (field_of c 1) (field_of c 2) (field_of c 3)) ≡ line_by (need v (Ok None) (Ok (Some (record { first = text; second = number 1; third = number 2; fourth = number 3 }))))
      go true = unfold need in refl
      go false = unfold need in refl

  front-text : (a : Result ℕ Fault) (x : Front) → front_under a c.blank has text (number 1) (number 2) (number 3) ≡ Ok (Some x) → text ≡ x.first
  unfolding front_under
  front-text (Err f) x e = absurd (cc)
  front-text (Ok k) x e = go (eqb k c.blank && has) e
    where
      go : (w : Bool) → ◌≡◌ {A = Result (Option Front) Fault} (need w (Ok None) (Ok (Some (record { first = text; second = number 1; third = number 2; fourth = number 3 })))) (Ok (Some x)) → text ≡ x.first
      go true e = unfold need in let q : ◌≡◌ {A = Front} (record { first = text; second = number 1; third = number 2; fourth = number 3 }) x = cc in ap (λ (y : Front). y.first) q
      go false e = unfold need in absurd (cc)

  module _ (r : Result (Option Front) Fault) (e : r ≡ front_answer c.table c.message c.reads c.blank Blank) where
    line-by : line_of c ≡ line_by r
    unfolding line_of front_answer
    line-by = by_front (message_type c.table c.message c.reads) ∙ ap line_by (sym e)

    module _ (x : Front) (f : r ≡ Ok (Some x)) where
      -- the barcode lies in the message
      pub read-inside : (p : Part) → x.first ≡ Ok p → p.start + p.length ≤ length c.message
      unfolding front_answer
      read-inside p l = claims.part-inside c.table c.message c.reads 0 0 p.start p.length (front-text (message_type c.table c.message c.reads) x (sym e ∙ f) ∙ l)

      -- and the line is that of the values read
      module _ (k l m : ℕ) (i : k ≡ word_of x.second) (j : l ≡ word_of x.third) (h : m ≡ word_of x.fourth) (s : List ℕ) (fill : ℕ) (y : Result ℕ Fault) (left : List ℕ) where
        pub enters-read : (p : Part) → x.first ≡ Ok p → Enters (lines s fill) (line_from (part p.length p.start c.message) (bytes_of 4 k) (bytes_of 4 l) (bytes_of 4 m)) y left → Enters (lines s fill) (line_of c) y left
        unfolding line_by bytes_in
        enters-read p b E = rw (line-by, f, b, ← i, ← j, ← h) E

        pub enters-no-part : (g : Fault) → x.first ≡ Err g → Enters (lines s fill) (line_from [] (bytes_of 4 k) (bytes_of 4 l) (bytes_of 4 m)) y left → Enters (lines s fill) (line_of c) y left
        unfolding line_by bytes_in
        enters-no-part g b E = rw (line-by, f, b, ← i, ← j, ← h) E

    pub line_other : r ≡ Ok None → line_of c ≡ unfit 54 0
    unfolding line_by
    line_other f = line-by ∙ ap line_by f

    pub line_refused : (g : Fault) → r ≡ Err g → line_of c ≡ unfit g.number g.place
    unfolding line_by
    line_refused g f = line-by ∙ ap line_by f

-- 55

module _ (x d v g : List ℕ) where
  no-barcode : length x < 1 → line_from x d v g ≡ unfit 55 0
  unfolding line_from need
  no-barcode h = rw (lt-leb 1 (length x) h)

  long-barcode : 40 < length x → line_from x d v g ≡ unfit 55 0
  unfolding line_from need
  long-barcode h = rw (lt-leb (length x) 40 h, and-false)

  line_made : 1 ≤ length x → length x ≤ 40 → line_from x d v g ≡ line (line_with x d v g)
  unfolding line_from need
  line_made l h = rw (le-leb 1 (length x) l, le-leb (length x) 40 h)

-- THE LEDGER

module _ (s : List ℕ) (fill : ℕ) (x : Line) where
  pub enters-nothing : (f : Fault) → x ≡ unfit f.number f.place → Enters (lines s fill) x (Err f) s
  unfolding enters entered
  enters-nothing f e = (rw e, rw e)

  enters-full : (y : List ℕ) → x ≡ line y → length s < fill + 64 → Enters (lines s fill) x (Err (fault_at 56 0)) s
  unfolding enters entered need
  enters-full y e h = (rw (e, lt-leb _ _ h), rw (e, lt-leb _ _ h))

  enters-line : (y left : List ℕ) → x ≡ line y → fill + 64 ≤ length s → left ≡ splice 64 fill y s → Enters (lines s fill) x (Ok (fill + 64)) left
  unfolding enters entered need
  enters-line y left e h f = (rw (e, le-leb _ _ h), rw (e, le-leb _ _ h, f))

-- a barcode x
module _ (x d v g s : List ℕ) (fill : ℕ) where
  abbrev this : Line
  this = line_from x d v g

  pub enters-55-none : length x < 1 → Enters (lines s fill) this (Err (fault_at 55 0)) s
  enters-55-none h = enters-nothing s fill this (fault_at 55 0) (no-barcode x d v g h)

  pub enters-55-long : 40 < length x → Enters (lines s fill) this (Err (fault_at 55 0)) s
  enters-55-long h = enters-nothing s fill this (fault_at 55 0) (long-barcode x d v g h)

  module _ (some : 1 ≤ length x) (short : length x ≤ 40) where
    pub enters-56 : length s < fill + 64 → Enters (lines s fill) this (Err (fault_at 56 0)) s
    enters-56 h = enters-full s fill this (line_with x d v g) (line_made x d v g some short) h

    pub enters-it : (left : List ℕ) → fill + 64 ≤ length s → left ≡ splice 64 fill (line_with x d v g) s → Enters (lines s fill) this (Ok (fill + 64)) left
    enters-it left h e = enters-line s fill this (line_with x d v g) left (line_made x d v g some short) h e

-- WRITING

-- what is written at p, behind the m bytes that were
joined : (m n k at p : ℕ) (xs ys s s' s'' : List ℕ) → length xs ≡ m → p ≡ at + m → k ≡ m + n → at + m ≤ length s → s' ≡ splice m at xs s → s'' ≡ splice n p ys s' → s'' ≡ splice k at (xs ++ ys) s
joined m n k at p xs ys s s' s'' l q f h e g = g ∙ rw (q, f, e) (splice-append m n at xs ys s l h)

-- the barcode x
module _ (at : ℕ) (s : List ℕ) (room : at + 64 ≤ length s) (x : List ℕ) (short : length x ≤ 40) where
  abbrev n : ℕ
  n = length x

  abbrev counted : List ℕ
  counted = LB ++ (n ∷ [])

  barcode-is : (counted ++ x) ++ replicate (40 - n) 0 ≡ barcode_with x
  barcode-is = append_assoc counted x (replicate (40 - n) 0)

  module _ (s₁ s₂ s₃ s₄ : List ℕ)
      (e₁ : s₁ ≡ splice 2 at LB s)
      (e₂ : s₂ ≡ splice 1 (at + 2) (replicate 1 n) s₁)
      (e₃ : s₃ ≡ splice n (at + 3) x s₂)
      (e₄ : s₄ ≡ splice (40 - n) (at + (3 + n)) (replicate (40 - n) 0) s₃) where
    pub barcode-written : s₄ ≡ splice 43 at (barcode_with x) s
    barcode-written =
        let l : length (counted ++ x) ≡ 3 + n = length-append counted x in
        let j₂ = joined 2 1 3 at (at + 2) LB (n ∷ []) s s₁ s₂ refl refl refl (omega arith) e₁ e₂ in
        let j₃ = joined 3 n (3 + n) at (at + 3) counted x s s₂ s₃ refl refl refl (omega arith) j₂ e₃ in
        let j₄ = joined (3 + n) (40 - n) 43 at (at + (3 + n)) (counted ++ x) (replicate (40 - n) 0) s s₃ s₄ l refl (omega arith) (omega arith) j₃ e₄ in
        j₄ ∙ ap (λ (z : List ℕ). splice 43 at z s) barcode-is

  long-barcode-part : length (barcode_with x) ≡ 43
  long-barcode-part = simp (length-append, length-replicate) (omega (arith, short))

  module _ (d v g : ℕ) (s₁ s₂ s₃ s₄ s₅ : List ℕ)
      (e₁ : s₁ ≡ splice 43 at (barcode_with x) s)
      (e₂ : s₂ ≡ splice 4 (at + 43) (bytes_of 4 d) s₁)
      (e₃ : s₃ ≡ splice 4 (at + 47) (bytes_of 4 v) s₂)
      (e₄ : s₄ ≡ splice 4 (at + 51) (bytes_of 4 g) s₃)
      (e₅ : s₅ ≡ splice 9 (at + 55) (replicate 9 0) s₄) where
    -- four more bytes behind the k that were written
    word : (k p z : ℕ) (xs s' s'' : List ℕ) → length xs ≡ k → p ≡ at + k → k ≤ 51 → s' ≡ splice k at xs s → s'' ≡ splice 4 p (bytes_of 4 z) s' → (s'' ≡ splice (k + 4) at (xs ++ bytes_of 4 z) s) × (length (xs ++ bytes_of 4 z) ≡ k + 4)
    word k p z xs s' s'' l q h e f = (joined k 4 (k + 4) at p xs (bytes_of 4 z) s s' s'' l q refl (omega (arith, room, h)) e f, rw (length-append xs (bytes_of 4 z), l, length-bytes 4 z))

    regrouped : (B d v g z : List ℕ) → (((B ++ d) ++ v) ++ g) ++ z ≡ B ++ (d ++ (v ++ (g ++ z)))
    regrouped B d v g z = simp append_assoc

    pub line-written : s₅ ≡ splice 64 at (line_with x (bytes_of 4 d) (bytes_of 4 v) (bytes_of 4 g)) s
    line-written =
        let D = word 43 (at + 43) d (barcode_with x) s₁ s₂ long-barcode-part refl (omega arith) e₁ e₂ in
        let S = word 47 (at + 47) v (barcode_with x ++ bytes_of 4 d) s₂ s₃ D.1 refl (omega arith) D.0 e₃ in
        let G = word 51 (at + 51) g ((barcode_with x ++ bytes_of 4 d) ++ bytes_of 4 v) s₃ s₄ S.1 refl (omega arith) S.0 e₄ in
        joined 55 9 64 at (at + 55) (((barcode_with x ++ bytes_of 4 d) ++ bytes_of 4 v) ++ bytes_of 4 g) (replicate 9 0) s s₄ s₅ G.1 refl refl (omega arith) G.0 e₅
        ∙ ap (λ (z : List ℕ). splice 64 at z s) (regrouped (barcode_with x) (bytes_of 4 d) (bytes_of 4 v) (bytes_of 4 g) (replicate 9 0))
