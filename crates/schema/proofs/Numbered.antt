-- No refusal of a table has the number 0.
use Rattle.std.specs.Prelude.{Result}
use Rattle.schema.specs.declared.Fault.{Fault}
use Rattle.std.proofs.Common.{Ok, Err, ◌≡◌, ℕ, zero, suc, ◌+◌, ◌≤◌, Bool, true, false, cond, List, [], ◌∷◌, arith}
use Rattle.schema.specs.Faults.{Verdict, fault_at, need, also}
use Rattle.schema.specs.Schema.{Test, any, flag, below, symbol, passes, test_fault, Group}
use Rattle.schema.specs.Table.{FD, SY, marked, group_marked, Due, shape_from, shape_verdict, enum_verdict, symbol_verdict, group_verdict, field_verdict, record_verdict, records_from, records_verdict, id_verdict, each_group, widths_verdict, supers_verdict, stored_verdict, table_verdict}

-- what holds of both branches
module _ {X : Type 0} (P : X → Type 0) where
  pub in-need : (c : Bool) {x y : X} → P x → P y → P (need c x y)
  unfolding need
  in-need true p q = q
  in-need false p q = p

  pub in-cond : (c : Bool) {x y : X} → P x → P y → P (cond c x y)
  in-cond true p q = p
  in-cond false p q = q

  -- a number that may be anything passes, so that its test has no fault
  pub in-test : (t : Test) (v : List ℕ) {x y : X} → (1 ≤ test_fault t → P x) → P y → P (need (passes t v) x y)
  unfolding need passes test_fault
  in-test any v f q = q
  in-test flag v f q = in-need (passes flag v) (f (omega arith)) q
  in-test (below n) v f q = in-need (passes (below n) v) (f (omega arith)) q
  in-test (symbol vs) v f q = in-need (passes (symbol vs) v) (f (omega arith)) q

-- An answer whose fault, if there is one, has a number.
pub data Numbered {A : Type 0} : Result A Fault → Type 0 where
  accepts : (x : A) → Numbered (Ok x)
  refuses : (f : Fault) → 1 ≤ f.number → Numbered (Err f)

pub not-zero : {A : Type 0} {v : Result A Fault} → Numbered v → (p : ℕ) → v ≡ Err (fault_at 0 p) → ⊥
not-zero (accepts x) p e = (cc)
not-zero (refuses f l) p e = let z : f ≡ fault_at 0 p = cc in let k : 1 ≤ 0 = rw z at l in omega (arith, k)

pub tested : {A : Type 0} (c : Bool) (n p : ℕ) {v : Result A Fault} → 1 ≤ n → Numbered v → Numbered (need c (Err (fault_at n p)) v)
tested c n p l x = in-need Numbered c (refuses (fault_at n p) l) x

pub numbered-also : {A : Type 0} {v : Verdict} {w : Result A Fault} → Numbered v → Numbered w → Numbered (also v w)
unfolding also
numbered-also (accepts x) y = y
numbered-also (refuses f l) y = refuses f l

shape : (n : ℕ) (d : Due) (p : ℕ) (t : List ℕ) → Numbered (shape_from n d p t)
unfolding shape_from
shape zero d p t = tested _ 31 _ (omega arith) (accepts tt)
shape (suc n) d p t = tested _ 31 _ (omega arith) (shape n _ _ _)

each : (n : ℕ) → 1 ≤ n → (test : ℕ → ℕ → Bool) (g : ℕ) (ps : List ℕ) → Numbered (each_group n test g ps)
unfolding each_group
each n l test g [] = (accepts tt)
each n l test g (p ∷ ps) = tested _ n _ l (each n l test (g + 1) ps)

one : (ne : ℕ) (gs : List Group) (next low p : ℕ) (t : List ℕ) → Numbered (record_verdict ne gs next low p t)
unfolding record_verdict field_verdict symbol_verdict group_verdict enum_verdict
one ne gs next low p t =
    in-cond Numbered (marked FD t) (tested _ 32 _ (omega arith) (tested _ 33 _ (omega arith) (accepts tt)))
    (in-cond Numbered (marked SY t) (tested _ 32 _ (omega arith) (tested _ 34 _ (omega arith) (accepts tt)))
    (in-cond Numbered (group_marked t) (tested _ 32 _ (omega arith) (tested _ 33 _ (omega arith) (tested _ 34 _ (omega arith) (accepts tt))))
    (tested _ 32 _ (omega arith) (accepts tt))))

records : (ne : ℕ) (gs : List Group) (n next low p : ℕ) (t : List ℕ) → Numbered (records_from ne gs n next low p t)
unfolding records_from
records ne gs zero next low p t = (accepts tt)
records ne gs (suc n) next low p t = numbered-also (one ne gs next low p t) (records ne gs n _ _ _ _)

pub table : (t : List ℕ) → Numbered (table_verdict t)
unfolding table_verdict shape_verdict records_verdict id_verdict widths_verdict supers_verdict stored_verdict
table t = tested _ 30 _ (omega arith) (numbered-also (shape _ _ _ _) (numbered-also (records _ _ _ _ _ _ _) (numbered-also (tested _ 34 _ (omega arith) (accepts tt))
    (numbered-also (each 35 (omega arith) _ _ _) (numbered-also (each 36 (omega arith) _ _ _) (each 37 (omega arith) _ _ _))))))
