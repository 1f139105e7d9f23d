-- 35, 36 and 37 group by group: a loop over the groups, and what each group has where none is refused.
use Rattle.std.proofs.Common.{Ok, Err}
use Rattle.std.specs.List.{list_any, range_with_len}
use mathlib.Core.Path.{◌≡◌, sym, ap, ◌∙◌}
use mathlib.Core.Bool.{Bool, true, false}
use mathlib.Core.List.{List, [], ◌∷◌}
use Prim.Native.Nat.{ℕ, zero, suc, ◌+◌, ◌<◌, ◌≤◌}
use native.Mathlib.Omega.{arith}
use lib.ListN.{length, drop, get_or, drop_of_length-le}
use lib.Dec.{eqb}
use Rattle.schema.specs.Faults.{fault_at, need}
use Rattle.schema.specs.Table.{id_flag, group_at, schema, places, any_id, each_group}
use Rattle.schema.specs.Layout.{group_place}
use Rattle.table.specs.Index.{Placing}
use Rattle.table.proofs.Laws.{need-accepted}

-- the loop stands at group number g of all, which the index k places
module _ (n : ℕ) (test : ℕ → ℕ → Bool) (t k : List ℕ) (P : Placing t k) (all : ℕ) (is : all ≡ length (schema t)) (g : ℕ) (e : each_group n test 0 (places t) ≡ each_group n test g (drop g (places t))) where
  pub each-stop : g < all → test g (group_place k g) ≡ false → Err (fault_at n (group_place k g)) ≡ each_group n test 0 (places t)
  unfolding each_group need
  each-stop l h = sym (e ∙ rw (P.start g (omega arith), h))

  pub each_turn : g < all → test g (group_place k g) ≡ true → each_group n test 0 (places t) ≡ each_group n test (g + 1) (drop (g + 1) (places t))
  unfolding each_group need
  each_turn l h = e ∙ rw (P.start g (omega arith), h)

  pub each-end : g ≤ all → all ≤ g → Ok tt ≡ each_group n test 0 (places t)
  unfolding each_group
  each-end a b = let z : g ≡ length (schema t) = omega arith in sym (e ∙ rw (ap (λ (m : ℕ). drop m (places t)) z ∙ P.last))

-- one of the groups from number g on has an id
pub any-listed : (t k : List ℕ) → Placing t k → (m g : ℕ) → g + m ≡ length (schema t) → list_any (λ h. eqb (id_flag (drop (group_place k h) t)) 1) (range_with_len g m) ≡ any_id (drop g (schema t))
unfolding any_id group_at
any-listed t k P zero g e = let z : length (schema t) ≤ g = omega arith in rw (drop_of_length-le (schema t) z)
any-listed t k P (suc m) g e = rw (P.placed.group g (omega arith), any-listed t k P m (g + 1) (omega arith))

pub each-passed : (n : ℕ) (test : ℕ → ℕ → Bool) (g : ℕ) (ps : List ℕ) → each_group n test g ps ≡ Ok tt → (i : ℕ) → i < length ps → test (g + i) (get_or ps i 0) ≡ true
unfolding each_group
each-passed n test g [] e i l = absurd (omega arith)
each-passed n test g (p ∷ ps) e zero l = let z : g + 0 ≡ g = omega arith in rw z (need-accepted _ _ _ _ e).0
each-passed n test g (p ∷ ps) e (suc i) l =
    let z : g + 1 + i ≡ g + suc i = omega arith in
    rw z at (each-passed n test (g + 1) ps (need-accepted _ _ _ _ e).1 i (omega arith))
