-- 37: how the check reads it, and what it gives of an accepted table's groups.
use Rattle.std.proofs.Common.{Ok}
use mathlib.Core.Path.{◌≡◌}
use mathlib.Core.Bool.{true, false}
use mathlib.Core.List.{List}
use Prim.Native.Nat.{ℕ, ◌+◌, ◌<◌}
use native.Mathlib.Omega.{arith}
use lib.ListN.{length, drop, get_or}
use lib.Dec.{eqb}
use borrow.Author.Tests.{eqb-true}
use Rattle.schema.specs.Schema.{width}
use Rattle.schema.specs.Table.{GW, marked, stored_width, schema, places, stores_own, stored_verdict}
use Rattle.schema.specs.Layout.{group_place, width_in}
use Rattle.table.specs.Index.{Placing}
use Rattle.table.specs.Measure.{Sized}
use Rattle.table.proofs.Groups.{each-passed}
use Rattle.table.proofs.Records.{drop-less, drop-get_d}

-- A GROUP'S TEST

pub stores-none : (t : List ℕ) (g p : ℕ) → marked GW (drop p t) ≡ false → stores_own t g p ≡ true
unfolding stores_own
stores-none t g p e = rw e

-- by what the index has
pub stores-width : (t k : List ℕ) → Sized t k → (g p w x : ℕ) → marked GW (drop p t) ≡ true → w ≡ stored_width (drop p t) → x ≡ width_in k g → eqb w x ≡ stores_own t g p
unfolding stores_own
stores-width t k z g p w x m a b = rw (m, a, b, z.wide 5 g (z.shallows g))

-- WHAT 37 GIVES

stored-own : (t : List ℕ) (g p : ℕ) → stores_own t g p ≡ true → marked GW (drop p t) ≡ true → stored_width (drop p t) ≡ width (schema t) 5 g
unfolding stores_own
stored-own t g p e m = eqb-true _ _ (rw m at e)

pub stored-true : (t : List ℕ) → stored_verdict t ≡ Ok tt → (g : ℕ) → g < length (places t) → marked GW (drop (get_or (places t) g 0) t) ≡ true
    → stored_width (drop (get_or (places t) g 0) t) ≡ width (schema t) 5 g
unfolding stored_verdict
stored-true t e g l =
    let z : 0 + g ≡ g = omega arith in
    stored-own t g (get_or (places t) g 0) (rw z at (each-passed 37 _ 0 (places t) e g l))

-- where the index says
pub stored_at : (t k : List ℕ) → Placing t k → stored_verdict t ≡ Ok tt → (g : ℕ) → g < length (schema t) → marked GW (drop (group_place k g) t) ≡ true
    → stored_width (drop (group_place k g) t) ≡ width (schema t) 5 g
stored_at t k P e g l = let s = P.start g l in rw (drop-get_d (places t) _ 0 _ g s) at (stored-true t e g (drop-less (places t) _ _ g s))
