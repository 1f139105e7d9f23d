-- A packed data area has no pad byte.
use mathlib.Core.Path.{◌≡◌, refl}
use mathlib.Core.Bool.{Bool, true, false}
use mathlib.Core.List.{List, [], ◌∷◌}
use Prim.Native.Nat.{ℕ, ◌+◌, ◌≤◌, ◌<◌}
use native.Mathlib.Omega.{arith}
use lib.Dec.{ltb}
use borrow.Author.Tests.{ltb-true, ltb-false}
use Rattle.schema.specs.Schema.{Group, find}
use Rattle.meaning.specs.Conforms.{Extent, extents, Pad, values_of, type_id}
use Rattle.meaning.specs.Packed.{Contiguous, Packed, Unheld}

contiguous-full : (p e : ℕ) (xs : List Extent) → Contiguous p xs e → (i : ℕ) → p ≤ i → i < e → Pad i xs → ⊥
contiguous-full p e [] c i l h pad = omega (arith, c, l, h)
contiguous-full p e (x ∷ xs) (at, c) i l h (out, pad) = go (ltb i (p + x.long)) refl (λ k. contiguous-full (p + x.long) e xs c i k h pad)
  where
    go : (d : Bool) → ltb i (p + x.long) ≡ d → (p + x.long ≤ i → ⊥) → ⊥
    go true t rest = let k : i < p + x.long = ltb-true i (p + x.long) t in out (record { starts = omega (arith, at, l); ends = omega (arith, at, k) })
    go false t rest = rest (ltb-false _ _ t)

pub no-pad : (gs : List Group) (b : List ℕ) → Packed gs b → (i : ℕ) → Unheld gs b i → ⊥
no-pad gs b P i u = contiguous-full _ _ (extents b (values_of gs (find gs (type_id b)) b)) P.area i u.starts u.ends u.pad
