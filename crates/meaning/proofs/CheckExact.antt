-- Nothing of a sheet's length is cut off: the check's count is the walk's.
use mathlib.Core.Path.{◌≡◌, refl, ap}
use mathlib.Core.List.{List}
use Prim.Native.Nat.{ℕ, ◌+◌, ◌%◌, ◌^◌, ◌≤◌}
use native.Mathlib.Omega.{arith}
use native.Mathlib.Nat.{zero-add, mod-eq_of_lt}
use lib.ListN.{length}
use Rattle.schema.specs.Schema.{Group}
use Rattle.settings.specs.declared.Ignored.{Ignored}
use Rattle.message.specs.Walk.{Reading, refused, done, walk}
use Rattle.message.specs.Count.{count, counted}
use Rattle.message.specs.Check.{after}
use Rattle.meaning.specs.Proper.{Sized}
use Rattle.meaning.proofs.Eleven.{eleven}

pub after-exact : (y : Ignored) (gs : List Group) → Sized gs → (b : List ℕ) → length b ≤ 65536 → after 0 (count (walk y gs b)) ≡ count (walk y gs b)
unfolding after count
after-exact y gs ok b h = go (walk y gs b) refl
  where
    go : (r : Reading) → walk y gs b ≡ r → after 0 (count r) ≡ count r
    go (refused n p) e = refl
    go (done s m) e =
        let l = eleven gs ok y b s m e in
        let q : (0 + length s) % 2 ^ 64 ≡ length s = rw zero-add (mod-eq_of_lt (omega (arith, l, h))) in
        ap (λ (k : ℕ). counted k m) q
