-- The occupancy of a dynamic group: which of its bytes the values of its data area take, as a list as long as the group, 0 where a byte is free.
-- It is what the check keeps in the caller's scratch.
use Rattle.std.specs.Prelude.{ℕ, zero, suc, Bool, true, ◌&&◌, List, [], ◌∷◌, replicate, ◌==◌}
use Rattle.wire.specs.Bytes.{part, splice, all_zero}

-- "Values of one data area share no byte": whether the n bytes from p on are free, and the occupancy with them taken.
unfoldable pub free : ℕ → ℕ → List ℕ → Bool
free p n m = all_zero (part n p m)

unfoldable pub occupy : ℕ → ℕ → List ℕ → List ℕ
occupy p n m = splice n p (replicate n 1) m

-- 6: whether every pad byte, one that no value took, is zero; and how many bytes stand before the first that is not. Occupancy, bytes.
unfoldable pub pads_zero : List ℕ → List ℕ → Bool
pads_zero [] bs = true
pads_zero (m ∷ ms) [] = true
pads_zero (zero ∷ ms) (b ∷ bs) = b == 0 && pads_zero ms bs
pads_zero (suc m ∷ ms) (b ∷ bs) = pads_zero ms bs

unfoldable pub pads_before : List ℕ → List ℕ → ℕ
pads_before [] bs = 0
pads_before (m ∷ ms) [] = 0
pads_before (zero ∷ ms) (zero ∷ bs) = suc (pads_before ms bs)
pads_before (zero ∷ ms) (suc b ∷ bs) = 0
pads_before (suc m ∷ ms) (b ∷ bs) = suc (pads_before ms bs)
