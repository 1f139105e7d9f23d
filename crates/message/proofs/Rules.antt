-- The number that holds a group's levels and what is ignored.
use Rattle.std.proofs.Common.{◌≡◌, ℕ, ◌+◌, ◌-◌, ◌*◌, ◌/◌, ◌≤◌, Bool, true, false, refl, arith}
use mir.Val.{bool_byte}
use Rattle.message.specs.Check.{levels_in, ignored_in}

pub levels-within : (n : ℕ) → levels_in n ≤ n
unfolding levels_in
levels-within n = omega arith

-- a level less
module _ (n : ℕ) (h : 1 ≤ levels_in n) where
  pub levels-less : levels_in (n - 1) ≡ levels_in n - 1
  unfolding levels_in
  levels-less = omega (arith, h)

  pub ignored-less : ignored_in (n - 1) ≡ ignored_in n
  unfolding levels_in ignored_in
  ignored-less = let q : (n - 1) / 16 ≡ n / 16 = omega (arith, h) in rw q

-- a message's: eight levels, and what the flags say
abbrev rules : Bool → Bool → Bool → ℕ
rules a p u = 8 + 16 * bool_byte a + 32 * bool_byte p + 64 * bool_byte u

pub message-rules : (a p u : Bool) → (levels_in (rules a p u) ≡ 8) × (ignored_in (rules a p u) ≡ record { absent = a; pads = p; unused = u })
unfolding levels_in ignored_in
message-rules true true true = (refl, refl)
message-rules true true false = (refl, refl)
message-rules true false true = (refl, refl)
message-rules true false false = (refl, refl)
message-rules false true true = (refl, refl)
message-rules false true false = (refl, refl)
message-rules false false true = (refl, refl)
message-rules false false false = (refl, refl)
