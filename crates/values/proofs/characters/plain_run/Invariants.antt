use Prim.Native.Nat.{ℕ, ◌+◌, ◌-◌, ◌≤◌, max}
use mathlib.Core.Path.{◌≡◌}
use lib.ListN.{length}
use Rattle.values.specs.Characters.{plain_from, plain_run}
use Rattle.values.proofs.characters.plain_run.Given as goal

-- k more characters may come
abbrev pub invariant-loop-length : goal.invariant-loop-length
invariant-loop-length l = (k : ℕ) × (l.at ≤ l.end) × (l.end ≤ max l.at (length l.text)) × (length l.text ≤ l.end + k) × (plain_run l.text l.at ≡ l.end - l.at + plain_from k l.text l.end)

abbrev pub decreases-loop-length : goal.decreases-loop-length
decreases-loop-length l = length l.text - l.end
