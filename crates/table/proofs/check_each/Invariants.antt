use Rattle.std.proofs.Common.{◌≡◌, Bool, true, ℕ, ◌<◌, drop}
use Rattle.schema.specs.Table.{places, each_group}
use Rattle.schema.specs.Layout.{group_place}
use Rattle.table.specs.Index.{Decides}
use Rattle.table.proofs.check_each.Given as goal

abbrev pub invariant-loop-g : goal.invariant-loop-g
invariant-loop-g T l =
    (test : ℕ → ℕ → Bool) → Decides l.table l.index (goal.F-post T l.passes) test
    → ((h : ℕ) → h < l.g → test h (group_place l.index h) ≡ true) × (each_group l.number test 0 (places l.table) ≡ each_group l.number test l.g (drop l.g (places l.table)))
