use mathlib.Core.Path.{◌≡◌}
use Prim.Native.Nat.{◌-◌, ◌≤◌}
use lib.ListN.{length}
use Rattle.opening.specs.Opening.{under}
use Rattle.tape.specs.Tape.{tape_answers}
use Rattle.ledger.specs.Ledger.{lines, run}
use Rattle.ledgers.specs.Entries.{calls_at, calls, ledger_outcome}
use Rattle.ledgers.proofs.Laws.{outcome_from}
use Rattle.ledgers.proofs.enter_under.Given as goal

abbrev pub invariant-loop-at : goal.invariant-loop-at
invariant-loop-at l = record {
  room : length l.scratch ≡ length l.initial.scratch;
  size : length l.ledger ≡ length l.initial.ledger;
  inside : l.at ≤ length l.tape;
  runs : run (lines l.initial.ledger l.start) (calls l.table l.tape (under l.store l.customer (length l.initial.scratch)) l.id)
      ≡ run (lines l.ledger l.fill) (calls_at l.table l.tape (under l.store l.customer (length l.initial.scratch)) l.id l.at);
  so_far : ledger_outcome (lines l.initial.ledger l.start) (tape_answers l.table l.tape (under l.store l.customer (length l.initial.scratch))) (calls l.table l.tape (under l.store l.customer (length l.initial.scratch)) l.id)
      ≡ outcome_from l.table l.tape (under l.store l.customer (length l.initial.scratch)) l.id l.worst (lines l.ledger l.fill) l.at;
}

abbrev pub decreases-loop-at : goal.decreases-loop-at
decreases-loop-at l = length l.tape - l.at
