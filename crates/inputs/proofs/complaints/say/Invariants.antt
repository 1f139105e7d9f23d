use Rattle.std.proofs.Common.{◌≤◌}
use Rattle.inputs.proofs.complaints.say.Given as goal

abbrev pub invariant-loop-word : goal.invariant-loop-word
invariant-loop-word l = l.end ≤ 4607
