use Rattle.std.proofs.Common.{◌-◌, ◌≤◌}
use Rattle.inputs.proofs.arguments.PlainIndicesIterator.next.Given as goal

abbrev pub invariant-loop-i : goal.invariant-loop-i
invariant-loop-i l = l.fn.self.next ≤ l.self.next

abbrev pub decreases-loop-i : goal.decreases-loop-i
decreases-loop-i l = 18446744073709551615 - l.self.next
