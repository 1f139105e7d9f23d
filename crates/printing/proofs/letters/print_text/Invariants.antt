use Rattle.std.proofs.Common.{length}
use Rattle.printing.proofs.letters.print_text.Given as goal

abbrev pub decreases-loop-left : goal.decreases-loop-left
decreases-loop-left l = length l.left
