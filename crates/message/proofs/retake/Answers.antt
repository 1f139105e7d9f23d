use Rattle.std.proofs.Common.{◌∙◌}
use Rattle.message.proofs.CheckOccupancy.{is-scattered, not-scattered}
use Rattle.message.proofs.retake.Goals as goal

pub returns-then-taken-ge-SCATTERED : goal.returns-then-taken-ge-SCATTERED
returns-then-taken-ge-SCATTERED c = c.occupy.ensures ∙ rw (is-scattered _ c.if-taken-ge-SCATTERED.true)

pub returns-else-taken-ge-SCATTERED : goal.returns-else-taken-ge-SCATTERED
returns-else-taken-ge-SCATTERED c = rw (not-scattered _ c.if-taken-ge-SCATTERED.false)
