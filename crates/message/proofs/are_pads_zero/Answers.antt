use Rattle.std.proofs.Common.{◌∙◌, lt-ltb}
use Rattle.message.proofs.CheckOccupancy.{is-scattered, not-scattered, pads-scattered, pads-past, pads-packed}
use Rattle.message.proofs.are_pads_zero.Goals as goal

pub returns-then-taken-ge-SCATTERED : goal.returns-then-taken-ge-SCATTERED
returns-then-taken-ge-SCATTERED c = let a = c.args in c.pads_zero.ensures ∙ pads-scattered a.area a.taken a.occupied.now a.bytes.now c.requires.0 c.requires.1 _ (rw c.packed_end.ensures at c.max-start.ensures) (is-scattered _ c.if-taken-ge-SCATTERED.true)

pub returns-then-bytes-start : goal.returns-then-bytes-start
returns-then-bytes-start c = let a = c.args in lt-ltb _ _ c.if-bytes-start.true ∙ pads-past a.area a.taken a.occupied.now a.bytes.now c.requires.0 c.requires.1 _ (rw c.packed_end.ensures at c.max-start.ensures) c.if-bytes-start.true

pub returns-else-bytes-start : goal.returns-else-bytes-start
returns-else-bytes-start c = let a = c.args in c.all_zero.ensures ∙ pads-packed a.area a.taken a.occupied.now a.bytes.now c.requires.0 c.requires.1 _ (rw c.packed_end.ensures at c.max-start.ensures) (not-scattered _ c.if-taken-ge-SCATTERED.false) c.if-bytes-start.false
