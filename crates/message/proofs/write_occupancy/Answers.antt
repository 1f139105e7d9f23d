use Rattle.std.proofs.Common.{◌≡◌, cond, length, replicate, ◌∙◌}
use Rattle.message.specs.Check.{scattered}
use Rattle.message.proofs.CheckOccupancy.{is-scattered, not-scattered, written-some, written_none}
use Rattle.message.proofs.write_occupancy.Goals.{Joined-taken-lt-SCATTERED, then-taken-lt-SCATTERED, else-taken-lt-SCATTERED}
use Rattle.message.proofs.write_occupancy.Goals as goal

started : (c : Joined-taken-lt-SCATTERED) → c.if-taken-lt-SCATTERED.occupied ≡ cond (scattered c.args.taken) c.args.occupied.now (replicate (length c.args.occupied.now) 0)
started c = elim c.if-taken-lt-SCATTERED.branch [
  | then-taken-lt-SCATTERED w ↦ w.occupied-is ∙ w.fill.ensures.after (λ y h. h) ∙ rw (not-scattered _ w.if-taken-lt-SCATTERED.true)
  | else-taken-lt-SCATTERED w ↦ w.occupied-is ∙ rw (is-scattered _ w.if-taken-lt-SCATTERED.false)
]

pub returns-then-area-end : goal.returns-then-area-end
returns-then-area-end c = let a = c.args in
    written-some a.area a.taken a.occupied.now _ (started (goal.at.returns-then-area-end c).Joined-taken-lt-SCATTERED) _ (rw c.packed_end.ensures at c.min-end.ensures) _ c.occupy.ensures

pub returns-else-area-end : goal.returns-else-area-end
returns-else-area-end c = let a = c.args in
    written_none a.area a.taken a.occupied.now _ (started (goal.at.returns-else-area-end c).Joined-taken-lt-SCATTERED) _ (rw c.packed_end.ensures at c.min-end.ensures) c.if-area-end.false
