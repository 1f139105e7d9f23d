use Rattle.std.proofs.Common.{sym, refl, ◌∙◌, arith}
use Rattle.message.proofs.CheckOccupancy.{is-scattered, not-scattered, claim-taken, claim-scattered, claim-packed, claimed-packed, claimed-scattered, claimed-first, occupied-room}
use Rattle.message.proofs.CheckPlaces.{claims-at, claim-shared, claim-free}
use Rattle.message.specs.Check.{occupancy_of}
use Rattle.message.proofs.claim.Goals as goal

pub returns-then-place-packed_end : goal.returns-then-place-packed_end
returns-then-place-packed_end c = let a = c.args in (claim-shared _ a.frame.base a.place a.count a.size (occupancy_of a.frame.area a.taken a.occupied.now) _ refl refl (claim-taken a.frame.area a.taken a.occupied.now a.place a.size c.requires.0 c.requires.1 c.requires.2 (omega (arith, c.if-place-packed_end.true, c.packed_end.ensures))), tt)

pub returns-then-taken-ge-SCATTERED : goal.returns-then-taken-ge-SCATTERED
returns-then-taken-ge-SCATTERED c = let a = c.args in let M = occupancy_of a.frame.area a.taken a.occupied.now in
    let f = claim-scattered a.frame.area a.taken a.occupied.now a.place a.size c.requires.0 c.requires.1 c.requires.2 (omega (arith, c.if-place-packed_end.false, c.packed_end.ensures)) (is-scattered _ c.if-taken-ge-SCATTERED.true) ∙ sym c.all_zero.ensures ∙ c.if-not-all_zero.false in
    let g = claimed-scattered a.frame.area a.taken a.occupied.now _ a.place a.size c.requires.0 c.requires.1 c.requires.2 (omega (arith, c.if-place-packed_end.false, c.packed_end.ensures)) (is-scattered _ c.if-taken-ge-SCATTERED.true) c.occupy.ensures in
    (claim-free _ a.frame.base a.place a.count a.size M _ f g, claims-at _ a.place a.count a.size _ M g (occupied-room a.frame.area a.taken a.occupied.now a.place a.size c.requires.0 c.requires.2))

pub returns-then-not-all_zero : goal.returns-then-not-all_zero
returns-then-not-all_zero c = let a = c.args in (claim-shared _ a.frame.base a.place a.count a.size (occupancy_of a.frame.area a.taken a.occupied.now) _ refl refl (claim-scattered a.frame.area a.taken a.occupied.now a.place a.size c.requires.0 c.requires.1 c.requires.2 (omega (arith, c.if-place-packed_end.false, c.packed_end.ensures)) (is-scattered _ c.if-taken-ge-SCATTERED.true) ∙ sym c.all_zero.ensures ∙ c.if-not-all_zero.true), tt)

pub returns-then-place-taken : goal.returns-then-place-taken
returns-then-place-taken c = let a = c.args in let M = occupancy_of a.frame.area a.taken a.occupied.now in
    let g = claimed-packed a.frame.area a.taken a.occupied.now a.place a.size c.requires.0 c.requires.1 c.requires.2 c.if-place-taken.true c.if-taken-ge-SCATTERED.false (omega (arith, c.requires.2, c.requires.3)) in
    (claim-free _ a.frame.base a.place a.count a.size M _ (claim-packed a.frame.area a.taken a.occupied.now a.place a.size c.requires.0 c.requires.1 c.requires.2 (omega (arith, c.if-place-packed_end.false, c.packed_end.ensures)) (not-scattered _ c.if-taken-ge-SCATTERED.false)) g, claims-at _ a.place a.count a.size _ M g (occupied-room a.frame.area a.taken a.occupied.now a.place a.size c.requires.0 c.requires.2))

pub returns : goal.returns
returns c = let a = c.args in let M = occupancy_of a.frame.area a.taken a.occupied.now in
    let g = claimed-first a.frame.area a.taken a.occupied.now _ _ a.place a.size c.requires.0 c.requires.1 c.requires.2 (omega (arith, c.if-place-packed_end.false, c.packed_end.ensures)) c.if-taken-ge-SCATTERED.false (c.fill.ensures.after (λ y h. h)) c.occupy-2.ensures in
    (claim-free _ a.frame.base a.place a.count a.size M _ (claim-packed a.frame.area a.taken a.occupied.now a.place a.size c.requires.0 c.requires.1 c.requires.2 (omega (arith, c.if-place-packed_end.false, c.packed_end.ensures)) (not-scattered _ c.if-taken-ge-SCATTERED.false)) g, claims-at _ a.place a.count a.size _ M g (occupied-room a.frame.area a.taken a.occupied.now a.place a.size c.requires.0 c.requires.2))
