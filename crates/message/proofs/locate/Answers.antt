use Rattle.std.proofs.Common.{◌+◌, ◌*◌, refl, ◌∙◌, arith}
use Rattle.message.specs.Check.{occupancy_of}
use Rattle.message.proofs.CheckPlaces.{lands-claim, low, high, cut, over, claims}
use Rattle.message.proofs.locate.Goals.{then-place-frame-via-then-place-frame, then-place-frame-via-else-place-frame+then-bytes-place}
use Rattle.message.proofs.locate.Goals as goal

pub returns-then-place-frame : goal.returns-then-place-frame
returns-then-place-frame c = let a = c.args in elim c.then-place-frame.branch [
  | then-place-frame-via-then-place-frame w ↦ (low _ _ a.past a.width a.bytes.now a.frame.base a.frame.area a.at (occupancy_of a.frame.area a.taken a.occupied.now) c.read_u32.result _ 0 0 c.read_u32.ensures.0 refl _ refl refl w.if-place-frame.true, tt)
  | then-place-frame-via-else-place-frame+then-bytes-place w ↦ (high _ _ a.past a.width a.bytes.now a.frame.base a.frame.area a.at (occupancy_of a.frame.area a.taken a.occupied.now) c.read_u32.result _ 0 0 c.read_u32.ensures.0 refl _ refl refl w.if-place-frame.false w.if-bytes-place.true, tt)
]

pub returns-then-bytes-place-2 : goal.returns-then-bytes-place-2
returns-then-bytes-place-2 c = let a = c.args in (cut _ _ a.past a.width a.bytes.now a.frame.base a.frame.area a.at (occupancy_of a.frame.area a.taken a.occupied.now) c.read_u32.result _ 0 0 c.read_u32.ensures.0 refl _ refl refl (omega arith) (omega arith) c.if-bytes-place-2.true, tt)

pub returns-then-bytes-place-3 : goal.returns-then-bytes-place-3
returns-then-bytes-place-3 c = let a = c.args in (over _ _ a.past a.width a.bytes.now a.frame.base a.frame.area a.at (occupancy_of a.frame.area a.taken a.occupied.now) c.read_u32.result _ c.read_u32-count.result (4 + c.read_u32-count.result * a.width) c.read_u32.ensures.0 refl (omega arith) (omega arith) c.if-bytes-place-2.false c.read_u32-count.ensures.0 refl _ c.from.ensures refl c.if-bytes-place-3.true, tt)

pub returns : goal.returns
returns c = let a = c.args in (
  c.claim.ensures.0 ∙ claims _ (λ s. a.occupied.now) a.past a.width a.bytes.now a.frame.base a.frame.area a.at (occupancy_of a.frame.area a.taken a.occupied.now) c.read_u32.result _ c.read_u32-count.result (4 + c.read_u32-count.result * a.width) c.read_u32.ensures.0 refl (omega arith) (omega arith) c.if-bytes-place-2.false c.read_u32-count.ensures.0 refl c.if-bytes-place-3.false,
  lands-claim _ a.width a.bytes.now _ c.read_u32-count.result _ _ c.claim.ensures.1 c.read_u32-count.ensures.1 refl c.if-bytes-place-3.false,
)
