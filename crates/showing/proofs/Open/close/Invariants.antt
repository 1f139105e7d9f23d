use Rattle.std.proofs.Common.{◌≡◌}
use Rattle.showing.specs.Show.{closed}
use Rattle.showing.proofs.Open.close.Given as goal

abbrev pub invariant-loop-self : goal.invariant-loop-self
invariant-loop-self l = (l.self.frames ≡ l.fn.self.frames) × (closed l.fn.self.frames l.fn.self.depth ≡ closed l.self.frames l.self.depth)

abbrev pub decreases-loop-self : goal.decreases-loop-self
decreases-loop-self l = l.self.depth
