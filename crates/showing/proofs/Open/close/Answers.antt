use Rattle.std.proofs.Common.{◌≡◌, ◌∙◌, true, false}
use Rattle.showing.specs.Show.{is_done, frame_at}
use Rattle.showing.proofs.Closed.{closed_none, closed-open, closed-done, closing}
use Rattle.showing.proofs.Open.close.Goals as goal

pub loop-self-preserved : goal.loop-self-preserved
loop-self-preserved c =
    let done : is_done (frame_at c.loop-self.self.frames c.loop-self.self.depth) ≡ true = cc (c.top.ensures, c.is_done.ensures, c.if-is_done.true) in
    (c.loop-self.invariant.0, c.loop-self.invariant.1 ∙ closed-done _ _ c.loop-self-test.true done)

pub returns-else-is_done : goal.returns-else-is_done
returns-else-is_done c =
    let rest : is_done (frame_at c.loop-self.self.frames c.loop-self.self.depth) ≡ false = cc (c.top.ensures, c.is_done.ensures, c.if-is_done.false) in
    closing c.loop-self.self _ _ c.loop-self.invariant.0 (c.loop-self.invariant.1 ∙ closed-open _ _ rest)

pub returns-after-loop-self : goal.returns-after-loop-self
returns-after-loop-self c = closing c.loop-self.self _ _ c.loop-self.invariant.0 (c.loop-self.invariant.1 ∙ closed_none _ _ c.loop-self-test.false)
