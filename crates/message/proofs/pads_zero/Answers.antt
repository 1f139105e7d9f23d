use Rattle.std.proofs.Common.{sym, ◌∙◌}
use Rattle.message.proofs.CheckPlaces.{zero_turn, zero-end}
use Rattle.message.proofs.pads_zero.Goals as goal

pub loop-i-preserved : goal.loop-i-preserved
loop-i-preserved c = let a = c.args in c.loop-i.invariant ∙ zero_turn a.occupied.now a.bytes.now c.requires c.loop-i.i c.loop-i.zero c.loop-i-test.true ∙ rw (← c.is_clean-zero.ensures)

pub returns : goal.returns
returns c = let a = c.args in sym (c.loop-i.invariant ∙ zero-end a.occupied.now a.bytes.now c.requires c.loop-i.i c.loop-i.zero c.loop-i-test.false)
