use mathlib.Core.Path.{sym, ◌∙◌}
use native.Mathlib.Omega.{arith}
use lib.ListN.{length}
use Rattle.conformance.proofs.Laws.{fill-turn, fill_end}
use Rattle.conformance.proofs.room.fill.Goals as goal

pub loop-i-preserved : goal.loop-i-preserved
loop-i-preserved c = c.loop-i.invariant ∙ fill-turn (length c.args.room.now) c.loop-i.i c.loop-i.room (omega arith) (omega arith)

pub returns : goal.returns
returns c = sym (c.loop-i.invariant ∙ fill_end (length c.args.room.now) c.loop-i.i c.loop-i.room (omega arith))
