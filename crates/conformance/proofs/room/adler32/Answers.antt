use mathlib.Core.Path.{sym, ◌∙◌}
use native.Mathlib.Omega.{arith}
use Rattle.conformance.proofs.Laws.{adler-turn, adler-end}
use borrow.Author.Rules.{rules}
use Rattle.conformance.proofs.room.adler32.Goals as goal

pub loop-byte-preserved : goal.loop-byte-preserved
loop-byte-preserved c = (search rules, search rules, c.loop-byte.invariant.2 ∙ adler-turn c.loop-byte.a c.loop-byte.b c.loop-byte.byte-index c.args.room.now c.from.result c.from.ensures c.loop-byte-test.true)

pub returns : goal.returns
returns c = sym (c.loop-byte.invariant.2 ∙ adler-end c.loop-byte.a c.loop-byte.b c.loop-byte.byte-index c.args.room.now (omega arith))
