use mathlib.Core.Path.{sym, ◌∙◌}
use borrow.Author.Tests.{eq-eqb, ne_eqb}
use native.Mathlib.Omega.{arith}
use Rattle.wire.proofs.Turns.{same-two}
use Rattle.wire.proofs.has_mark.Goals as goal

pub returns-then-s-at : goal.returns-then-s-at
returns-then-s-at c = sym (same-two c.args.at c.args.s.now c.args.mark c.requires (omega arith) ∙ rw (eq-eqb _ _ c.if-s-at.true))

pub returns-else-s-at : goal.returns-else-s-at
returns-else-s-at c = sym (same-two c.args.at c.args.s.now c.args.mark c.requires (omega arith) ∙ rw (ne_eqb _ _ c.if-s-at.false))
