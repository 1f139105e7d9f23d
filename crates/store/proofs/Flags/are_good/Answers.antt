use Rattle.std.proofs.Common.{◌∙◌, inl, inr, arith}
use borrow.Author.Tests.{lt-leb}
use Rattle.store.proofs.Laws.{flags-absent, flags-pads, flags-unused}
use Rattle.store.proofs.Flags.are_good.Goals as goal
use Rattle.store.proofs.Flags.are_good.Goals.{then-self-le1, else-self-le1}

pub returns-then-self-le1-2 : goal.returns-then-self-le1-2
returns-then-self-le1-2 c = let h = c.if-self-le1-2.true in flags-unused _ _ _ h.0 h.1

pub returns-else-self-le1-2 : goal.returns-else-self-le1-2
returns-else-self-le1-2 c = elim c.if-self-le1.branch [
  | then-self-le1 w ↦ elim c.if-self-le1-2.either [ inl h ↦ w.t-3-is ∙ lt-leb _ _ h.1 ∙ flags-pads _ _ _ h.0 h.1 | inr h ↦ absurd (omega (arith, h, w.if-self-le1.true)) ]
  | else-self-le1 w ↦ let h = w.if-self-le1.false in w.t-3-is ∙ lt-leb _ _ h ∙ flags-absent _ _ _ h
]
