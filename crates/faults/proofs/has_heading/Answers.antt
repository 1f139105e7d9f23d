use mathlib.Core.Path.{sym, ap, ◌∙◌}
use mathlib.Core.List.{List}
use Prim.Native.Nat.{ℕ}
use native.Mathlib.Omega.{arith}
use lib.Seq.{take_all}
use Rattle.wire.specs.Bytes.{part, same}
use Rattle.faults.proofs.Lines.{no-heading}
use Rattle.faults.proofs.has_heading.Goals as goal

pub returns-then-text-at-lt3 : goal.returns-then-text-at-lt3
returns-then-text-at-lt3 c = sym (no-heading c.args.text.now c.args.at c.args.number (omega arith) c.if-text-at-lt3.true)

pub returns : goal.returns
returns c = c.same.ensures ∙ ap (λ (x : List ℕ). same (part 3 c.args.at c.args.text.now) x) (take_all 3 _ (omega arith) ∙ c.heading-due.ensures)
