use Rattle.std.proofs.Common.{true, false, sym, ◌∙◌, arith, drop}
use Rattle.table.specs.Index.{due_of}
use Rattle.table.proofs.Records.{group-first, group-next}
use Rattle.table.proofs.is_group.Goals.{then-shape, else-shape}
use Rattle.table.proofs.is_group.Goals as goal

pub returns-then-shape-gt0 : goal.returns-then-shape-gt0
returns-then-shape-gt0 c =
    let d = due_of c.args.shape in
    let t = drop c.args.p c.args.table.now in
    elim c.if-shape.branch [
      | then-shape w ↦ rw w.mark-is at c.has_mark.ensures ∙ sym (group-next d t (λ z. omega (arith, c.if-shape-gt0.true, z)) true w.if-shape.true)
      | else-shape w ↦ rw w.mark-is at c.has_mark.ensures ∙ sym (group-next d t (λ z. omega (arith, c.if-shape-gt0.true, z)) false w.if-shape.false)
    ]

pub returns : goal.returns
returns c = c.has_group_mark.ensures ∙ sym (group-first (due_of c.args.shape) (drop c.args.p c.args.table.now) (omega (arith, c.if-shape-gt0.false)))
