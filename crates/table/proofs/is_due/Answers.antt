use Rattle.std.proofs.Common.{sym, ◌∙◌, lt-ltb, le-ltb, arith, drop}
use Rattle.std.proofs.lemmas.Grind.{common_steps}
use Rattle.table.specs.Index.{due_of}
use Rattle.table.proofs.Records.{due-symbol, due-field, due-enum, due-group}
use Rattle.table.proofs.is_due.Goals.{then-shape-eq0, else-shape-eq0}
use Rattle.table.proofs.is_due.Goals as goal

pub returns-then-shape-gt0 : goal.returns-then-shape-gt0
returns-then-shape-gt0 c =
    let d = due_of c.args.shape in
    let t = drop c.args.p c.args.table.now in
    let owed = c.if-shape-gt0.true in
    elim c.if-shape-eq0.branch [
      | then-shape-eq0 w ↦ rw w.mark-is at c.has_mark.ensures ∙ sym (due-symbol d t owed w.if-shape-eq0.true)
      | else-shape-eq0 w ↦ rw w.mark-is at c.has_mark.ensures ∙ sym (due-field d t owed w.if-shape-eq0.false)
    ]

pub returns-then-shape-lt64 : goal.returns-then-shape-lt64
returns-then-shape-lt64 c =
    let d = due_of c.args.shape in
    rw (due-enum d _ c.if-shape-gt0.false (sym c.is_enum.ensures ∙ c.if-is_enum.true), lt-ltb _ _ c.if-shape-lt64.true) (grind (arith, common_steps))

pub returns-else-shape-lt64 : goal.returns-else-shape-lt64
returns-else-shape-lt64 c =
    let d = due_of c.args.shape in
    rw (due-enum d _ c.if-shape-gt0.false (sym c.is_enum.ensures ∙ c.if-is_enum.true), le-ltb _ _ c.if-shape-lt64.false)

pub returns-then-shape-lt64-2 : goal.returns-then-shape-lt64-2
returns-then-shape-lt64-2 c =
    let d = due_of c.args.shape in
    let g = sym c.is_group.ensures ∙ c.if-is_group.true in
    rw (due-group d _ c.if-shape-gt0.false (sym c.is_enum.ensures ∙ c.if-is_enum.false), g, lt-ltb _ _ c.if-shape-lt64-2.true, c.field_count.ensures.0)

pub returns-else-shape-lt64-2 : goal.returns-else-shape-lt64-2
returns-else-shape-lt64-2 c =
    let d = due_of c.args.shape in
    let g = sym c.is_group.ensures ∙ c.if-is_group.true in
    rw (due-group d _ c.if-shape-gt0.false (sym c.is_enum.ensures ∙ c.if-is_enum.false), g, le-ltb _ _ c.if-shape-lt64-2.false)

pub returns-else-is_group : goal.returns-else-is_group
returns-else-is_group c =
    let d = due_of c.args.shape in
    rw (due-group d _ c.if-shape-gt0.false (sym c.is_enum.ensures ∙ c.if-is_enum.false), ← c.is_group.ensures, c.if-is_group.false)
