use Rattle.std.proofs.Common.{sym, ◌∙◌}
use borrow.Author.Tests.{lt-leb}
use Rattle.table.proofs.Supers.{begins-short, begins-long}
use Rattle.table.proofs.begins_with.Goals as goal

pub returns-then-count-field_count : goal.returns-then-count-field_count
returns-then-count-field_count c =
    let a = c.args in
    c.same.ensures ∙ sym (begins-long a.table.now a.p a.above _ _ c.field_count.ensures.0 c.field_count-count.ensures.0 c.if-count-field_count.true)

pub returns-else-count-field_count : goal.returns-else-count-field_count
returns-else-count-field_count c =
    let a = c.args in
    rw (lt-leb _ _ c.if-count-field_count.false) (sym (begins-short a.table.now a.p a.above _ _ c.field_count.ensures.0 c.field_count-count.ensures.0 c.if-count-field_count.false))
