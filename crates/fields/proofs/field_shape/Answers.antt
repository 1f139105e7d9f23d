use Rattle.std.proofs.Common.{sym, ◌∙◌}
use Rattle.fields.proofs.Laws.{not_refused, shape-20, shape-accepted}
use Rattle.fields.proofs.field_shape.Goals as goal

pub returns-then-is_err : goal.returns-then-is_err
returns-then-is_err c = rw c.refusal.ensures (sym (shape-20 _ _ c.index_table.ensures.verdict (sym c.is_err.ensures.value ∙ c.if-is_err.true) c.args.id c.args.field))

pub returns : goal.returns
returns c = let v = c.index_table.ensures.verdict in
    c.shape_under.ensures ∙ sym (shape-accepted _ (sym v ∙ not_refused _ (sym c.is_err.ensures.value ∙ c.if-is_err.false)) _ _)
