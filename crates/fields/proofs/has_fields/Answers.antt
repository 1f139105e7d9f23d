use Rattle.std.proofs.Common.{sym, ◌∙◌}
use Rattle.fields.proofs.Laws.{accepted, has-none, has-accepted}
use Rattle.fields.proofs.has_fields.Goals as goal

pub returns-then-is_ok : goal.returns-then-is_ok
returns-then-is_ok c = let v = c.index_table.ensures.verdict in
    c.has_fields_under.ensures ∙ sym (has-accepted _ (sym v ∙ accepted _ (sym c.is_ok.ensures.value ∙ c.if-is_ok.true)) _ _)

pub returns-else-is_ok : goal.returns-else-is_ok
returns-else-is_ok c = c.if-is_ok.false ∙ sym (has-none _ _ c.index_table.ensures.verdict (sym c.is_ok.ensures.value ∙ c.if-is_ok.false) c.args.id c.args.signature.now)
