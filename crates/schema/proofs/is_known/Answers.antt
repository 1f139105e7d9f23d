use Rattle.std.proofs.Common.{ltb, sym, ap, ◌∙◌}
use Rattle.schema.proofs.Groups.{find-whole, known_is}
use Rattle.schema.specs.Table.{schema}
use Rattle.schema.proofs.is_known.Goals as goal

pub returns : goal.returns
returns c = let n = c.group_total-total.ensures.0 ∙ c.requires.total in sym (known_is (schema c.args.table.now) c.args.id _ (c.find.ensures.0 ∙ find-whole (schema c.args.table.now) _ c.args.id n) ∙ ap (ltb c.find.result) (sym n))
