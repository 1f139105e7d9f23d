use Rattle.parsing.proofs.Scopes.{open-whole, open-fields}
use Rattle.parsing.proofs.open_group.Goals as goal

pub returns-in-Whole : goal.returns-in-Whole
returns-in-Whole c = let a = c.args in open-whole a.table.now a.sheet.now a.levels a.place a.before a.scope _ _ c.in-Whole.is c.open_dynamic.ensures

pub returns-in-Fields : goal.returns-in-Fields
returns-in-Fields c = let a = c.args in open-fields a.table.now a.sheet.now a.levels a.place a.before a.scope _ c.in-Fields.is c.requires.1
