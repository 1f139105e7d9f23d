use mathlib.Core.Path.{refl}
use Rattle.writing.specs.Write.{group_of, place_of, Scoped}
use Rattle.writing.proofs.Groups.{sheet-fits, sheet-stands}
use Rattle.writing.proofs.write_message.Goals as goal

pub write_group-ends-requires : goal.write_group-ends-requires
unfolding group_of place_of Scoped
write_group-ends-requires c = let a = c.args in let R = c.requires in (R.0, (refl, refl), sheet-fits a.table.now a.sheet.now R.1.0 R.1.1 a.output.now R.1.2)

pub returns : goal.returns
unfolding group_of place_of
returns c = let a = c.args in let t = a.table.now in let s = a.sheet.now in let o = a.output.now in
    λ X e. sheet-stands t s X e o _ _ _ c.write_group-ends.ensures
