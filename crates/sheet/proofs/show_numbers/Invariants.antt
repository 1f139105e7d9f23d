use Rattle.schema.specs.declared.FieldKind.TheVariants.{Number}
use Rattle.sheet.specs.Show.{item_of}
use Rattle.sheet.proofs.Loops.{ItemsLeft}
use Rattle.sheet.proofs.show_numbers.Given as goal

abbrev pub invariant-loop : goal.invariant-loop
invariant-loop l = ItemsLeft l.bytes l.width (item_of l.table l.levels l.depth (Number l.fn.tested)) l.total l.at l.pos l.initial.out l.counter l.place l.next l.out
