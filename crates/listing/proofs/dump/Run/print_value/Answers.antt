use Rattle.std.proofs.Common.{arith, length-append, length-drop}
use Rattle.std.proofs.lemmas.List.{length-take}
use Rattle.printing.proofs.Widths.{at_most_nine}
use Rattle.listing.proofs.dump.Run.print_value.Goals as goal

pub number_at-requires : goal.number_at-requires
number_at-requires c = simp (length-append, length-drop) (omega (arith, at_most_nine c.type_of-number.result, simp length-take at c.copy_from_slice.auto.self))
