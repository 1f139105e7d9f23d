use Rattle.std.proofs.Common.{[], length, arith}
use Rattle.schema.specs.Faults.{fault_at}
use Rattle.codec.proofs.Laws.{writes_nothing, writes-it, sheet-46, sheet-written}
use Rattle.codec.proofs.sheet_of.Goals as goal

pub returns-then-sheet-size : goal.returns-then-sheet-size
returns-then-sheet-size c = λ u K. writes_nothing _ (fault_at 46 0) _ (sheet-46 c.args.table.now c.args.message.now u (length c.args.sheet.now) K.sheet K.means (omega (arith, K.long, c.if-sheet-size.true)))

pub write_sheet-requires : goal.write_sheet-requires
write_sheet-requires c = let K = c.requires.1 in (K.layout, K.small, (K.sheet, [], K.walks, omega (arith, K.long, c.if-sheet-size.false)))

pub returns : goal.returns
returns c = λ u K. let w = c.write_sheet.ensures K.sheet [] K.walks in writes-it _ K.sheet _ _ _ (sheet-written c.args.table.now c.args.message.now u (length c.args.sheet.now) K.sheet K.means (omega (arith, K.long, c.if-sheet-size.false))) w.1 w.0
