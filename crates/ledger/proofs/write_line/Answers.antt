use Rattle.ledger.proofs.Laws.{line-written}
use Rattle.ledger.proofs.write_line.Goals as goal

pub returns : goal.returns
returns c = line-written c.args.fill _ c.requires.1 c.args.barcode.now c.requires.0 _ _ _ _ _ _ _ _ c.write_barcode.ensures c.write_u32.ensures c.write_u32-2.ensures c.write_u32-3.ensures c.fill.ensures
