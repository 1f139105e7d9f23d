use Rattle.std.proofs.Math.Seq.{take-length}
use Rattle.ledger.proofs.Laws.{barcode-written}
use Rattle.ledger.proofs.write_barcode.Goals as goal

pub returns : goal.returns
returns c = let e = c.copy.ensures in barcode-written c.args.fill _ c.requires.1 c.args.barcode.now c.requires.0 _ _ _ _ c.write_mark.ensures c.fill.ensures (rw take-length at e) c.fill-2.ensures
