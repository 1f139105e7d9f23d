use Rattle.store.proofs.Laws.{record-written}
use Rattle.store.proofs.write_record.Goals as goal

pub returns : goal.returns
returns c = let a = c.args in
    record-written a.at a.customer a.version a.flags.absent a.flags.pads a.flags.unused a.store.now _ _ _ _ c.requires c.write_mark.ensures
    (rw c.from.ensures at c.write_u16.ensures) (rw c.from-2.ensures at c.write_u16-2.ensures) c.write_flags.ensures
