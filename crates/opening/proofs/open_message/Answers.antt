use Rattle.std.proofs.Common.{length, sym, ◌∙◌}
use Rattle.schema.specs.Faults.{fault_at}
use Rattle.opening.specs.Opening.{under}
use Rattle.opening.proofs.Laws.{opens-nothing, reading-20, scratch-20}
use Rattle.opening.proofs.open_message.Goals as goal

pub returns-in_default : goal.returns-in_default
returns-in_default c = let a = c.args in
    let e = sym c.in_default.is ∙ c.index_table.ensures.verdict in record {
      opened = opens-nothing _ _ _ _ (fault_at 20 0) (reading-20 a.table.now a.store.now a.message.now a.scratch.now _ e (under a.store.now a.customer (length a.scratch.now)));
      scratch_after = sym (scratch-20 a.table.now a.store.now a.message.now a.scratch.now _ e);
    }
