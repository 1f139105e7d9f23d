use Rattle.std.proofs.Common.{sym, ◌∙◌, arith}
use Rattle.tape.proofs.Laws.{cut_short, step-ended, step-20, scratch-cut, scratch-refused}
use Rattle.tape.proofs.step_at.Goals as goal

pub returns-then-tape-at : goal.returns-then-tape-at
returns-then-tape-at c = let a = c.args in record {
  value = sym (step-ended a.table.now a.tape.now a.at _ (omega arith));
  scratch_after = sym (scratch-cut a.table.now a.store.now a.tape.now a.at _ (cut_short _ _ (omega arith)));
}

pub returns-in_default : goal.returns-in_default
returns-in_default c = let a = c.args in let e = sym c.in_default.is ∙ c.index_table.ensures.verdict in record {
  value = c.last.ensures ∙ sym (step-20 a.table.now a.tape.now a.at _ _ (omega arith) e);
  scratch_after = sym (scratch-refused a.table.now a.store.now a.tape.now a.at _ _ e);
}
