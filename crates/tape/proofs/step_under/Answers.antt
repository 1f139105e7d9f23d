use Rattle.std.proofs.Common.{length, sym, ◌∙◌}
use Rattle.opening.specs.Opening.{under}
use Rattle.opening.proofs.Laws.{opened-verdict}
use Rattle.tape.proofs.Laws.{no_end, an-end, step_cut, step-goes, scratch-cut, scratch-goes}
use Rattle.tape.proofs.step_under.Goals as goal

pub returns-in_default : goal.returns-in_default
returns-in_default c = let a = c.args in let w = no_end a.tape.now a.at (sym c.in_default.is ∙ c.end_of.ensures.value) in record {
  value = c.last.ensures ∙ sym (step_cut _ _ _ _ c.requires.1 (sym c.requires.0.verdict) w);
  scratch_after = sym (scratch-cut a.table.now a.store.now _ _ _ w);
}

pub returns : goal.returns
returns c = let a = c.args in let e = an-end a.tape.now a.at _ (sym c.in-Some.is ∙ c.end_of.ensures.value) in record {
  value = step-goes a.table.now a.tape.now a.at (under a.store.now a.customer (length a.scratch.now)) _ e _ (sym c.requires.0.verdict) (c.and.ensures ∙ opened-verdict _ _ _ _ _ c.open_under-opened.ensures.opened);
  scratch_after = c.open_under-opened.ensures.scratch_after ∙ sym (scratch-goes a.table.now a.store.now a.tape.now a.at a.scratch.now _ e);
}
