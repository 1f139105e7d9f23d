use Rattle.std.proofs.Common.{refl, sym, ◌∙◌}
use Rattle.std.proofs.lemmas.Result.{err_from_is_err_and}
use Rattle.schema.specs.Faults.{fault_at}
use Rattle.opening.proofs.Laws.{opens-nothing, reading-23, scratch-23, reading-21, scratch-21, reading-50, scratch-50, opened as opened_by, scratch-cleared}
use Rattle.opening.proofs.open_under.Goals as goal

pub returns-then-message-gt65536 : goal.returns-then-message-gt65536
returns-then-message-gt65536 c = let a = c.args in record {
  opened = opens-nothing _ _ _ _ (fault_at 23 0) (reading-23 a.table.now a.store.now a.customer a.message.now a.scratch.now c.requires.verdict c.if-message-gt65536.true);
  scratch_after = sym (scratch-23 a.table.now a.store.now a.customer a.message.now a.scratch.now c.requires.verdict c.if-message-gt65536.true);
}

pub returns-then-scratch-message : goal.returns-then-scratch-message
returns-then-scratch-message c = let a = c.args in record {
  opened = opens-nothing _ _ _ _ (fault_at 21 0) (reading-21 a.table.now a.store.now a.customer a.message.now a.scratch.now c.requires.verdict c.if-message-gt65536.false c.if-scratch-message.true);
  scratch_after = sym (scratch-21 a.table.now a.store.now a.customer a.message.now a.scratch.now c.requires.verdict c.if-message-gt65536.false c.if-scratch-message.true);
}

pub returns-in_err-ignored : goal.returns-in_err-ignored
returns-in_err-ignored c =
    let a = c.args in
    let p = err_from_is_err_and c.from_residual.result c.from_residual.ensures.1 in
    let f = sym c.in_err-ignored.was ∙ c.find_settings.ensures in record {
      opened = rw (p.1, p.2) (opens-nothing _ _ _ _ _ (reading-50 a.table.now a.store.now a.customer a.message.now a.scratch.now c.requires.verdict c.if-message-gt65536.false c.if-scratch-message.false _ f));
      scratch_after = sym (scratch-50 a.table.now a.store.now a.customer a.message.now a.scratch.now c.requires.verdict c.if-message-gt65536.false c.if-scratch-message.false _ f);
    }

pub check-requires : goal.check-requires
check-requires c = (c.requires.layout refl, c.if-scratch-message.false, c.if-message-gt65536.false)

pub returns : goal.returns
returns c = let a = c.args in let f = sym c.in_ok-ignored.was ∙ c.find_settings.ensures in record {
  opened = opened_by a.table.now a.store.now a.customer a.message.now a.scratch.now c.requires.verdict c.if-message-gt65536.false c.if-scratch-message.false _ f _ (c.requires.layout refl) _ c.check.ensures.result_value;
  scratch_after = c.check.ensures.scratch_after ∙ sym (scratch-cleared a.table.now a.store.now a.customer a.message.now a.scratch.now c.requires.verdict c.if-message-gt65536.false c.if-scratch-message.false _ f);
}
