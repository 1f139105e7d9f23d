use Rattle.std.proofs.lemmas.Result.{err_from_is_err_and}
use Rattle.std.proofs.Common.{[], sym, ◌∙◌}
use Rattle.codec.proofs.Laws.{front_read, front-refused}
use Rattle.codec.proofs.read_front.Goals as goal

pub returns-in_err-open_message : goal.returns-in_err-open_message
returns-in_err-open_message c = let o = c.open_message.ensures in let p = err_from_is_err_and c.from_residual.result c.from_residual.ensures.1 in
    record { value = rw (p.1, p.2) (sym (front-refused _ _ _ _ _ _ _ (o.opened.refuses _ c.in_err-open_message.was))); scratch_after = o.scratch_after }

pub front_of-requires : goal.front_of-requires
front_of-requires c = let K = c.open_message.ensures.opened.opens _ c.in_ok-open_message.was in (K.layout, (K.sheet, [], K.walks))

pub returns : goal.returns
returns c = let o = c.open_message.ensures in let K = o.opened.opens _ c.in_ok-open_message.was in record { value = c.front_of.ensures ∙ sym (front_read _ _ _ _ _ _ _ K.table K.means); scratch_after = o.scratch_after }
