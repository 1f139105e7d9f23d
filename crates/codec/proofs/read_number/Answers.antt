use Rattle.std.proofs.lemmas.Result.{err_from_is_err_and}
use Rattle.std.proofs.Common.{[], sym, ◌∙◌}
use Rattle.codec.proofs.Laws.{number_read, number-refused}
use Rattle.codec.proofs.read_number.Goals as goal

pub returns-in_err-open_message : goal.returns-in_err-open_message
returns-in_err-open_message c = let o = c.open_message.ensures in let p = err_from_is_err_and c.from_residual.result c.from_residual.ensures.1 in
    record { value = rw (p.1, p.2) (sym (number-refused _ _ _ _ _ _ _ (o.opened.refuses _ c.in_err-open_message.was))); scratch_after = o.scratch_after }

pub read_number-requires : goal.read_number-requires
read_number-requires c = let K = c.open_message.ensures.opened.opens _ c.in_ok-open_message.was in (K.layout, (K.sheet, [], K.walks))

pub returns : goal.returns
returns c = let o = c.open_message.ensures in record { value = c.read_number.ensures ∙ sym (number_read _ _ _ _ _ _ _ (o.opened.opens _ c.in_ok-open_message.was).means); scratch_after = o.scratch_after }
