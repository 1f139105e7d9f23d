use Rattle.std.proofs.lemmas.Result.{err_from_is_err_and}
use Rattle.std.proofs.Common.{Ok, [], sym, ap, ◌∙◌, arith}
use Rattle.reading.proofs.Found.{message-long}
use Rattle.codec.proofs.Laws.{type-read, type-refused}
use Rattle.codec.proofs.message_type.Goals as goal

pub returns-in_err-open_message : goal.returns-in_err-open_message
returns-in_err-open_message c = let o = c.open_message.ensures in let p = err_from_is_err_and c.from_residual.result c.from_residual.ensures.1 in
    record { value = rw (p.1, p.2) (sym (type-refused _ _ _ _ _ (o.opened.refuses _ c.in_err-open_message.was))); scratch_after = o.scratch_after }

pub read_u64-requires : goal.read_u64-requires
read_u64-requires c = let K = c.open_message.ensures.opened.opens _ c.in_ok-open_message.was in let l = message-long _ _ _ _ K.layout (K.sheet, [], K.walks) in omega (arith, l)

pub returns : goal.returns
returns c = let o = c.open_message.ensures in record { value = ap Ok c.read_u64.ensures ∙ sym (type-read _ _ _ _ _ (o.opened.opens _ c.in_ok-open_message.was).means); scratch_after = o.scratch_after }
