use Rattle.std.proofs.Common.{length, sym, ap, ◌∙◌}
use Rattle.schema.specs.Faults.{fault_at}
use Rattle.sheet.specs.Written.{Writing}
use Rattle.codec.specs.Answers.{written_of, room_after}
use Rattle.codec.proofs.Laws.{writes_nothing, message-20, message-under}
use Rattle.codec.proofs.sheet_to_message.Goals as goal

pub returns-in_default : goal.returns-in_default
returns-in_default c =
    let x = writes_nothing _ (fault_at 20 0) _ (message-20 c.args.table.now _ (sym c.in_default.is ∙ c.index_table.ensures.verdict) c.args.sheet.now (length c.args.output.now)) in
    record { value = x.0; output_after = x.1 }

pub message_of-requires : goal.message_of-requires
message_of-requires c = let C = c.index_table.ensures in (sym C.verdict ∙ c.in-Ok.is, C.layout c.in-Ok.is)

pub returns : goal.returns
returns c =
    let a = c.args in
    let e = message-under a.table.now (sym c.index_table.ensures.verdict ∙ c.in-Ok.is) a.sheet.now (length a.output.now) in
    let x = c.message_of.ensures in
    record { value = x.0 ∙ sym (ap written_of e); output_after = x.1 ∙ sym (ap (λ (y : Writing). room_after y a.output.now) e) }
