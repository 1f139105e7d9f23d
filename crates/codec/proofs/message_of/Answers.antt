use Rattle.std.proofs.lemmas.Result.{err_from_is_err_and}
use Rattle.std.proofs.Common.{length, sym, ◌∙◌}
use Rattle.schema.specs.Table.{schema}
use Rattle.opening.proofs.Laws.{sized}
use Rattle.codec.proofs.Laws.{writes_nothing, written-refused, parsed-refuses, parsed-allows}
use Rattle.codec.proofs.message_of.Goals as goal

pub returns-in_err-length : goal.returns-in_err-length
returns-in_err-length c = let a = c.args in let gs = schema a.table.now in let p = err_from_is_err_and c.from_residual.result c.from_residual.ensures.1 in
    let x = writes_nothing _ _ _ (written-refused gs a.sheet.now (length a.output.now) _ _ (parsed-refuses gs (sized a.table.now c.requires.0) a.sheet.now _ (sym c.in_err-length.was ∙ c.check_sheet.ensures))) in
    (rw (p.1, p.2) x.0, x.1)

pub fit_message-requires : goal.fit_message-requires
fit_message-requires c = (c.requires.1, parsed-allows (schema c.args.table.now) (sized c.args.table.now c.requires.0) c.args.sheet.now _ (sym c.in_ok-length.was ∙ c.check_sheet.ensures))
