use Rattle.std.proofs.Common.{Ok, refl, ap, ◌∙◌}
use Rattle.std.proofs.lemmas.Result.{err_from_is_err_and}
use Rattle.settings.specs.Store.{ignored_by}
use Rattle.store.proofs.Laws.{governs, refused-setting, sound-records, unsound}
use Rattle.store.proofs.find_settings.Goals as goal

pub returns-in_err-n : goal.returns-in_err-n
returns-in_err-n c = let st = c.args.store.now in
    let p = err_from_is_err_and c.from_residual.result c.from_residual.ensures.1 in
    let u = unsound st _ c.sound_records.ensures.value _ c.in_err-n.was in
    rw (p.1, p.2, u.0) (refused-setting st _ refl u.1 c.args.customer)

pub returns : goal.returns
returns c = let st = c.args.store.now in let s = sound-records st _ c.sound_records.ensures.value _ c.in_ok-n.was in
    ap Ok (c.ignored_by.ensures ∙ ap (ignored_by st) (rw c.from.ensures at c.newest-last.ensures.0)) ∙ governs st _ s.0 s.1 c.args.customer
