use Rattle.std.proofs.Common.{Ok, refl, ap, ◌∙◌}
use Rattle.std.proofs.lemmas.Result.{err_from_is_err_and}
use Rattle.settings.specs.Store.{version_by}
use Rattle.store.proofs.Laws.{has-version, refused-version, sound-records, unsound}
use Rattle.store.proofs.read_settings.Goals as goal

pub returns-in_err-n : goal.returns-in_err-n
returns-in_err-n c = let st = c.args.store.now in
    let p = err_from_is_err_and c.from_residual.result c.from_residual.ensures.1 in
    let u = unsound st _ c.sound_records.ensures.value _ c.in_err-n.was in
    rw (p.1, p.2, u.0) (refused-version st _ refl u.1 c.args.customer c.args.version)

pub returns-in_default : goal.returns-in_default
unfolding version_by
returns-in_default c = let st = c.args.store.now in let s = sound-records st _ c.sound_records.ensures.value _ c.in_ok-n.was in
    ap (version_by st) (rw (c.in_default.is, c.from.ensures, c.from-2.ensures) at c.versioned.ensures.0) ∙ has-version st _ s.0 s.1 c.args.customer c.args.version

pub returns : goal.returns
unfolding version_by
returns c = let st = c.args.store.now in let s = sound-records st _ c.sound_records.ensures.value _ c.in_ok-n.was in
    ap Ok c.ignored_of.ensures ∙ ap (version_by st) (rw (c.in-Some.is, c.from.ensures, c.from-2.ensures) at c.versioned.ensures.0) ∙ has-version st _ s.0 s.1 c.args.customer c.args.version
