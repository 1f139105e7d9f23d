use Rattle.std.proofs.Common.{refl}
use Rattle.std.proofs.lemmas.Result.{err_from_is_err_and}
use Rattle.store.proofs.Laws.{passes, refused, sound-records, unsound}
use Rattle.store.proofs.check_store.Goals as goal

pub returns-in_err-sound_records : goal.returns-in_err-sound_records
returns-in_err-sound_records c = let st = c.args.store.now in
    let p = err_from_is_err_and c.from_residual.result c.from_residual.ensures.1 in
    let u = unsound st _ c.sound_records.ensures.value _ c.in_err-sound_records.was in
    rw (p.1, p.2, u.0) (refused st _ refl u.1)

pub returns : goal.returns
returns c = let st = c.args.store.now in let s = sound-records st _ c.sound_records.ensures.value _ c.in_ok-sound_records.was in passes st _ s.0 s.1
