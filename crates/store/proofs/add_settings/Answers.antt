use Rattle.std.proofs.Common.{refl, sym, ◌∙◌, arith}
use Rattle.std.proofs.lemmas.Result.{err_from_is_err_and}
use Rattle.store.proofs.Laws.{add-bad, add-full, add_done, sound-records, unsound}
use Rattle.store.proofs.add_settings.Goals as goal

pub returns-in_err-n : goal.returns-in_err-n
returns-in_err-n c = let a = c.args in let st = a.store.now in
    let p = err_from_is_err_and c.from_residual.result c.from_residual.ensures.1 in
    let u = unsound st _ c.sound_records.ensures.value _ c.in_err-n.was in
    let d = add-bad st a.customer a.version a.absent a.pads a.unused _ refl (rw u.1) in
    record { value = rw (p.1, p.2, u.0) d.0; store_after = d.1 }

pub returns-then-not-may_follow : goal.returns-then-not-may_follow
returns-then-not-may_follow c = let a = c.args in
    let s = sound-records a.store.now _ c.sound_records.ensures.value _ c.in_ok-n.was in
    let d = add-bad a.store.now a.customer a.version a.absent a.pads a.unused _ s.0 (rw s.1 (sym c.may_follow.ensures ∙ c.if-not-may_follow.true)) in
    record { value = rw c.damaged.ensures d.0; store_after = d.1 }

pub returns-then-store-n-lt9 : goal.returns-then-store-n-lt9
returns-then-store-n-lt9 c = let a = c.args in
    let s = sound-records a.store.now _ c.sound_records.ensures.value _ c.in_ok-n.was in
    let d = add-full a.store.now a.customer a.version a.absent a.pads a.unused _ s.0 (rw s.1 (sym c.may_follow.ensures ∙ c.if-not-may_follow.false)) (omega (arith, c.if-store-n-lt9.true, c.in_ok-n.ensures.room)) in
    record { value = d.0; store_after = d.1 }

pub returns : goal.returns
returns c = let a = c.args in
    let s = sound-records a.store.now _ c.sound_records.ensures.value _ c.in_ok-n.was in
    let d = add_done a.store.now a.customer a.version a.absent a.pads a.unused _ s.0 (rw s.1 (sym c.may_follow.ensures ∙ c.if-not-may_follow.false)) (omega (arith, c.if-store-n-lt9.false, c.in_ok-n.ensures.room)) in
    record { value = d.0; store_after = c.write_record.ensures ∙ d.1 }
