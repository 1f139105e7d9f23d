use Rattle.std.proofs.Common.{refl, sym, ◌∙◌}
use Rattle.std.proofs.lemmas.Result.{err_from_is_err_and}
use Rattle.table.proofs.Laws.{also-pass, also-stop, never}
use Rattle.table.proofs.check_groups.Goals as goal

pub returns-in_err-check_widths : goal.returns-in_err-check_widths
returns-in_err-check_widths c =
    let p = err_from_is_err_and c.from_residual.result c.from_residual.ensures.1 in
    rw (p.1, p.2) (record { verdict = also-stop _ _ _ c.in_err-check_widths.ensures.verdict; placing = λ q. absurd (never q); known = λ q. absurd (never q) })

pub returns-in_err-check_supers : goal.returns-in_err-check_supers
returns-in_err-check_supers c =
    let r = c.from_residual-in_err-check_supers in
    let p = err_from_is_err_and r.result r.ensures.1 in
    let e = also-stop _ _ _ c.in_err-check_supers.ensures ∙ sym (also-pass _ _ c.in_ok-check_widths.ensures.verdict) in
    rw (p.1, p.2) (record { verdict = e; placing = λ q. absurd (never q); known = λ q. absurd (never q) })

pub returns : goal.returns
returns c =
    let w = c.in_ok-check_widths.ensures in
    record { verdict = c.check_stored.ensures ∙ sym (also-pass _ _ w.verdict ∙ also-pass _ _ c.in_ok-check_supers.ensures); placing = λ _. w.placing refl; known = λ _. w.known refl }
