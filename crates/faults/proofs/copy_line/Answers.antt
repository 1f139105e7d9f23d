use mathlib.Core.Path.{sym, ap, ◌∙◌}
use native.Mathlib.Omega.{arith}
use lib.ListN.{length}
use Rattle.wire.proofs.Laws.{length_part}
use Rattle.faults.proofs.Lines.{all_fit, some_fit}
use Rattle.faults.proofs.copy_line.Goals as goal

pub returns-then-n-room : goal.returns-then-n-room
returns-then-n-room c =
    let a = c.args in
    let l = c.line_length-n.ensures in
    let e = c.find_words-at.ensures.1 ∙ l.1 in
    record { value = sym (ap length e ∙ length_part _ _ a.text.now l.0); room_after = c.copy.ensures ∙ all_fit _ a.room.now a.text.now _ _ e l.0 (omega arith) }

pub returns : goal.returns
returns c =
    let a = c.args in
    let l = c.line_length-n.ensures in
    let e = c.find_words-at.ensures.1 ∙ l.1 in
    record { value = sym (ap length e ∙ length_part _ _ a.text.now l.0); room_after = c.copy-2.ensures ∙ some_fit _ a.room.now a.text.now _ _ e l.0 (omega arith) }
