use mathlib.Core.Path.{sym, ◌∙◌}
use Rattle.schema.specs.Faults.{judged}
use Rattle.parsing.proofs.Records.{record-none, record-cut, record-whole, record-other}
use Rattle.parsing.proofs.check_record.Goals as goal

pub returns-then-sheet-place : goal.returns-then-sheet-place
unfolding judged
returns-then-sheet-place c = let a = c.args in record { answer = rw (record-none a.sheet.now a.place c.requires.0 a.mark a.n c.if-sheet-place.true); inside = tt }

pub returns-then-not-has_mark : goal.returns-then-not-has_mark
unfolding judged
returns-then-not-has_mark c = let a = c.args in record { answer = rw (record-other a.sheet.now a.place c.requires.0 a.mark a.n c.if-sheet-place.false (sym c.has_mark.ensures ∙ c.if-not-has_mark.true)); inside = tt }

pub returns-then-sheet-place-2 : goal.returns-then-sheet-place-2
unfolding judged
returns-then-sheet-place-2 c = let a = c.args in record { answer = rw (record-cut a.sheet.now a.place c.requires.0 a.mark a.n c.if-sheet-place.false (sym c.has_mark.ensures ∙ c.if-not-has_mark.false) c.if-sheet-place-2.true); inside = tt }

pub returns : goal.returns
unfolding judged
returns c = let a = c.args in record { answer = rw (record-whole a.sheet.now a.place c.requires.0 a.mark a.n c.if-sheet-place.false (sym c.has_mark.ensures ∙ c.if-not-has_mark.false) c.if-sheet-place-2.false); inside = c.if-sheet-place-2.false }
