use Rattle.std.proofs.Common.{sym, ◌∙◌}
use Rattle.table.proofs.Stored.{stores-none, stores-width}
use Rattle.table.proofs.stores_own.Goals as goal

pub returns-then-not-has_mark : goal.returns-then-not-has_mark
returns-then-not-has_mark c =
    let f = c.if-not-has_mark.true in
    rw (f, ← c.group_place-p.ensures.0) (sym (stores-none c.args.table.now c.args.g _ (sym c.has_mark.ensures ∙ f)))

pub returns-else-not-has_mark : goal.returns-else-not-has_mark
returns-else-not-has_mark c =
    let a = c.args in
    let m = sym c.has_mark.ensures ∙ c.if-not-has_mark.false in
    rw (← c.group_place-p.ensures.0) (stores-width a.table.now a.index.now c.requires.1 a.g _ _ _ m c.stored_width.ensures.0 c.group_width.ensures.0)
