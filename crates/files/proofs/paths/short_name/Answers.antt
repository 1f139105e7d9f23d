use borrow.Author.Rules.{rules}
use Rattle.files.proofs.Laws.{short-none, short-lent}
use Rattle.files.proofs.paths.short_name.Goals as goal

pub returns-then-number-gt20 : goal.returns-then-number-gt20
returns-then-number-gt20 c = (short-none _ _ c.if-number-gt20.true, search rules)

pub returns : goal.returns
returns c =
    let a = c.append-behind in
    let b = c.append-behind-2 in
    (short-lent _ _ _ _ _ _ _ _ c.told-room a.auto.room b.auto.room c.if-number-gt20.false a.ensures.0 b.ensures.0 c.append.ensures.0, c.append.ensures.1)
