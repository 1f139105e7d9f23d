use Rattle.std.proofs.Common.{◌≡◌, true, false, sym, ◌∙◌}
use Rattle.settings.specs.Store.{flags_ok, follows}
use Rattle.store.proofs.may_follow.Goals as goal

pub returns-then-are_good : goal.returns-then-are_good
unfolding follows
returns-then-are_good c = let f = c.args.flags in let e : flags_ok f.absent f.pads f.unused ≡ true = sym c.are_good.ensures ∙ c.if-are_good.true in
    rw e (rw (c.newest.ensures.0, c.from.ensures, c.from-then-are_good.ensures) at c.is_above.ensures)

pub returns-else-are_good : goal.returns-else-are_good
unfolding follows
returns-else-are_good c = let f = c.args.flags in let e : flags_ok f.absent f.pads f.unused ≡ false = sym c.are_good.ensures ∙ c.if-are_good.false in
    c.if-are_good.false ∙ rw e
