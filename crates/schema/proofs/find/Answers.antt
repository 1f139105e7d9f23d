use Rattle.std.proofs.Common.{◌≡◌, sym, ◌∙◌, arith, rules}
use Rattle.schema.proofs.Groups.{find-hit, find-miss, find-end}
use Rattle.schema.proofs.find.Goals as goal

pub returns-then-is_named : goal.returns-then-is_named
returns-then-is_named c = (sym (c.loop-i.invariant ∙ find-hit _ _ _ c.requires.0 _ _ c.loop-i-test.true (rw c.group_place.ensures.0 at (sym c.is_named.ensures) ∙ c.if-is_named.true)), search rules)

pub loop-i-preserved : goal.loop-i-preserved
loop-i-preserved c = c.loop-i.invariant ∙ find-miss _ _ _ c.requires.0 _ _ c.loop-i-test.true (rw c.group_place.ensures.0 at (sym c.is_named.ensures) ∙ c.if-is_named.false)

pub returns : goal.returns
returns c = let e : c.loop-i.i ≡ c.args.n = omega arith in (sym (c.loop-i.invariant ∙ find-end _ _ _ _ c.loop-i-test.false ∙ e), search rules)
