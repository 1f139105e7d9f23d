use Rattle.std.proofs.Common.{◌≡◌, ◌∙◌, arith, rules, le-ltb, lt-ltb}
use Rattle.schema.specs.Layout.{width_in}
use Rattle.schema.proofs.group_width.Goals as goal

pub returns-then-group-lt64 : goal.returns-then-group-lt64
unfolding width_in
returns-then-group-lt64 c = let w : c.from.result ≡ width_in c.args.index.now c.args.group = c.from.ensures ∙ rw (lt-ltb _ _ c.if-group-lt64.true) in (w, omega (arith, w, c.requires.narrow c.args.group))

pub returns-else-group-lt64 : goal.returns-else-group-lt64
unfolding width_in
returns-else-group-lt64 c = (rw (le-ltb _ _ c.if-group-lt64.false), search rules)
