use Rattle.std.proofs.Common.{◌∙◌}
use native.Mathlib.Nat.{add-sub_cancel_left}
use Rattle.schema.specs.Schema.{text_ok}
use Rattle.schema.proofs.is_text.Goals as goal

pub returns-else-not-utf8 : goal.returns-else-not-utf8
unfolding text_ok
returns-else-not-utf8 c = rw c.if-not-utf8.false (c.is_utf8.ensures ∙ rw add-sub_cancel_left)

pub returns-then-not-utf8 : goal.returns-then-not-utf8
unfolding text_ok
returns-then-not-utf8 c = rw c.if-not-utf8.true
