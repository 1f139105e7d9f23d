use Rattle.schema.specs.Schema.{kind_width}
use Rattle.schema.specs.FieldKinds.{tested_kind}
use Rattle.schema.proofs.tested_width.Goals as goal

pub returns-in-Flag : goal.returns-in-Flag
unfolding kind_width tested_kind
returns-in-Flag c = λ es sw. rw c.in-Flag.is

pub returns-in-Millis : goal.returns-in-Millis
unfolding kind_width tested_kind
returns-in-Millis c = λ es sw. rw c.in-Millis.is

pub returns-in-Nanos : goal.returns-in-Nanos
unfolding kind_width tested_kind
returns-in-Nanos c = λ es sw. rw c.in-Nanos.is

pub returns-in-Symbol : goal.returns-in-Symbol
unfolding kind_width tested_kind
returns-in-Symbol c = λ es sw. rw c.in-Symbol.is
