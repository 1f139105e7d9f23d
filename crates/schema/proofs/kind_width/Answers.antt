use Rattle.std.proofs.Common.{◌∙◌, arith}
use Rattle.schema.specs.Schema.{kind_width}
use Rattle.schema.specs.FieldKinds.{kind_from}
use Rattle.schema.proofs.kind_width.Goals as goal

pub returns-in-Plain : goal.returns-in-Plain
unfolding kind_width kind_from
returns-in-Plain c = (λ es. rw c.in-Plain.is c.from.ensures, omega (arith, c.from.ensures))

pub returns-in-Number : goal.returns-in-Number
unfolding kind_width kind_from
returns-in-Number c = (λ es. rw c.in-Number.is (c.from-in-Number.ensures ∙ c.tested_width.ensures es _), omega (arith, c.from-in-Number.ensures))

pub returns-in-Inline : goal.returns-in-Inline
unfolding kind_width kind_from
returns-in-Inline c = (λ es. rw c.in-Inline.is (omega (arith, c.from-in-Inline.ensures)), omega (arith, c.from-in-Inline.ensures))

pub returns-in-Indirect : goal.returns-in-Indirect
unfolding kind_width kind_from
returns-in-Indirect c = (λ es. rw c.in-Indirect.is, omega arith)

pub returns-in-Static : goal.returns-in-Static
unfolding kind_width kind_from
returns-in-Static c = (λ es. rw c.in-Static.is c.group_width.ensures.0, omega (arith, c.group_width.ensures.1))

pub returns-in-Dynamic : goal.returns-in-Dynamic
unfolding kind_width kind_from
returns-in-Dynamic c = (λ es. rw c.in-Dynamic.is, omega arith)
