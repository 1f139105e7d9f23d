use Rattle.std.proofs.Common.{sym, ap, ◌∙◌, arith}
use Rattle.schema.specs.Schema.{find}
use Rattle.schema.specs.Table.{schema}
use Rattle.schema.proofs.Groups.{find-whole}
use Rattle.message.specs.Check.{levels_in}
use Rattle.message.specs.Scopes.{Opens}
use Rattle.message.proofs.CheckGroups.{group-short, group-unknown, group-other, group-deep, group-body}
use Rattle.message.proofs.open_dynamic.Goals as goal

pub returns-then-bytes-lt16 : goal.returns-then-bytes-lt16
unfolding Opens
returns-then-bytes-lt16 c = λ m o e i. let a = c.args in group-short _ (schema a.table.now) a.allowed a.frame.base a.bytes.now (levels_in a.frame.rules) c.if-bytes-lt16.true

pub returns-then-total-group : goal.returns-then-total-group
unfolding Opens
returns-then-total-group c = λ m o e i. let a = c.args in let gs = schema a.table.now in let n = c.group_total-total.ensures.0 ∙ c.requires.0.total in
    let g = c.find-group.ensures.0 ∙ find-whole gs _ _ n ∙ ap (find gs) c.read_u64.ensures in
    group-unknown _ gs a.allowed a.frame.base a.bytes.now (levels_in a.frame.rules) c.if-bytes-lt16.false _ g (omega (arith, n, c.if-total-group.true))

pub returns-then-levels_left-eq0 : goal.returns-then-levels_left-eq0
unfolding Opens
returns-then-levels_left-eq0 c = λ m o e i. let a = c.args in let gs = schema a.table.now in let n = c.group_total-total.ensures.0 ∙ c.requires.0.total in
    let g = c.find-group.ensures.0 ∙ find-whole gs _ _ n ∙ ap (find gs) c.read_u64.ensures in
    group-deep _ gs a.allowed a.frame.base a.bytes.now (levels_in a.frame.rules) c.if-bytes-lt16.false _ g (omega (arith, n, c.if-total-group.false)) (sym c.levels_left.ensures ∙ c.if-levels_left-eq0.true) (sym c.allows.ensures ∙ c.if-not-allows.false)

pub returns : goal.returns
returns c = λ m o e i. let a = c.args in let gs = schema a.table.now in let n = c.group_total-total.ensures.0 ∙ c.requires.0.total in
    let g = c.find-group.ensures.0 ∙ find-whole gs _ _ n ∙ ap (find gs) c.read_u64.ensures in
    rw (group-body _ gs a.allowed a.frame.base a.bytes.now (levels_in a.frame.rules) c.if-bytes-lt16.false _ g (omega (arith, n, c.if-total-group.false)) (λ z. c.if-levels_left-eq0.false (c.levels_left.ensures ∙ z)) (sym c.allows.ensures ∙ c.if-not-allows.false))
    (c.open_area.ensures a.table.now m o a.allowed c.requires.0 (omega (arith, n, c.if-total-group.false)) e i)

pub returns-then-not-allows : goal.returns-then-not-allows
unfolding Opens
returns-then-not-allows c = λ m o e i. let a = c.args in let gs = schema a.table.now in let n = c.group_total-total.ensures.0 ∙ c.requires.0.total in
    let g = c.find-group.ensures.0 ∙ find-whole gs _ _ n ∙ ap (find gs) c.read_u64.ensures in
    group-other _ gs a.allowed a.frame.base a.bytes.now (levels_in a.frame.rules) c.if-bytes-lt16.false _ g (omega (arith, n, c.if-total-group.false)) (sym c.allows.ensures ∙ c.if-not-allows.true)
