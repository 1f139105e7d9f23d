use mathlib.Core.Path.{sym, ◌∙◌}
use native.Mathlib.Omega.{arith}
use lib.ListN.{length, drop}
use Rattle.table.proofs.Laws.{record-field, record-symbol, record-group, record-enum, weaker}
use Rattle.schema.specs.Table.{enums, schema}
use borrow.Author.Rules.{rules}
use Rattle.table.proofs.check_record.Goals as goal

pub returns-then-has_mark : goal.returns-then-has_mark
returns-then-has_mark c = let a = c.args in
    let pre = c.requires in
    let q = record-field (length (enums a.table.now)) (schema a.table.now) a.next a.low a.p (drop a.p a.table.now) (sym c.has_mark.ensures ∙ c.if-has_mark.true) in cc (q, c.check_field.ensures, c.saturating_sub.ensures, c.enum_total.ensures.0, c.group_total.ensures.0, pre.1.enumerations, pre.1.total)

pub returns-then-has_mark-2 : goal.returns-then-has_mark-2
returns-then-has_mark-2 c = let a = c.args in
    c.check_symbol.ensures ∙ sym (record-symbol (length (enums a.table.now)) (schema a.table.now) a.next a.low a.p (drop a.p a.table.now) (sym c.has_mark.ensures ∙ c.if-has_mark.false) (sym c.has_mark-2.ensures ∙ c.if-has_mark-2.true))

pub check_group-requires : goal.check_group-requires
check_group-requires c = let pre = c.requires in
    let q = pre.1 in (search rules, weaker q.placed pre.2, search rules, omega (arith, q.few, pre.2), q.long, pre.3)

pub returns-then-has_group_mark : goal.returns-then-has_group_mark
returns-then-has_group_mark c = let a = c.args in
    c.check_group.ensures ∙ sym (record-group (length (enums a.table.now)) (schema a.table.now) a.next a.low a.p (drop a.p a.table.now) (sym c.has_mark.ensures ∙ c.if-has_mark.false) (sym c.has_mark-2.ensures ∙ c.if-has_mark-2.false) (sym c.has_group_mark.ensures ∙ c.if-has_group_mark.true))

pub returns : goal.returns
returns c = let a = c.args in
    c.check_enum.ensures ∙ sym (record-enum (length (enums a.table.now)) (schema a.table.now) a.next a.low a.p (drop a.p a.table.now) (sym c.has_mark.ensures ∙ c.if-has_mark.false) (sym c.has_mark-2.ensures ∙ c.if-has_mark-2.false) (sym c.has_group_mark.ensures ∙ c.if-has_group_mark.false))
