use Rattle.std.proofs.Common.{refl, arith}
use Rattle.schema.specs.Table.{schema}
use Rattle.parsing.specs.Parse.{group_of, Within}
use Rattle.parsing.proofs.Answers.{handed}
use Rattle.parsing.proofs.Groups.{sheet-long, sheet-more, sheet-whole, sheet-stopped}
use Rattle.parsing.proofs.check_sheet.Goals as goal

pub returns-then-sheet-gt1048576 : goal.returns-then-sheet-gt1048576
returns-then-sheet-gt1048576 c = sheet-long (schema c.args.table.now) c.args.sheet.now c.if-sheet-gt1048576.true

pub check_group-requires : goal.check_group-requires
unfolding Within
check_group-requires c = (c.requires, record { small = omega arith; inside = omega arith; low = omega arith }, refl)

pub returns-in_err-group : goal.returns-in_err-group
unfolding group_of
returns-in_err-group c = rw (handed c.from_residual.ensures.1) (sheet-stopped (schema c.args.table.now) c.args.sheet.now c.if-sheet-gt1048576.false _ c.in_err-group.ensures)

pub returns-then-group-sheet : goal.returns-then-group-sheet
unfolding group_of
returns-then-group-sheet c = sheet-more (schema c.args.table.now) c.args.sheet.now c.if-sheet-gt1048576.false _ c.in_ok-group.ensures c.if-group-sheet.true

pub returns : goal.returns
unfolding group_of
returns c = sheet-whole (schema c.args.table.now) c.args.sheet.now c.if-sheet-gt1048576.false _ c.in_ok-group.ensures c.if-group-sheet.false
