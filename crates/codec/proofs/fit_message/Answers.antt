use Rattle.std.proofs.Common.{refl, length, arith}
use Rattle.schema.specs.Faults.{fault_at}
use Rattle.schema.specs.Table.{schema}
use Rattle.codec.proofs.Laws.{writes_nothing, written-47-room, written-47-most, counted-within, writes-within}
use Rattle.codec.proofs.fit_message.Goals as goal
use Rattle.codec.proofs.fit_message.Goals.{then-output-size-via-then-output-size as short, then-output-size-via-else-output-size+then-size-gt65536 as long}

pub returns-then-output-size : goal.returns-then-output-size
returns-then-output-size c = let a = c.args in writes_nothing _ (fault_at 47 0) _ (elim c.then-output-size.branch [
  | short w ↦ written-47-room (schema a.table.now) a.sheet.now (length a.output.now) _ c.requires.1 w.if-output-size.true
  | long w ↦ written-47-most (schema a.table.now) a.sheet.now (length a.output.now) _ c.requires.1 w.if-size-gt65536.true
])

pub write_message-requires : goal.write_message-requires
write_message-requires c = let w = counted-within (schema c.args.table.now) c.args.sheet.now (length c.args.output.now) _ c.requires.1 (omega arith) in (c.requires.0, (w.message, w.makes, omega (arith, w.most)))

pub returns : goal.returns
returns c = let gs = schema c.args.table.now in writes-within gs c.args.sheet.now (length c.args.output.now) _ (counted-within gs c.args.sheet.now (length c.args.output.now) _ c.requires.1 (omega arith)) c.if-output-size.false _ _ refl _ c.write_message.ensures
