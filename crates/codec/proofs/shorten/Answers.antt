use mathlib.Core.Path.{refl}
use native.Mathlib.Omega.{arith}
use lib.ListN.{length}
use Rattle.schema.specs.Table.{schema}
use Rattle.codec.proofs.Laws.{writes-within}
use Rattle.codec.proofs.shorten.Goals as goal

pub write_message-requires : goal.write_message-requires
write_message-requires c = let w = c.requires.2 in (c.requires.1, (w.message, w.makes, omega (arith, w.most)))

pub returns : goal.returns
returns c = writes-within (schema c.args.table.now) c.args.sheet.now (length c.args.output.now) _ c.requires.2 (omega arith) _ _ refl _ c.write_message.ensures
