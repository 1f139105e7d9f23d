use lib.Bits.{bit_and}
use borrow.Author.Tests.{eqb-true}
use Rattle.wire.proofs.Forms.{eight-ascii}
use Rattle.wire.proofs.has_eight.Goals as goal

pub returns : goal.returns
returns c = λ t. eight-ascii c.args.s.now c.args.at c.requires.0 c.requires.1 (let z = eqb-true (bit_and c.read_u64.result 0x8080808080808080) 0 t in rw c.read_u64.ensures at z)
