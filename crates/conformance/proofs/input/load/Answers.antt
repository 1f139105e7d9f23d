use Rattle.std.proofs.lemmas.List.{length-take-le}
use native.Mathlib.Omega.{arith}
use borrow.Author.Tests.{le-leb, lt-leb}
use Rattle.conformance.specs.Vectors.{behind}
use Rattle.conformance.proofs.Laws.{loaded}
use Rattle.conformance.proofs.input.load.Goals as goal

pub returns-then-room-length : goal.returns-then-room-length
unfolding behind
returns-then-room-length c = rw (lt-leb _ _ c.if-room-length.true)

pub returns-then-length-stored : goal.returns-then-length-stored
unfolding behind
returns-then-length-stored c = rw (le-leb _ _ c.if-room-length.false, lt-leb _ _ c.if-length-stored.true)

pub returns : goal.returns
returns c =
    let l = length-take-le c.args.stored c.fill.new.out (omega arith) in
    rw c.fill.ensures (loaded c.args.stored c.args.length c.read_full.new.buf c.args.room.now (omega (arith, l)) c.if-length-stored.false c.if-room-length.false)
