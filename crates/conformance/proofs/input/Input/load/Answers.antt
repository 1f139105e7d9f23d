use native.Mathlib.Omega.{arith}
use Rattle.std.proofs.lemmas.List.{take_at}
use Rattle.conformance.proofs.input.Input.load.Goals as goal

pub returns-clause-zeros : goal.returns-clause-zeros
returns-clause-zeros c = rw (take_at c.load.new.room _ c.args.self.now.room.len (omega arith), c.load.ensures, c.deref_mut.ensures.value)
