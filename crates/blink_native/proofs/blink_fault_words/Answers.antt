use mathlib.Core.Path.{refl}
use native.Mathlib.Omega.{arith}
use borrow.Author.Tests.{lt-ltb}
use Rattle.blink_native.specs.Boundary.{fault_words}
use Rattle.blink_native.proofs.Told.{no_words, none-fitted}
use Rattle.blink_native.proofs.blink_fault_words.Goals as goal

pub returns-then-number-ge256 : goal.returns-then-number-ge256
returns-then-number-ge256 c = rw (no_words c.args.number (omega arith)) (record { value = refl; room_after = none-fitted _ })

pub returns : goal.returns
unfolding fault_words
returns c = rw (lt-ltb c.args.number 256 (omega arith)) c.copy_words.ensures
