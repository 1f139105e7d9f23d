use mathlib.Core.Path.{sym}
use Prim.Native.Nat.{◌+◌}
use native.Mathlib.Omega.{arith}
use lib.ListN.{length}
use borrow.Author.Tests.{lt-leb}
use Rattle.parsing.proofs.Records.{no-mark}
use Rattle.parsing.proofs.stands.Goals as goal

pub returns-else-place-sheet : goal.returns-else-place-sheet
returns-else-place-sheet c = let a = c.args in rw (lt-leb (a.place + 2) (length a.sheet.now) c.if-place-sheet.false) (sym (no-mark a.sheet.now a.place c.requires.0 a.mark (omega arith) c.if-place-sheet.false))
