use Prim.Native.Nat.{◌-◌}
use mathlib.Core.Path.{sym, ◌∙◌}
use native.Mathlib.Omega.{arith}
use Rattle.wire.proofs.Copies.{copied-first}
use Rattle.wire.proofs.copy_word.Goals as goal

pub returns : goal.returns
returns c = let a = c.args in let R = c.requires in
    c.copy_rest-2.ensures ∙ sym (copied-first a.n 8 (a.n - 8) a.from a.at a.s.now a.out.now _ (omega (arith, c.if-n-lt8.false)) R.1 R.2 c.copy_bytes.ensures)
