use Prim.Native.Nat.{ℕ}
use mathlib.Core.Path.{ap, ◌∙◌}
use mathlib.Core.List.{List}
use native.Mathlib.Omega.{arith}
use Rattle.wire.specs.Bytes.{splice}
use Rattle.sheet.proofs.ShowReaders.{is-ST, inline-written}
use Rattle.sheet.proofs.show_inline.Goals as goal

pub returns : goal.returns
returns c = let a = c.args in let n = c.from-count.ensures in
    let y = inline-written c.from-count.result a.pos _ a.out.now _ _ _ (c.write_mark.ensures ∙ ap (λ (x : List ℕ). splice 2 a.pos x a.out.now) is-ST) c.write_u32.ensures c.copy.ensures (omega (arith, n, c.requires.1)) in
    (rw (← n) y, rw (← n))
