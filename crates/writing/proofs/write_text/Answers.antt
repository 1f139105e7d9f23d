use Prim.Native.Nat.{ℕ, ◌+◌}
use mathlib.Core.Path.{ap, ◌∙◌}
use mathlib.Core.List.{List}
use Rattle.wire.specs.Bytes.{part, splice}
use Rattle.writing.proofs.write_text.Goals as goal

pub returns : goal.returns
returns c = let a = c.args in let n = c.read_u32-size.ensures.0 in
    (rw (← n) (c.copy.ensures ∙ ap (λ (z : List ℕ). splice (4 + c.read_u32-size.result) a.ends.free (part (4 + c.read_u32-size.result) a.ends.pos a.sheet.now) z) c.write_offset.ensures), rw (← n), rw (← n))
