use Prim.Native.Nat.{◌+◌}
use mathlib.Core.Path.{refl}
use native.Mathlib.Omega.{arith}
use Rattle.wire.specs.Bytes.{part}
use Rattle.wire.proofs.Laws.{length_part}
use Rattle.writing.proofs.Laws.{put-byte, put-inline}
use Rattle.writing.proofs.write_inline.Goals as goal

pub returns : goal.returns
returns c = let a = c.args in let n = c.read_u32-count.ensures.0 in
    let m = c.read_u32-count.result in
    let f = put-byte a.at m a.out.now _ refl (omega arith) in
    let b = put-inline m a.capacity a.at (part m (a.pos + 4) a.sheet.now) a.out.now _ _ _ f c.copy.ensures c.fill.ensures (length_part m (a.pos + 4) a.sheet.now (omega (arith, n, c.requires.1))) (omega (arith, n, c.requires.2)) c.requires.4 in
    (rw (← n) b, rw (← n))
