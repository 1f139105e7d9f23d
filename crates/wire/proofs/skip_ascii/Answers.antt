use mathlib.Core.Path.{◌≡◌, sym, ap, ◌∙◌}
use mathlib.Core.Bool.{true}
use native.Mathlib.Omega.{arith}
use lib.ListN.{take}
use Rattle.wire.specs.Utf8.{utf8}
use Rattle.wire.specs.Scan.{all_ascii}
use Rattle.wire.proofs.Forms.{ascii-part}
use Rattle.wire.proofs.skip_ascii.Goals as goal

pub loop-block-preserved : goal.loop-block-preserved
loop-block-preserved c =
    let s = c.loop-block.rest.now in
    let h = c.in-Some.ensures.cases in
    let e : all_ascii (take 128 s) ≡ true = rw h.0 at (sym c.all_ascii.ensures ∙ c.if-not-all_ascii.false) in
    c.loop-block.invariant ∙ ascii-part 128 0 s (omega arith) e ∙ ap utf8 (sym h.1)
