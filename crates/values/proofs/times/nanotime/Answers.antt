use mathlib.Core.Path.{ap}
use mir.Syntax.{w64}
use mir.Facts.{to_z-of_z}
use native.Mathlib.Omega.{arith}
use Rattle.values.specs.Times.{moment_text}
use Rattle.values.proofs.Rooms.{wrote-text, wrote-counts}
use Rattle.values.proofs.times.nanotime.Goals as goal

pub returns : goal.returns
returns c = let w = wrote-counts (wrote-text (moment_text 1000000000 9 c.args.ns) c.put_instant.ensures.1 (ap (moment_text 1000000000 9) (to_z-of_z {w = w64} c.ranges.ns))) (omega (arith, c.put_instant.ensures.0)) in
    record { prefix_len = w.0; out_after = w.1 }
