use mathlib.Core.Path.{ap}
use mir.Syntax.{w64}
use mir.Facts.{to_z-of_z}
use native.Mathlib.Omega.{arith}
use Rattle.values.specs.Times.{date_text}
use Rattle.values.proofs.Rooms.{wrote-text, wrote-counts}
use Rattle.values.proofs.times.date.Goals as goal

pub returns : goal.returns
returns c = let w = wrote-counts (wrote-text (date_text c.args.days) c.put_date.ensures.1 (ap date_text (to_z-of_z {w = w64} c.ranges.days))) (omega (arith, c.put_date.ensures.0)) in
    record { prefix_len = w.0; out_after = w.1 }
