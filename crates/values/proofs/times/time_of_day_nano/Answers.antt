use native.Mathlib.Omega.{arith}
use Rattle.values.proofs.Rooms.{wrote-counts}
use Rattle.values.proofs.times.time_of_day_nano.Goals as goal

pub returns : goal.returns
returns c = let w = wrote-counts c.put_time.ensures.1 (omega (arith, c.put_time.ensures.0)) in record { prefix_len = w.0; out_after = w.1 }
