use mathlib.Core.Path.{sym}
use lib.Seq.{length-take-le}
use Rattle.floats.proofs.text.Goals as goal

pub returns : goal.returns
returns c = let b = c.float.new.self in (b.inside, sym (length-take-le b.len b.bytes b.inside))
