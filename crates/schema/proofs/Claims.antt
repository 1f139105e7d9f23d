-- Request 4 is met.
use Rattle.schema.specs.Claims.{Halving}
use Rattle.schema.proofs.Symbols.{rank-order, halves, nine}

pub halving : Halving
halving = record { order = rank-order; step = halves; nine = nine }
