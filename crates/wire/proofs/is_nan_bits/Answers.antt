use Rattle.wire.proofs.Nan.{above}
use Rattle.wire.proofs.is_nan_bits.Goals as goal

pub returns : goal.returns
returns c = above c.args.bits
