use Rattle.store.proofs.Laws.{store-three}
use Rattle.store.proofs.write_flags.Goals as goal

pub returns : goal.returns
returns c = store-three c.args.at _ _ _ c.args.store.now c.requires
