use Rattle.message.proofs.Rules.{message-rules}
use Rattle.message.proofs.rules_of.Goals as goal

pub returns : goal.returns
returns c = let x = c.args.ignored in
    rw (c.from.ensures, c.from-2.ensures, c.from-3.ensures) (message-rules x.absent x.pads x.unused)
