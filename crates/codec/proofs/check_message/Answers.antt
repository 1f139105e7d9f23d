use Rattle.std.proofs.Common.{◌∙◌}
use Rattle.opening.proofs.Laws.{opened-verdict}
use Rattle.codec.proofs.check_message.Goals as goal

pub returns : goal.returns
returns c = let o = c.open_message.ensures in record { value = c.and.ensures ∙ opened-verdict _ _ _ _ _ o.opened; scratch_after = o.scratch_after }
