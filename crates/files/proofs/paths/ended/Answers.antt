use Rattle.files.proofs.Laws.{ended-value, ended-last}
use Rattle.files.proofs.paths.ended.Goals as goal

pub returns-clause-value : goal.returns-clause-value
returns-clause-value c = ended-value _ _ _ c.min-n.ensures c.copy_from_slice.ensures.after

pub returns-clause-ended : goal.returns-clause-ended
returns-clause-ended c = ended-last _ _ _ c.min-n.ensures c.copy_from_slice.ensures.after
