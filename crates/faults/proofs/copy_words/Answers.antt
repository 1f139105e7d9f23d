use Rattle.faults.specs.Words.{bytes, faults}
use borrow.Author.Rules.{rules}
use Rattle.faults.proofs.copy_words.Goals as goal

pub returns : goal.returns
unfolding bytes faults
returns c = search rules
