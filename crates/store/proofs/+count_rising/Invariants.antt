use Rattle.store.proofs.+count_rising.Given as goal

abbrev pub decreases-count_rising : goal.decreases-count_rising
decreases-count_rising l = l.n
