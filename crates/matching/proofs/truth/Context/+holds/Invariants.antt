use Rattle.matching.proofs.truth.Context.+holds.Given as goal

abbrev pub decreases-holds : goal.decreases-holds
decreases-holds l = l.n
