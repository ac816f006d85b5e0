use Rattle.matching.proofs.truth.Context.+sum.Given as goal

abbrev pub decreases-sum : goal.decreases-sum
decreases-sum l = l.n
