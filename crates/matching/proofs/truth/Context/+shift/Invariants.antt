use Rattle.matching.proofs.truth.Context.+shift.Given as goal

abbrev pub decreases-shift : goal.decreases-shift
decreases-shift l = l.n
