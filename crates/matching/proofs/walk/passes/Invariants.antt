use Rattle.std.specs.Iterator.Adapters.{rev_source}
use Rattle.std.specs.Slice.Iter.{iter_rest}
use Rattle.matching.proofs.Trials.{Left}
use Rattle.matching.proofs.walk.passes.Given as goal

abbrev pub invariant-loop-row : goal.invariant-loop-row
invariant-loop-row l = Left l.rule l.rows l.newest l.entering l.marks (iter_rest (rev_source l.row-iterator))
