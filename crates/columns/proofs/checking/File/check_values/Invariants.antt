use Rattle.columns.specs.File.{Each, ColumnOk}
use Rattle.columns.proofs.checking.File.check_values.Given as goal

abbrev pub invariant-loop-offset : goal.invariant-loop-offset
invariant-loop-offset l = Each (ColumnOk l.self.words.now) l.offset-index
