use Rattle.columns.specs.File.{Each}
use Rattle.columns.specs.Headers.{RowOk}
use Rattle.columns.proofs.checking.File.check_column.Given as goal

abbrev pub invariant-loop-row : goal.invariant-loop-row
invariant-loop-row l = Each (RowOk l.self.words.now l.offset) l.row
