use Rattle.columns.specs.File.{Each, OffsetOk}
use Rattle.columns.proofs.checking.File.check_offsets.Given as goal

abbrev pub invariant-loop-column : goal.invariant-loop-column
invariant-loop-column l = Each (OffsetOk l.self.words.now) l.column
