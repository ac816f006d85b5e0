use Rattle.std.proofs.Common.{rules, below_more}
use Rattle.columns.proofs.Offsets.{offset_at, fits_at, column_ok, bad_at}
use Rattle.columns.proofs.checking.File.check_values.Goals as goal

pub check_column-requires : goal.check_column-requires
check_column-requires c = search (rules, offset_at, fits_at)

pub returns-in_err-check_column : goal.returns-in_err-check_column
returns-in_err-check_column c = search (rules, offset_at, bad_at)

pub loop-offset-preserved : goal.loop-offset-preserved
loop-offset-preserved c = below_more _ _ c.loop-offset.invariant (search (rules, column_ok, offset_at))
