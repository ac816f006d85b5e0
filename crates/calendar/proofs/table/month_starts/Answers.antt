use Rattle.calendar.specs.Months.{lengths, lengths_from}
use Rattle.calendar.proofs.Tables.{starts}
use Rattle.calendar.proofs.table.month_starts.Goals as goal

pub returns : goal.returns
unfolding lengths
returns c = starts (lengths_from 0 360) c.tested.result.now c.tested.ensures
