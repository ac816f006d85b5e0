use Rattle.std.proofs.Common.{rules}
use Rattle.columns.proofs.Showing.{column_at}
use Rattle.columns.proofs.ColumnsEngine.show.Goals as goal

pub returns-in-Ok-1-to-6 : goal.returns-in-Ok-1-to-6
returns-in-Ok-1-to-6 c = search (rules, column_at)
