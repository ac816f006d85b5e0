use Rattle.std.proofs.Common.{arith}
use Rattle.calendar.proofs.Days.{first_day_within, year_start}
use Rattle.calendar.proofs.Tables.{count}
use Rattle.calendar.proofs.table.first_day.Goals as goal

pub bounds-starts-first_month : goal.bounds-starts-first_month
bounds-starts-first_month c = omega (arith, c.month_starts-starts.ensures.size, count)

pub invariant_of-result : goal.invariant_of-result
invariant_of-result c =
    let start = year_start _ c.month_starts-starts.ensures c.args.year c.first_month.result c.requires.first c.requires.last c.first_month.ensures in
    record { from = omega (arith, start); to = omega (arith, start, first_day_within c.args.year c.requires.first c.requires.last) }
