use Rattle.std.proofs.Common.{sym, ap, arith}
use Rattle.calendar.specs.Months.{Place, lengths}
use Rattle.calendar.proofs.Tables.{count, found_in}
use Rattle.calendar.proofs.reckoned.Reckoned.at.Goals as goal

pub bounds-starts-month : goal.bounds-starts-month
bounds-starts-month c = omega (arith, c.month_starts-starts.ensures.size, count)

pub invariant_of-result : goal.invariant_of-result
invariant_of-result c =
    let falls = c.month_of-month.ensures in
    let there = found_in lengths c.month_starts-starts.result.now c.month_starts-starts.ensures c.args.day.number c.month_of-month.result (omega (arith, count)) falls.from falls.until in
    record { placed = sym (ap (λ (p : Place). p.month) there); dated = sym (ap (λ (p : Place). p.day) there) }
