use Rattle.std.proofs.Common.{◌≡◌, suc, ◌-◌, ◌<◌, ◌≤◌, Ok, Err, arith}
use Rattle.std.proofs.lemmas.List.Sorted.{searched}
use Rattle.calendar.specs.Months.{lengths, days_before}
use Rattle.calendar.proofs.Tables.{ascending, between, count, whole, each_rises}
use Rattle.calendar.proofs.table.month_of.Goals as goal
use Rattle.calendar.proofs.table.month_of.Goals.{In-Err}

before : (c : In-Err) → (1 ≤ c.in-Err.k) × (days_before (c.in-Err.k - 1) lengths < c.args.day.number) × (c.args.day.number ≤ days_before c.in-Err.k lengths)
before c =
    let xs = c.args.starts.now in
    let found = searched xs c.args.day.number (Err c.in-Err.k) c.in-Err.ensures.position (ascending lengths xs c.requires) in
    between lengths xs c.requires c.args.day.number c.in-Err.k c.args.day.from (rw (count, whole) c.args.day.to) found.0 found.1 found.2

pub overflow_sub-result : goal.overflow_sub-result
overflow_sub-result c = (before c).0

pub returns-in-Ok : goal.returns-in-Ok
returns-in-Ok c =
    let xs = c.args.starts.now in
    let k = c.in-Ok.k in
    let found = searched xs c.args.day.number (Ok k) c.in-Ok.ensures.position (ascending lengths xs c.requires) in
    let within : k < 360 = omega (arith, c.requires.size, count) in
    let starts = c.requires.each k (omega (arith, count)) in
    record { within = within; from = omega (arith, found.1); until = omega (arith, found.1, each_rises k within) }

pub returns-in-Err : goal.returns-in-Err
returns-in-Err c =
    let there = before c in
    let next : suc (c.in-Err.k - 1) ≡ c.in-Err.k = omega (arith, there.0) in
    record { within = omega (arith, there.0, c.in-Err.ensures.bound, c.requires.size, count); from = there.1; until = rw next there.2 }
