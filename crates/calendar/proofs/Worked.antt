-- The worked days, computed from the definitions.
use Rattle.std.proofs.Common.{refl}
use Rattle.calendar.specs.Months.{lengths, place}
use Rattle.calendar.specs.Calendar.{Worked}
use Rattle.calendar.proofs.Tables.{whole}

pub worked : Worked
unfolding lengths place
worked = record {
  whole_cycle = whole;
  second_year = refl;
  third_year = refl;
  skip_to_end = refl;
  skip_to_end_taken = refl;
  skip_past_end = refl;
  turn_at_end = refl;
  skip_too_far = λ _. refl;
  skip_nowhere = λ _. refl;
}
