use Rattle.calendar.proofs.Worked.{worked}
use Rattle.pile_examples.proofs.Ledgers.{third_day_halts, empty_never_halts, missing_passes_first_row, going_back_halts, first_open_passes}
use Rattle.pile_examples.proofs.pile_examples_hold.Goals as goal

pub returns : goal.returns
returns c = record {
  days = worked;
  third_day_halts = third_day_halts;
  empty_never_halts = empty_never_halts;
  missing_passes_first_row = missing_passes_first_row;
  going_back_halts = going_back_halts;
  first_open_passes = first_open_passes;
}
