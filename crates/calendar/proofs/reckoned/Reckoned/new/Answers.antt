use Rattle.calendar.proofs.Days.{each_day_shown, each_year_opened}
use Rattle.calendar.proofs.reckoned.Reckoned.new.Goals as goal

pub returns-clause-each_day : goal.returns-clause-each_day
returns-clause-each_day c = each_day_shown

pub returns-clause-each_year : goal.returns-clause-each_year
returns-clause-each_year c = each_year_opened
