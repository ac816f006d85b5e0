-- The reckoned calendar as a book: what each day of the cycle shows, and where orders lead.
use Rattle.std.specs.Prelude.{◌≡◌, ℕ, ◌+◌, ◌-◌, ◌*◌, ◌≤◌, true, List, [], ◌∷◌, pos, Some, None, Ok, Err, Result}
use Rattle.engine.specs.declared.Values.{Values}
use Rattle.engine.specs.declared.orders.Order.{Order}
use Rattle.engine.specs.declared.orders.Order.TheVariants.{Open, Turn, Skip}
use Rattle.engine.specs.declared.answers.Refusal.{Refusal}
use Rattle.engine.specs.declared.answers.Reply.TheVariants.{ToGive}
use Rattle.engine.specs.Values.{value_of, values_in_range}
use Rattle.engine.specs.Messages.{message}
use Rattle.engine.specs.Books.{Book, Lawful, takes, after, answer, reading}
use Rattle.engine.specs.Mechanisms.{Mechanism, opening, up_to, onward, page_at, book_from, value_ranged, mechanism_lawful}
use Rattle.calendar.specs.declared.day.Day.{Day}
use Rattle.calendar.specs.declared.reckoned.Reckoned.{Reckoned}
use Rattle.calendar.specs.Months.{Place, place, in_month, lengths, year_of, month_of, length_of, days_before, first_day_of}

-- the columns: day of the cycle, year, month, day of the month, days in that month; nothing in the sixth
abbrev values_at : ℕ → Place → Values
values_at day p = record {
  c1 = value_of (pos day);
  c2 = value_of (pos (year_of p.month));
  c3 = value_of (pos (month_of p.month));
  c4 = value_of (pos p.day);
  c5 = value_of (pos (length_of p.month));
  c6 = None;
}

-- the first day of the year that an open names
abbrev pub opened : Result ℕ Refusal → Result ℕ Refusal
opened (Ok year) = Ok (first_day_of year)
opened (Err why) = Err why

-- where an order leads from a day: open to the first day of a year, turn to the next day, skip that many days on
abbrev pub leads_from : ℕ → Order → Result ℕ Refusal
leads_from day (Open a) = opened (opening 30 a)
leads_from day Turn = up_to 10631 (day + 1)
leads_from day (Skip a) = onward 10631 day a

-- the number of the day that an order leads to
abbrev pub numbered : Result Day Refusal → Result ℕ Refusal
numbered (Ok day) = Ok day.number
numbered (Err why) = Err why

-- the states are the days of the cycle, 1 to 10,631
abbrev pub reckoning : Mechanism ℕ
reckoning = record { shows = λ day. values_at day (place lengths day); leads = leads_from }

-- the book of the reckoned calendar, which starts at day 1, and of an engine that stands at some day
abbrev pub reckoned : Book
reckoned = book_from reckoning 1

abbrev pub reckoned_book : Reckoned → Book
reckoned_book e = book_from reckoning e.day.number

-- what every book keeps, since the values shown are in range
ranged : (day : ℕ) → values_in_range (reckoning.shows day) ≡ true
ranged day = simp value_ranged

pub reckoned_lawful : (e : Reckoned) → Lawful (reckoned_book e)
reckoned_lawful e = mechanism_lawful reckoning ranged e.day.number

-- each order of a list is taken in turn
abbrev pub AllTaken : Book → List Order → Type 0
AllTaken b [] = Unit {0}
AllTaken b (o ∷ os) = (takes (b []) o ≡ true) × AllTaken (after b o) os

-- the page of each day of the cycle comes up by orders that are all taken
abbrev pub EachDayShown : Type 0
EachDayShown = (day : ℕ) → 1 ≤ day → day ≤ 10631 → (os : List Order) × (AllTaken reckoned os × (reckoned os ≡ page_at reckoning day))

-- the first day of each year is day 1 of its month 1
abbrev pub EachYearOpened : Type 0
EachYearOpened = (year : ℕ) → 1 ≤ year → year ≤ 30 → place lengths (first_day_of year) ≡ in_month (12 * (year - 1)) 1

-- the values of a date, written out
abbrev dated : ℕ → ℕ → ℕ → ℕ → ℕ → Values
dated day year month of_month days = record {
  c1 = Some (pos day);
  c2 = Some (pos year);
  c3 = Some (pos month);
  c4 = Some (pos of_month);
  c5 = Some (pos days);
  c6 = None;
}

-- the number by which an order is answered on some day
abbrev number_on : ℕ → Order → ℕ
number_on day o = (message (ToGive (answer (book_from reckoning day) o))).number

-- worked days, by the pages and the answers that an editor sees
pub record Worked : Type 0 where
  pub whole_cycle : days_before 360 lengths ≡ 10631
  pub second_year : reading (reckoned (Open (pos 2) ∷ [])) ≡ Ok (dated 355 2 1 1 30)
  pub third_year : reading (reckoned (Open (pos 3) ∷ [])) ≡ Ok (dated 710 3 1 1 30)
  pub skip_to_end : reading (book_from reckoning 10231 (Skip (pos 400) ∷ [])) ≡ Ok (dated 10631 30 12 29 29)
  pub skip_to_end_taken : number_on 10231 (Skip (pos 400)) ≡ 0
  pub skip_past_end : number_on 10232 (Skip (pos 400)) ≡ 13
  pub turn_at_end : number_on 10631 Turn ≡ 13
  pub skip_too_far : (day : ℕ) → number_on day (Skip (pos 401)) ≡ 12
  pub skip_nowhere : (day : ℕ) → number_on day (Skip (pos 0)) ≡ 12
