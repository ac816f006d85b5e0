-- Each day of the cycle comes up by turns, and orders stay within the cycle.
use Rattle.std.proofs.Common.{◌≡◌, ℕ, zero, suc, ◌+◌, ◌-◌, ◌*◌, ◌≤◌, true, leb, slice_index, List, [], ◌∷◌, Ok, sym, ap, ◌∙◌, subst, add-zero, arith}
use Rattle.std.proofs.lemmas.Bool.{le-leb}
use Rattle.engine.specs.declared.orders.Order.{Order}
use Rattle.engine.specs.declared.orders.Order.TheVariants.{Turn}
use Rattle.engine.specs.Books.{none}
use Rattle.engine.specs.Mechanisms.{page_at, book_from, landed, why_not}
use Rattle.calendar.specs.Months.{lengths, days_before, first_day_of}
use Rattle.calendar.specs.Starts.{Starts}
use Rattle.calendar.specs.Calendar.{reckoning, leads_from, AllTaken, EachDayShown, EachYearOpened}
use Rattle.calendar.proofs.Tables.{begins_within, count, first_of}

turns : ℕ → List Order
turns zero = []
turns (suc n) = Turn ∷ turns n

arrives : (n day : ℕ) → day + n ≤ 10631 → AllTaken (book_from reckoning day) (turns n) × (book_from reckoning day (turns n) ≡ page_at reckoning (day + n))
unfolding turns
arrives zero day h = (tt, ap (page_at reckoning) (sym (add-zero day)))
arrives (suc n) day h =
    let more : leb (day + 1) 10631 ≡ true = le-leb _ _ (omega arith) in
    let step : leads_from day Turn ≡ Ok (day + 1) = rw more in
    let to = ap (landed day) step in
    let rest = arrives n (day + 1) (omega arith) in
    let same : day + 1 + n ≡ day + suc n = omega arith in (
      (ap (λ r. none (why_not r)) step, subst (λ s. AllTaken (book_from reckoning s) (turns n)) (sym to) rest.0),
      ap (λ s. book_from reckoning s (turns n)) to ∙ rest.1 ∙ ap (page_at reckoning) same,
    )

pub each_day_shown : EachDayShown
each_day_shown day low high =
    let there = arrives (day - 1) 1 (omega arith) in
    let same : 1 + (day - 1) ≡ day = omega arith in
    (turns (day - 1), (there.0, there.1 ∙ ap (page_at reckoning) same))

pub each_year_opened : EachYearOpened
each_year_opened year low high = first_of (12 * (year - 1)) (omega arith)

-- a year begins on a day of the cycle
pub first_day_within : (year : ℕ) → 1 ≤ year → year ≤ 30 → first_day_of year ≤ 10631
first_day_within year low high = omega (arith, begins_within (12 * (year - 1)) (omega arith))

-- the table has that day at the year's first month
pub year_start : (starts : List ℕ) → Starts lengths starts → (year month : ℕ) → 1 ≤ year → year ≤ 30 → month ≡ 12 * (year - 1) → slice_index starts month ≡ first_day_of year
year_start starts table year month low high e = table.each month (omega (arith, count)) ∙ ap (λ k. 1 + days_before k lengths) e
