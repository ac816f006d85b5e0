-- The months of the cycle: how long each is by the rule, and where a day falls, found by walking the months from day 1.
use Rattle.std.specs.Prelude.{ℕ, zero, suc, ◌+◌, ◌-◌, ◌*◌, ◌/◌, ◌%◌, Bool, false, cond, ◌&&◌, ◌||◌, List, [], ◌∷◌, ◌==◌, nat_le}

abbrev one_of : ℕ → List ℕ → Bool
one_of y [] = false
one_of y (x ∷ xs) = y == x || one_of y xs

-- the years of the cycle in which month 12 has 30 days
abbrev pub leap : ℕ → Bool
leap year = one_of year (2 ∷ 5 ∷ 7 ∷ 10 ∷ 13 ∷ 16 ∷ 18 ∷ 21 ∷ 24 ∷ 26 ∷ 29 ∷ [])

-- odd months have 30 days and even ones 29, but for month 12 of a leap year
abbrev pub days_in : ℕ → ℕ → ℕ
days_in year month = cond (month % 2 == 1) 30 (cond (month == 12 && leap year) 30 29)

-- Months of the cycle are counted from 0 through all its years; years, and the months of a year, from 1.
abbrev pub year_of : ℕ → ℕ
year_of k = k / 12 + 1

abbrev pub month_of : ℕ → ℕ
month_of k = k % 12 + 1

abbrev pub length_of : ℕ → ℕ
length_of k = days_in (year_of k) (month_of k)

-- the lengths of so many months in turn, from month k on
abbrev pub lengths_from : ℕ → ℕ → List ℕ
lengths_from k zero = []
lengths_from k (suc n) = length_of k ∷ lengths_from (suc k) n

-- the lengths of the 360 months of the cycle
unfoldable pub lengths : List ℕ
lengths = lengths_from 0 360

-- where a day falls: in which month, counted from 0, and on which day of it, counted from 1
pub record Place : Type 0 where
  pub month : ℕ
  pub day : ℕ

abbrev pub in_month : ℕ → ℕ → Place
in_month k d = record { month = k; day = d }

abbrev month_later : Place → Place
month_later p = in_month (suc p.month) p.day

-- Day d falls in the first month if that has at least d days, else in a later one. It is unfolded only where a proof asks for it, since
-- 360 months would make a goal too large.
unfoldable pub place : List ℕ → ℕ → Place
place [] d = in_month 0 d
place (n ∷ ns) d = cond (nat_le d n) (in_month 0 d) (month_later (place ns (d - n)))

-- the days of the months before month k
abbrev pub days_before : ℕ → List ℕ → ℕ
days_before zero ns = 0
days_before (suc k) [] = 0
days_before (suc k) (n ∷ ns) = n + days_before k ns

-- the first day of a year
abbrev pub first_day_of : ℕ → ℕ
first_day_of year = 1 + days_before (12 * (year - 1)) lengths
