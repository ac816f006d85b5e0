-- A table of month starts, for any list of month lengths: what its test says of each entry, and the month in which a day falls.
-- Then what is so of the lengths of the cycle.
use Rattle.std.proofs.Common.{◌≡◌, ℕ, zero, suc, ◌+◌, ◌-◌, ◌%◌, ◌<◌, ◌≤◌, Bool, true, false, cond, ◌&&◌, eqb, leb, List, [], ◌∷◌, length, get_or, refl, ap, ◌∙◌, ⊎_elim, le_of_suc-le-suc, not-suc-le-zero, arith}
use Rattle.std.proofs.lemmas.Bool.{cases_lt, and_parts, false≢true, eqb-true, le-leb, lt-leb}
use Rattle.calendar.specs.Months.{leap, year_of, month_of, lengths_from, lengths, place, in_month, days_before}
use Rattle.calendar.specs.Starts.{starts_from, Starts}

size_of : (day : ℕ) (ns xs : List ℕ) → starts_from day ns xs ≡ true → length xs ≡ length ns
size_of day [] [] t = refl
size_of day [] (x ∷ xs) t = absurd (false≢true t)
size_of day (n ∷ ns) [] t = absurd (false≢true t)
size_of day (n ∷ ns) (x ∷ xs) t = ap suc (size_of (day + n) ns xs (and_parts _ _ t).1)

each_of : (day : ℕ) (ns xs : List ℕ) → starts_from day ns xs ≡ true → (k : ℕ) → k < length ns → get_or xs k 0 ≡ day + days_before k ns
each_of day [] xs t k h = absurd (not-suc-le-zero h)
each_of day (n ∷ ns) [] t k h = absurd (false≢true t)
each_of day (n ∷ ns) (x ∷ xs) t zero h = omega (arith, eqb-true x day (and_parts _ _ t).0)
each_of day (n ∷ ns) (x ∷ xs) t (suc k) h = omega (arith, each_of (day + n) ns xs (and_parts _ _ t).1 k (le_of_suc-le-suc h))

pub starts : (ns xs : List ℕ) → starts_from 1 ns xs ≡ true → Starts ns xs
starts ns xs t = record { size = size_of 1 ns xs t; each = each_of 1 ns xs t }

-- the walk stops in the month before whose end the day lies
falls : (ns : List ℕ) (d k : ℕ) → days_before k ns < d → d ≤ days_before (suc k) ns → place ns d ≡ in_month k (d - days_before k ns)
unfolding place
falls [] d zero low high = absurd (omega arith)
falls [] d (suc k) low high = absurd (omega arith)
falls (n ∷ ns) d zero low high =
    let stop : leb d n ≡ true = le-leb _ _ (omega arith) in
    let same : d ≡ d - 0 = omega arith in
    rw stop (ap (in_month 0) same)
falls (n ∷ ns) d (suc k) low high =
    let pass : leb d n ≡ false = lt-leb _ _ (omega arith) in
    let rest = falls ns (d - n) k (omega arith) (omega arith) in
    let same : d - n - days_before k ns ≡ d - (n + days_before k ns) = omega arith in
    rw (pass, rest) (ap (in_month (suc k)) same)

days_rise : (ns : List ℕ) (i j : ℕ) → i ≤ j → days_before i ns ≤ days_before j ns
days_rise ns zero j h = omega arith
days_rise ns (suc i) zero h = absurd (not-suc-le-zero h)
days_rise [] (suc i) (suc j) h = omega arith
days_rise (n ∷ ns) (suc i) (suc j) h = omega (arith, days_rise ns i j (le_of_suc-le-suc h))

module _ (ns xs : List ℕ) (table : Starts ns xs) where
  pub ascending : (i j : ℕ) → i ≤ j → j < length xs → get_or xs i 0 ≤ get_or xs j 0
  ascending i j h l =
      let size = table.size in
      omega (arith, table.each i (omega arith), table.each j (omega arith), days_rise ns i j h)

  pub found_in : (d k : ℕ) → k < length ns → days_before k ns < d → d ≤ days_before (suc k) ns → place ns d ≡ in_month k (d + 1 - get_or xs k 0)
  found_in d k h low high =
      let same : d - days_before k ns ≡ d + 1 - get_or xs k 0 = omega (arith, table.each k h) in
      falls ns d k low high ∙ ap (in_month k) same

  ends_by : (d k : ℕ) → d ≤ days_before (length ns) ns → k ≤ length xs → ((i : ℕ) → k ≤ i → i < length xs → d < get_or xs i 0) → d ≤ days_before k ns
  ends_by d k high l over =
      let size = table.size in
      ⊎_elim
      (λ h. omega (arith, over k (omega arith) (omega arith), table.each k h))
      (λ h. let all : length ns ≡ k = omega arith in rw all at high)
      (cases_lt k (length ns))

  -- a search that finds no such start says before which one the day lies
  pub between : (d k : ℕ) → 1 ≤ d → d ≤ days_before (length ns) ns → k ≤ length xs
      → ((i : ℕ) → i < k → get_or xs i 0 < d) → ((i : ℕ) → k ≤ i → i < length xs → d < get_or xs i 0)
      → (1 ≤ k) × (days_before (k - 1) ns < d) × (d ≤ days_before k ns)
  between d zero low high l under over = absurd (omega (arith, ends_by d zero high l over))
  between d (suc k) low high l under over =
      let size = table.size in
      let back : suc k - 1 ≡ k = omega arith in
      rw back (omega arith, omega (arith, under k (omega arith), table.each k (omega arith)), ends_by d (suc k) high l over)

-- no month of the calendar is empty
some_days : (odd late : Bool) → 0 < cond odd 30 (cond late 30 29)
some_days true late = omega arith
some_days false true = omega arith
some_days false false = omega arith

rises_from : (j n k : ℕ) → k < n → days_before k (lengths_from j n) < days_before (suc k) (lengths_from j n)
rises_from j zero k h = absurd (not-suc-le-zero h)
rises_from j (suc n) zero h = omega (arith, some_days (eqb (month_of j % 2) 1) (eqb (month_of j) 12 && leap (year_of j)))
rises_from j (suc n) (suc k) h = omega (arith, rises_from (suc j) n k (le_of_suc-le-suc h))

pub count : length lengths ≡ 360
unfolding lengths
count = refl

pub whole : days_before 360 lengths ≡ 10631
unfolding lengths
whole = refl

pub each_rises : (k : ℕ) → k < 360 → days_before k lengths < days_before (suc k) lengths
unfolding lengths
each_rises k h = rises_from 0 360 k h

-- a month begins on its day 1, within the cycle
pub first_of : (k : ℕ) → k < 360 → place lengths (1 + days_before k lengths) ≡ in_month k 1
first_of k h =
    let one : 1 + days_before k lengths - days_before k lengths ≡ 1 = omega arith in
    falls lengths (1 + days_before k lengths) k (omega arith) (omega (arith, each_rises k h)) ∙ ap (in_month k) one

pub begins_within : (k : ℕ) → k < 360 → days_before k lengths < 10631
begins_within k h = omega (arith, each_rises k h, days_rise lengths (suc k) 360 h, whole)
