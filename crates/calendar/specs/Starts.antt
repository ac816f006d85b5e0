-- A table of month starts, for any list of month lengths. Only private functions cite it.
use Rattle.std.specs.Prelude.{◌≡◌, ℕ, ◌+◌, ◌<◌, Bool, true, false, ◌&&◌, List, [], ◌∷◌, length, ◌==◌, slice_index}
use Rattle.calendar.specs.Months.{days_before}

-- the test of a table: the first month starts on the day given, and each other one where the month before it ends
abbrev pub starts_from : ℕ → List ℕ → List ℕ → Bool
starts_from day [] [] = true
starts_from day [] (x ∷ xs) = false
starts_from day (n ∷ ns) [] = false
starts_from day (n ∷ ns) (x ∷ xs) = x == day && starts_from (day + n) ns xs

-- what the test comes to: the table has the first day of each month
pub record Starts (ns xs : List ℕ) : Type 0 where
  pub size : length xs ≡ length ns
  pub each : (k : ℕ) → k < length ns → slice_index xs k ≡ 1 + days_before k ns
