-- How large the value of a sum can be.
use Rattle.std.specs.Prelude.{ℕ, ◌*◌, ◌^◌, ◌≤◌, ℤ, Some, None, Option, unsigned_abs}

-- no larger than k terms can make it
abbrev pub Sized : ℕ → Option ℤ → Type 0
Sized k None = Unit {0}
Sized k (Some z) = unsigned_abs z ≤ k * 2 ^ 32
