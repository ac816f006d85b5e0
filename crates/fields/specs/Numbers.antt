-- Numbers in decimal.
use Rattle.std.specs.Prelude.{ℕ, List, FitsSigned}
use Rattle.std.specs.Int.{w32}
use Rattle.std.specs.Str.Parse.{IsNumeral, without_leading_sign, signed_digits_value}

-- an optional sign and digits, of a number that an `i32` holds, which is what `parse` takes
abbrev pub IsDecimal : List ℕ → Type 0
IsDecimal text = IsNumeral 10 (without_leading_sign text) × FitsSigned w32 (signed_digits_value 10 text)
