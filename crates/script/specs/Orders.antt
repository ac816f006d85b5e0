-- The order that a line has: `T`, or `O` or `S`, one space and an argument. Any other line has none.
use Rattle.std.specs.Prelude.{ℕ, ◌+◌, ◌-◌, ◌*◌, Bool, true, cond, ◌&&◌, List, [], ◌∷◌, length, ℤ, pos, neg_ℤ, Some, None, fold, Option, ◌==◌, nat_le}
use Rattle.std.specs.Option.{option_map}
use Rattle.engine.specs.declared.orders.Order.{Order}
use Rattle.engine.specs.declared.orders.Order.TheVariants.{Turn, Open, Skip}

abbrev pub is_digit : ℕ → Bool
is_digit byte = nat_le 48 byte && nat_le byte 57

abbrev pub all_digits : List ℕ → Bool
all_digits [] = true
all_digits (byte ∷ bytes) = is_digit byte && all_digits bytes

-- one more digit at the end of a number
abbrev pub with_digit : ℕ → ℕ → ℕ
with_digit number byte = number * 10 + (byte - 48)

-- how many digits an argument may have
abbrev pub count_fits : ℕ → Bool
count_fits count = nat_le 1 count && nat_le count 9

-- the number that one to nine digits spell
abbrev pub number_of : List ℕ → Option ℕ
number_of bytes = cond (count_fits (length bytes) && all_digits bytes) (Some (fold with_digit 0 bytes)) None

-- a number with an optional minus, byte 45
abbrev pub argument_of : List ℕ → Option ℤ
argument_of [] = None
argument_of (byte ∷ bytes) = cond (byte == 45) (option_map (λ n. neg_ℤ (pos n)) (number_of bytes)) (option_map pos (number_of (byte ∷ bytes)))

-- the order that a letter stands for: `O` or `S`
abbrev pub lettered : ℕ → ℤ → Option Order
lettered letter argument = cond (letter == 79) (Some (Open argument)) (cond (letter == 83) (Some (Skip argument)) None)

abbrev pub with_argument : ℕ → Option ℤ → Option Order
with_argument letter None = None
with_argument letter (Some argument) = lettered letter argument

-- a line of one byte, `T`, or of a letter, a space and an argument
abbrev pub order_of : List ℕ → Option Order
order_of [] = None
order_of (letter ∷ []) = cond (letter == 84) (Some Turn) None
order_of (letter ∷ space ∷ text) = cond (space == 32) (with_argument letter (argument_of text)) None
