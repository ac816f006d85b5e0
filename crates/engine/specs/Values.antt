-- Values, rows, and the rows that orders add.
use Rattle.std.specs.Prelude.{ℕ, Bool, true, cond, ◌&&◌, ℤ, pos, negsuc, Some, None, Option, int_le}
use Rattle.engine.specs.declared.Values.{Values}
use Rattle.engine.specs.declared.Op.{Op}
use Rattle.engine.specs.declared.Op.TheVariants.{First, Open as OpOpen, Turn as OpTurn, Skip as OpSkip}
use Rattle.engine.specs.declared.Row.{Row}
use Rattle.engine.specs.declared.orders.Order.{Order}
use Rattle.engine.specs.declared.orders.Order.TheVariants.{Open, Turn, Skip}

-- a number, or none where the value is missing
abbrev pub Value : Type 0
Value = Option ℤ

-- the numbers that values may have: those of at most 1,000,000,000 in size
abbrev pub in_range : ℤ → Bool
in_range z = int_le (negsuc 999999999) z && int_le z (pos 1000000000)

-- a number of at most 1,000,000,000 in size is a value, any other is missing
abbrev pub value_of : ℤ → Value
value_of z = cond (int_le (negsuc 999999999) z && int_le z (pos 1000000000)) (Some z) None

abbrev pub value_in_range : Value → Bool
value_in_range None = true
value_in_range (Some z) = in_range z

abbrev pub values_in_range : Values → Bool
values_in_range v =
    value_in_range v.c1 && value_in_range v.c2 && value_in_range v.c3
    && value_in_range v.c4 && value_in_range v.c5 && value_in_range v.c6

-- what `op` reads as
abbrev pub op_number : Op → ℕ
op_number First = 0
op_number OpOpen = 1
op_number OpTurn = 2
op_number OpSkip = 3

abbrev pub row_with : Op → Value → Values → Row
row_with op arg values = record { op = op; arg = arg; values = values }

-- row 0 comes by no order; its arg is missing, and so is that of a turn and any that is out of range
abbrev pub op_of : Option Order → Op
op_of None = First
op_of (Some (Open a)) = OpOpen
op_of (Some Turn) = OpTurn
op_of (Some (Skip a)) = OpSkip

abbrev pub arg_of : Option Order → Value
arg_of None = None
arg_of (Some (Open a)) = value_of a
arg_of (Some Turn) = None
arg_of (Some (Skip a)) = value_of a

-- the row that an order adds, or row 0, once the values of its page are known
abbrev pub row_of : Option Order → Values → Row
row_of o values = row_with (op_of o) (arg_of o) values
