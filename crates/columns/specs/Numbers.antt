-- What is told of a refused list: a number, and the place of the word at fault. This is the only place that knows the numbers.
use Rattle.std.specs.Prelude.{ℕ, List, ◌++◌, codes, decimal}
use Rattle.columns.specs.declared.refusals.FileRefusal.{FileRefusal}
use Rattle.columns.specs.declared.refusals.FileRefusal.TheVariants.{Header, Offset, Value}

pub record Notice : Type 0 where
  pub number : ℕ
  pub place : ℕ

abbrev pub notice : FileRefusal → Notice
notice Header = record { number = 16; place = 0 }
notice (Offset p) = record { number = 17; place = p }
notice (Value p) = record { number = 18; place = p }

abbrev pub refusal_text : FileRefusal → List ℕ
refusal_text e = decimal (notice e).number ++ (codes " at " ++ decimal (notice e).place)
