-- The number and the place of each refusal, as an editor sees them.
use Rattle.std.specs.Prelude.{ℕ, List, ◌++◌, codes, decimal}
use Rattle.grammar.specs.declared.Refusal.{Refusal}
use Rattle.grammar.specs.declared.Refusal.TheVariants.{WatchNumber, TextTooLong, NotAToken, TooManyTokens, TooDeep, TooManyClaims, Unexpected}

abbrev pub number_of : Refusal → ℕ
number_of WatchNumber = 1
number_of TextTooLong = 2
number_of (NotAToken p) = 3
number_of (TooManyTokens p) = 4
number_of (TooDeep p) = 5
number_of (TooManyClaims p) = 6
number_of (Unexpected p) = 7

abbrev pub place_of : Refusal → ℕ
place_of WatchNumber = 0
place_of TextTooLong = 0
place_of (NotAToken p) = p
place_of (TooManyTokens p) = p
place_of (TooDeep p) = p
place_of (TooManyClaims p) = p
place_of (Unexpected p) = p

abbrev pub refusal_text : Refusal → List ℕ
refusal_text e = decimal (number_of e) ++ (codes " at " ++ decimal (place_of e))
