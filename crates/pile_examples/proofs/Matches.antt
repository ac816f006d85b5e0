-- Rows that pass rules, from the bytes of the rules on.
use Rattle.std.proofs.Common.{List, [], ◌∷◌, refl}
use Rattle.engine.specs.declared.Row.{Row}
use Rattle.grammar.specs.Tree.{empty}
use Rattle.matching.specs.Fits.{fits_empty}
use Rattle.matching.specs.Passing.{PassesRule}

-- `_`
pub empty_passes : (rows : List Row) → PassesRule empty rows
empty_passes [] = record { beginning = []; others = []; joined = refl; fits = fits_empty }
empty_passes (newest ∷ older) = record { beginning = []; others = newest ∷ older; joined = refl; fits = fits_empty }
