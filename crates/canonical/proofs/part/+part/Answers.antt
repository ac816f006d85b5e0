use Rattle.std.proofs.Common.{◌≡◌, [], ◌∷◌, decimal, refl, rules}
use Rattle.std.specs.Fmt.{digits}
use Rattle.canonical.proofs.part.+part.Goals as goal

zero_text : 48 ∷ [] ≡ decimal 0
unfolding digits
zero_text = refl

pub Part::sum-returns-in_default : goal.Part::sum-returns-in_default
Part::sum-returns-in_default g t c = search (rules, zero_text)
