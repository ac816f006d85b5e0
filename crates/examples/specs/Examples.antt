-- The worked examples, in one statement. It grows with the layers.
use Rattle.std.specs.Prelude.{◌≡◌, ℕ, List, [], ◌∷◌, ℤ, None, codes}
use Rattle.engine.specs.declared.Row.{Row}
use Rattle.grammar.specs.declared.Refusal.{Refusal}
use Rattle.grammar.specs.Numbers.{number_of, place_of}
use Rattle.grammar.specs.Tree.{Pattern, claim, truth}
use Rattle.grammar.specs.Cutting.{Placed}
use Rattle.grammar.specs.Reading.{Numbered, Allowed, Refused}
use Rattle.matching.specs.Passing.{PassesRule}

-- under each watch number, the text is refused by this number at this place
abbrev pub RefusedBy : ℕ → ℕ → List ℕ → Type 0
RefusedBy number place text = (n : ℤ) → Numbered n → (e : Refusal) × Refused n text e × (number_of e ≡ number) × (place_of e ≡ place)

-- under each watch number, the text is allowed with this tree
abbrev pub ReadAs : Pattern → List ℕ → Type 0
ReadAs x text = (n : ℤ) → Numbered n → (ts : List Placed) × Allowed n text ts x

-- under each watch number, the text is allowed, and the rows (newest first) that P picks pass its tree
abbrev pub LetsBy : (List Row → Type 0) → List ℕ → Type 0
LetsBy P text = (n : ℤ) → Numbered n → (x : Pattern) × (ts : List Placed) × Allowed n text ts x × ((rows : List Row) → P rows → PassesRule x rows)

abbrev pub Any : List Row → Type 0
Any rows = Unit {0}

-- there is a newest row, and its column 6 is missing
abbrev pub NoColumn6 : List Row → Type 0
NoColumn6 [] = ⊥
NoColumn6 (newest ∷ older) = newest.values.c6 ≡ None

pub record Examples : Type 0 where
  pub always_true : ReadAs (claim truth) (codes "[true]")
  pub empty_text : RefusedBy 7 0 (codes "")
  pub no_comparison : RefusedBy 7 3 (codes "[c1]")
  pub unknown_word : RefusedBy 3 1 (codes "[c7 = 1]")
  pub empty_pattern : LetsBy Any (codes "_")
  pub missing_is_unequal : LetsBy NoColumn6 (codes "[not c6 = 1]")
