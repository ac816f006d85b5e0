-- That a text has one answer under a watch number: it is allowed with one tree, or it has one refusal, and never both.
use Rattle.std.specs.Prelude.{◌≡◌, ℕ, List, ℤ}
use Rattle.grammar.specs.declared.Refusal.{Refusal}
use Rattle.grammar.specs.Tree.{Pattern}
use Rattle.grammar.specs.Patterns.{Rule}
use Rattle.grammar.specs.Cutting.{Placed, symbols, Cut}
use Rattle.grammar.specs.Reading.{Allowed, Refused}

abbrev pub OneTree : Type 0
OneTree = (text : List ℕ) (ts us : List Placed) (x y : Pattern) → Cut 0 text ts → Rule (symbols ts) x → Cut 0 text us → Rule (symbols us) y → (ts ≡ us) × (x ≡ y)

abbrev pub NeverBoth : Type 0
NeverBoth = (n : ℤ) (text : List ℕ) (ts : List Placed) (x : Pattern) (e : Refusal) → Allowed n text ts x → Refused n text e → ⊥

abbrev pub OneRefusal : Type 0
OneRefusal = (n : ℤ) (text : List ℕ) (e f : Refusal) → Refused n text e → Refused n text f → e ≡ f
