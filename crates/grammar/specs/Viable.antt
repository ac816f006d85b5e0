-- The first token with which no rule can go on.
use Rattle.std.specs.Prelude.{ℕ, ◌+◌, ◌<◌, ◌≤◌, List, ◌++◌, length, take}
use Rattle.grammar.specs.Symbol.{Symbol}
use Rattle.grammar.specs.Tree.{Pattern}
use Rattle.grammar.specs.Patterns.{Rule}

-- some continuation makes a rule of these symbols
abbrev pub Viable : List Symbol → Type 0
Viable ts = (us : List Symbol) × (x : Pattern) × Rule (ts ++ us) x

-- the symbols before k can go on to a rule; with the symbol k, if there is one, they cannot; and the whole is no rule
pub record FirstBad (ts : List Symbol) (k : ℕ) : Type 0 where
  pub within : k ≤ length ts
  pub before : Viable (take k ts)
  pub here : k < length ts → Viable (take (k + 1) ts) → ⊥
  pub none : (x : Pattern) → Rule ts x → ⊥
