use Rattle.std.proofs.Common.{◌≡◌, ℕ, ◌+◌, ◌<◌, ◌≤◌, take}
use Rattle.grammar.specs.Limits.{count, opening, closing, Deep}
use Rattle.rule.specs.Stored.{symbols_of}
use Rattle.rule.proofs.limits.shallow.Given as goal

abbrev pub invariant-loop-spot : goal.invariant-loop-spot
invariant-loop-spot l =
    (l.opened ≡ count opening (take l.spot-index (symbols_of l.tokens))) × (l.closed ≡ count closing (take l.spot-index (symbols_of l.tokens)))
    × (l.opened ≤ l.closed + 16) × (l.closed ≤ l.spot-index) × ((j : ℕ) → j < l.spot-index → Deep (symbols_of l.tokens) j → ⊥)
