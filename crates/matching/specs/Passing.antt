-- When rows pass a rule.
use Rattle.std.specs.Prelude.{◌≡◌, ℕ, Bool, true, false, ◌&&◌, List, [], ◌∷◌, ◌==◌}
use Rattle.engine.specs.declared.Row.{Row}
use Rattle.grammar.specs.Tree.{Claim, Pattern}
use Rattle.rule.specs.declared.rule.Rule.{Rule}
use Rattle.rule.specs.Trees.{as_pattern, as_claim}
use Rattle.rule.specs.Held.{thing_of}
use Rattle.matching.specs.declared.truth.Context.{Context}
use Rattle.matching.specs.Truth.{claim_true}
use Rattle.matching.specs.Fits.{Passes}
use Rattle.matching.specs.Walk.{shift, passes?, Told}
use Rattle.matching.specs.Marks.{bit}

-- a claim is tried on a row while the newest row stays the same throughout one match
abbrev pub tested : Row → Claim → Row → Bool
tested newest c row = claim_true newest row c

-- the rows, newest first, pass the rule with this tree; with no rows at all no claim is ever tried
abbrev pub PassesRule : Pattern → List Row → Type 0
PassesRule p [] = Passes {R = Row} (λ c r. false) p []
PassesRule p (newest ∷ older) = Passes (tested newest) p (newest ∷ older)

-- whether rows pass can be decided; since this is a decision of that very relation, what is read off it cannot mean anything else
pub passes_rule? : (p : Pattern) (rows : List Row) → Dec (PassesRule p rows)
passes_rule? p [] = passes? (λ c r. false) p []
passes_rule? p (newest ∷ older) = passes? (tested newest) p (newest ∷ older)

-- the rule is tried on the rows: true if they pass
pub tried : Pattern → List Row → Bool
tried p rows = elim (passes_rule? p rows) [ yes h ↦ true | no h ↦ false ]

pub tried_told : (p : Pattern) (rows : List Row) → Told (tried p rows) (PassesRule p rows)
unfolding tried
tried_told p rows = by_decision (passes_rule? p rows)
  where
    by_decision : (d : Dec (PassesRule p rows)) → Told (elim d as (λ _. Bool) [ yes h ↦ true | no h ↦ false ]) (PassesRule p rows)
    by_decision (yes h) = (λ t. h, λ c. tt)
    by_decision (no h) = (λ t. absurd t, λ c. h c)

-- b is true exactly when the rows pass, and is what trying the rule gives
pub record Answered (p : Pattern) (rows : List Row) (b : Bool) : Type 0 where
  pub told : Told b (PassesRule p rows)
  pub as_tried : b ≡ tried p rows

-- the pattern at a node of a rule
abbrev pub pattern_at : Rule → ℕ → Pattern
pattern_at u n = as_pattern (thing_of u n)

-- r marks the claim at the node n, counted after lo others, if it is entered and true of the row
abbrev pub Marked : Context → ℕ → ℕ → Bool → ℕ → Type 0
Marked x n lo e r = (k : ℕ) → bit r k ≡ (e && claim_true x.newest.now x.row.now (as_claim (thing_of x.rule.now n)) && k == lo)

-- the marks r are those that the walk has in the pattern at the node n after one more row
abbrev pub Shifted : Context → ℕ → ℕ → Bool → ℕ → ℕ → Type 0
Shifted x n lo e m r = (k : ℕ) → bit r k ≡ shift (tested x.newest.now) x.row.now (bit m) e lo (pattern_at x.rule.now n) k
