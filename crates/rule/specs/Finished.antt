-- What is made of tokens that are within the limits.
use Rattle.std.specs.Prelude.{◌≡◌, ℕ, length, Ok, Err, Result}
use Rattle.grammar.specs.declared.Refusal.{Refusal}
use Rattle.grammar.specs.Viable.{FirstBad}
use Rattle.rule.specs.declared.rule.Rule.{Rule}
use Rattle.rule.specs.declared.tokens.Tokens.{Tokens}
use Rattle.rule.specs.Stored.{symbols_of}
use Rattle.rule.specs.Readers.{Faulted, WholeIs}

-- the rule of these tokens under a watch number, or the refusal of the token that no rule can go on with
abbrev pub RuleOf : ℕ → Tokens → Result Rule Refusal → Type 0
RuleOf w t (Ok u) = (u.watch ≡ w) × (u.tokens ≡ length (symbols_of t)) × WholeIs (symbols_of t) u.tree u.root
RuleOf w t (Err e) = Faulted t (FirstBad (symbols_of t)) e
